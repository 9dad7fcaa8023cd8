-- Texts as lists of bytes: pieces between separators, and numbers in decimal (document 01, "Script program").
use Rattle.std.specs.Prelude.{ℕ, zero, suc, ◌+◌, ◌*◌, ◌-◌, ◌/◌, ◌%◌, Bool, true, cond, ◌&&◌, List, [], ◌∷◌, ◌++◌, eqb}
use Rattle.std.specs.Prelude.{ltb, leb, length, take, drop}
use Prim.Native.String.{String, len, char_at}
use Prim.Native.Char.{code}
use Rattle.std.proofs.Math.Option.{Option, none, some}

abbrev pub codes : ℕ → ℕ → String → List ℕ
codes zero i s = []
codes (suc n) i s = code (char_at s i) ∷ codes n (suc i) s

-- The bytes of an ASCII text.
abbrev pub ascii : String → List ℕ
ascii s = codes (len s) 0 s

-- ---- Pieces

-- The first piece with a byte more in front. There always is one.
abbrev pub longer : ℕ → List (List ℕ) → List (List ℕ)
longer b [] = []
longer b (piece ∷ pieces) = (b ∷ piece) ∷ pieces

-- What stands before, between and after the separators: one piece more than there are separators.
abbrev pub split : ℕ → List ℕ → List (List ℕ)
split separator [] = [] ∷ []
split separator (b ∷ text) = cond (eqb b separator) ([] ∷ split separator text) (longer b (split separator text))

-- ---- Numbers

abbrev pub is_digit : ℕ → Bool
is_digit b = leb 48 b && leb b 57

abbrev pub all_digits : List ℕ → Bool
all_digits [] = true
all_digits (b ∷ text) = is_digit b && all_digits text

-- What digits say that stand behind digits that say n.
abbrev pub value_after : ℕ → List ℕ → ℕ
value_after n [] = n
value_after n (b ∷ text) = value_after (10 * n + (b - 48)) text

-- One to ten digits, leading zeros among them, that fit 32 bits.
abbrev pub is_number : List ℕ → Bool
is_number text = leb 1 (length text) && leb (length text) 10 && all_digits text && ltb
    (value_after 0 text) 4_294_967_296

unfoldable pub number_in : List ℕ → Option ℕ
number_in text = cond (is_number text) (some (value_after 0 text)) none

unfoldable pub decimal_within : ℕ → ℕ → List ℕ
decimal_within zero n = []
decimal_within (suc k) n = cond (ltb n 10) [] (decimal_within k (n / 10)) ++ ((48 + n % 10) ∷ [])

-- The digits of a number, as few as say it. Ten are enough for 32 bits.
unfoldable pub decimal : ℕ → List ℕ
decimal n = decimal_within 10 n

-- ---- Writing

-- A buffer with a text at a place.
abbrev pub put : List ℕ → ℕ → List ℕ → List ℕ
put out at text = take at out ++ text ++ drop (at + length text) out
