-- A set of transactions, numbered from 0, as the binary digits of a number.
use Rattle.std.specs.Prelude.{ℕ, zero, suc, ◌<◌, ◌/◌, ◌%◌, ◌^◌, ◌≡◌, Bool, true, false, ◌↔◌, List, [], ◌∷◌, eqb, get_or}
use Rattle.std.specs.Prelude.{length}
use Rattle.std.specs.Int.Bits.{bit_or}

-- Transaction h is a member of the set s where bit h of s is 1.
unfoldable pub has : ℕ → ℕ → Bool
has s h = eqb (s / 2 ^ h % 2) 1

-- The set s has exactly the members that f tells.
abbrev pub Members : ℕ → (ℕ → Bool) → Type 0
Members s f = (h : ℕ) → has s h ≡ f h

-- Transaction h is the lowest member of the set s.
pub record Lowest (s h : ℕ) : Type 0 where
  pub below : h < 64
  pub member : has s h ≡ true
  pub least : (k : ℕ) → k < h → has s k ≡ false

abbrev pub In : ℕ → ℕ → Type 0
In s h = has s h ≡ true

-- The set has exactly the members that a predicate tells,
abbrev pub Holds : ℕ → (ℕ → Type 0) → Type 0
Holds s P = (h : ℕ) → In s h ↔ P h

-- and each of several sets those that a relation tells.
abbrev pub Represents : List ℕ → (ℕ → ℕ → Type 0) → Type 0
Represents sets R = (a b : ℕ) → In (get_or sets a 0) b ↔ R a b

-- The members of either.
abbrev pub union : ℕ → ℕ → ℕ
union a b = bit_or a b

-- The set with transaction h besides.
abbrev pub including : ℕ → ℕ → ℕ
including h s = union (2 ^ h) s

-- ---- One by one

-- A list, with h in front where the test says so.
abbrev pub in_front : Bool → ℕ → List ℕ → List ℕ
in_front true h l = h ∷ l
in_front false h l = l

-- Those of the n transactions from h on that are members, ascending.
unfoldable pub members_from : ℕ → ℕ → ℕ → List ℕ
members_from zero h s = []
members_from (suc n) h s = in_front (has s h) h (members_from n (suc h) s)

-- The members of a set of 64 bits, ascending,
unfoldable pub members : ℕ → List ℕ
members s = members_from 64 0 s

-- and how many they are.
abbrev pub size : ℕ → ℕ
size s = length (members s)
