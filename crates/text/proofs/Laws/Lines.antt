-- Texts without a separator, and how many pieces there are.
use Rattle.std.specs.Prelude.{ℕ, zero, suc, ◌+◌, ◌/◌, ◌%◌, ◌≤◌, ◌<◌, ◌≡◌, refl, Bool, true, false, not, ◌&&◌, List, []}
use Rattle.std.specs.Prelude.{◌∷◌, ◌++◌, eqb, ltb, length, take}
use Rattle.std.proofs.Common.{ap, append_assoc, arith, ne_eqb, eq-eqb}
use Rattle.std.proofs.lemmas.Bool.{not-true}
use borrow.Table.Steps.{cases}
use Rattle.text.specs.Finding.{index_of, index_after}
use Rattle.text.specs.Text.{longer, split, decimal_within, decimal}
use Rattle.text.proofs.Laws.Tests.{left, right}

-- No byte of a text is the separator.
abbrev pub Without : ℕ → List ℕ → Type 0
Without separator [] = Unit {0}
Without separator (b ∷ text) = (eqb b separator ≡ false) × Without separator text

-- The same as a test.
abbrev lacks : ℕ → List ℕ → Bool
lacks separator [] = true
lacks separator (b ∷ text) = not (eqb b separator) && lacks separator text

pub without_computed : (separator : ℕ) (text : List ℕ) → lacks separator text ≡ true → Without separator text
without_computed separator [] e = tt
without_computed separator (b ∷ text) e = (
  not-true (eqb b separator) (left (not (eqb b separator)) (lacks separator text) e),
  without_computed separator text (right (not (eqb b separator)) (lacks separator text) e),
)

pub front_without : (separator : ℕ) (text : List ℕ) → Without separator (take (index_of separator text) text)
unfolding index_of index_after
front_without separator [] = tt
front_without separator (b ∷ text) =
    cases (eqb b separator) (λ (e : eqb b separator ≡ true). rw e tt)
    (λ (e : eqb b separator ≡ false). rw e (e, front_without separator text))

pub without_append : (separator : ℕ) (xs ys : List ℕ) → Without separator xs → Without separator ys
    → Without separator (xs ++ ys)
without_append separator [] ys p q = q
without_append separator (x ∷ xs) ys p q = (p.0, without_append separator xs ys p.1 q)

-- ---- Pieces

-- The first piece with a text more in front.
abbrev pub begun : List ℕ → List (List ℕ) → List (List ℕ)
begun text [] = []
begun text (piece ∷ pieces) = (text ++ piece) ∷ pieces

pub begun_empty : (pieces : List (List ℕ)) → begun [] pieces ≡ pieces
begun_empty [] = refl
begun_empty (piece ∷ pieces) = refl

pub begun_longer : (text : List ℕ) (b : ℕ) (pieces : List (List ℕ))
    → begun (text ++ (b ∷ [])) pieces ≡ begun text (longer b pieces)
begun_longer text b [] = refl
begun_longer text b (piece ∷ pieces) = ap (λ (l : List ℕ). l ∷ pieces) (append_assoc text (b ∷ []) piece)

length_longer : (b : ℕ) (pieces : List (List ℕ)) → length (longer b pieces) ≡ length pieces
length_longer b [] = refl
length_longer b (piece ∷ pieces) = refl

-- There is a piece in every text.
pub some_piece : (separator : ℕ) (text : List ℕ) → 1 ≤ length (split separator text)
some_piece separator [] = omega arith
some_piece separator (b ∷ text) =
    cases (eqb b separator) (λ (e : eqb b separator ≡ true). rw e (omega arith))
    (λ (e : eqb b separator ≡ false). rw (e, length_longer) (some_piece separator text))

-- What stands before the first separator is the first piece.
pub split_ended : (separator : ℕ) (text rest : List ℕ) → Without separator text
    → split separator (text ++ (separator ∷ rest)) ≡ text ∷ split separator rest
split_ended separator [] rest free = rw (eq-eqb separator separator refl)
split_ended separator (b ∷ text) rest free = rw free.0 (ap (longer b) (split_ended separator text rest free.1))

-- ---- Digits

within_without : (separator : ℕ) → separator < 48 → (k n : ℕ) → Without separator (decimal_within k n)
unfolding decimal_within
within_without separator low zero n = tt
within_without separator low (suc k) n =
    let last : eqb (48 + n % 10) separator ≡ false =
    ne_eqb (48 + n % 10) separator (λ (e : 48 + n % 10 ≡ separator). omega arith) in
    cases (ltb n 10) (λ (e : ltb n 10 ≡ true). rw e (last, tt))
    (λ (e : ltb n 10 ≡ false).
    rw e (without_append separator (decimal_within k (n / 10)) ((48 + n % 10) ∷ [])
    (within_without separator low k (n / 10)) (last, tt)))

pub decimal_without : (separator : ℕ) → separator < 48 → (n : ℕ) → Without separator (decimal n)
unfolding decimal
decimal_without separator low n = within_without separator low 10 n
