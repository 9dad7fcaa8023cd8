-- How long a line may be that is a call.
use Rattle.std.specs.Prelude.{ℕ, suc, ◌+◌, ◌*◌, ◌≤◌, ◌<◌, ◌≡◌, refl, Bool, true, false, cond, ◌&&◌, List, [], ◌∷◌, eqb}
use Rattle.std.specs.Prelude.{leb, ltb, length}
use Rattle.std.proofs.Common.{sym, ap, ◌∙◌, arith, leb-true}
use Rattle.std.proofs.Math.Option.{Option, none, some, none-ne-some}
use Rattle.std.proofs.lemmas.Bool.{lt-leb}
use borrow.Table.Steps.{cases}
use Rattle.text.specs.Text.{longer, split, value_after, all_digits, is_number, number_in}
use Rattle.text.proofs.Laws.Tests.{left, right}
use Rattle.lines.specs.Lines.{with_first, numbers_in, asked_with, call_of_fields}
use Rattle.lines.proofs.Laws.Calls.{too_many_lem}

-- The bytes of pieces, a separator before each.
abbrev spread : List (List ℕ) → ℕ
spread [] = 0
spread (piece ∷ pieces) = suc (length piece) + spread pieces

spread_longer : (b : ℕ) (pieces : List (List ℕ)) → 1 ≤ spread pieces → spread (longer b pieces) ≡ suc (spread pieces)
spread_longer b [] more = absurd (omega arith)
spread_longer b (piece ∷ pieces) more = omega arith

-- Pieces and separators are the text.
pub spread_split : (separator : ℕ) (text : List ℕ) → spread (split separator text) ≡ suc (length text)
spread_split separator [] = refl
spread_split separator (b ∷ text) =
    let rest : spread (split separator text) ≡ suc (length text) = spread_split separator text in
    cases (eqb b separator) (λ (e : eqb b separator ≡ true). rw e (omega arith))
    (λ (e : eqb b separator ≡ false). rw e (spread_longer b (split separator text) (omega arith) ∙ ap suc rest))

-- A number has at most ten digits.
number_short : (field : List ℕ) (n : ℕ) → number_in field ≡ some n → length field ≤ 10
unfolding number_in
number_short field n e =
    let few : Bool = leb (length field) 10 in
    cases (is_number field)
    (λ (t : is_number field ≡ true).
    leb-true (length field) 10
    (right (leb 1 (length field)) few
    (left (leb 1 (length field) && few) (all_digits field)
    (left (leb 1 (length field) && few && all_digits field) (ltb (value_after 0 field) 4_294_967_296) t))))
    (λ (t : is_number field ≡ false).
    absurd (none-ne-some n (sym (ap (λ (b : Bool). cond b (some (value_after 0 field)) none) t) ∙ e)))

numbers_spread : (fields : List (List ℕ)) (numbers : List ℕ) → numbers_in fields ≡ some numbers
    → spread fields ≤ 11 * length numbers
numbers_spread [] numbers e = omega arith
numbers_spread (field ∷ fields) numbers e = first (number_in field) (numbers_in fields) refl (numbers_spread fields) e
  where
    first : (a : Option ℕ) (r : Option (List ℕ)) → number_in field ≡ a
        → ((rest : List ℕ) → r ≡ some rest → spread fields ≤ 11 * length rest)
        → with_first a r ≡ some numbers → suc (length field) + spread fields ≤ 11 * length numbers
    first none r p others e = absurd (none-ne-some numbers e)
    first (some n) none p others e = absurd (none-ne-some numbers e)
    first (some n) (some rest) p others e =
        let all : numbers ≡ n ∷ rest = cc in
        rw all (omega (arith, number_short field n p, others rest refl))

pub long_none : (pieces : List (List ℕ)) → 717 < spread pieces → call_of_fields pieces ≡ none
long_none [] long = refl
long_none ([] ∷ fields) long = refl
long_none ((letter ∷ b ∷ word) ∷ fields) long = refl
long_none ((letter ∷ []) ∷ fields) long = with_numbers (numbers_in fields) refl
  where
    with_numbers : (r : Option (List ℕ)) → numbers_in fields ≡ r → asked_with letter r ≡ none
    with_numbers none e = refl
    with_numbers (some numbers) e =
        too_many_lem letter numbers (lt-leb (length numbers) 65 (omega (arith, numbers_spread fields numbers e)))
