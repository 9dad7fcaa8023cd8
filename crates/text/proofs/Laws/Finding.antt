-- The place of the first separator, as the kit's search finds it.
use Rattle.std.specs.Prelude.{ℕ, ◌+◌, ◌-◌, ◌≤◌, ◌≡◌, refl, true, false, cond, List, ◌∷◌, eqb, length, take}
use Rattle.std.specs.Prelude.{ltb, unwrap_or, Some, None, ◌==◌, not, drop}
use Rattle.std.specs.List.{position, position_or_len}
use Rattle.std.proofs.Common.{sym, ap, ◌∙◌, arith, length-take-le, length-drop}
use Rattle.std.proofs.lemmas.List.Recursion.{is_position_or_len}
use Rattle.std.proofs.lemmas.List.Sums.{prefix_len-le-length}
use Rattle.std.proofs.lemmas.List.{drop-take}
use Rattle.std.proofs.lemmas.Grind.{common_steps}
use borrow.Table.Steps.{cases}
use Rattle.text.specs.Finding.{index_after, index_of, slice}

one_more : (b separator : ℕ) (text : List ℕ)
    → index_of separator (b ∷ text) ≡ cond (eqb b separator) 0 (1 + index_of separator text)
unfolding index_of index_after
one_more b separator text =
    cases (eqb b separator) (λ (e : eqb b separator ≡ true). rw e refl)
    (λ (e : eqb b separator ≡ false). rw e (omega arith))

searched : (separator : ℕ) (text : List ℕ)
    → index_of separator text ≡ position_or_len (λ b. eqb b separator) text
unfolding index_of
searched separator =
    is_position_or_len (index_of separator) (λ b. eqb b separator) refl (λ b text. one_more b separator text)

or_length : (n most : ℕ) → n ≤ most → unwrap_or (cond (ltb n most) (Some n) None) most ≡ n
or_length n most few = grind (arith, common_steps)

found_all : (separator : ℕ) (text : List ℕ) (most : ℕ) → length text ≡ most
    → unwrap_or (position (λ b. b == separator) text) most ≡ index_of separator text
found_all separator text most long =
    rw (← long, searched) (or_length _ (length text) (prefix_len-le-length (λ b. not (eqb b separator)) text))

module _ (separator : ℕ) (text : List ℕ) (from to : ℕ) (ordered : from ≤ to) (within : to ≤ length text) where
  abbrev part : List ℕ
  part = take (to - from) (drop from text)

  sliced : part ≡ slice from to text
  sliced =
      let sum : from + (to - from) ≡ to = omega arith in
      sym (drop-take from (to - from) text) ∙ ap (λ (n : ℕ). drop from (take n text)) sum

  long : length part ≡ to - from
  long = length-take-le (to - from) (drop from text) (omega (arith, length-drop from text))

  pub found : unwrap_or (position (λ b. b == separator) part) (to - from) ≡ index_of separator (slice from to text)
  found = found_all separator part (to - from) long ∙ ap (index_of separator) sliced

  pub found_within : from + index_of separator (slice from to text) ≤ to
  found_within =
      let few : index_of separator part ≤ length part =
      rw searched (prefix_len-le-length (λ b. not (eqb b separator)) part) in
      rw (← sliced) (omega (arith, few, long))
