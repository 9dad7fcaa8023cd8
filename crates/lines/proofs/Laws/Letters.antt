-- Which calls a letter can be.
use Rattle.std.specs.Prelude.{ℕ, ◌≡◌, refl, Bool, true, false, cond, List, [], ◌∷◌}
use Rattle.std.proofs.Common.{sym, ap, ◌∙◌}
use Rattle.std.proofs.lemmas.Bool.{false≢true}
use Rattle.std.proofs.Math.Option.{Option, none, some}
use Rattle.protocol.specs.Call.{Call, set_up, begin, operate, batch, finish, cancel, contents}
use Rattle.lines.specs.Lines.{numbers_in, batch_of, asked_with, call_of_fields}
use Rattle.lines.proofs.Laws.Calls.{same_both}

abbrev is_contents : Option Call → Bool
is_contents none = false
is_contents (some (set_up kinds)) = false
is_contents (some (begin t)) = false
is_contents (some (operate t o number k v)) = false
is_contents (some (batch t operations)) = false
is_contents (some (finish t list)) = false
is_contents (some (cancel t list)) = false
is_contents (some (contents o)) = true

-- The test of one of two calls.
either : (b : Bool) (x y : Option Call) → is_contents (cond b x y) ≡ cond b (is_contents x) (is_contents y)
either true x y = refl
either false x y = refl

batch_other : (numbers : List ℕ) → is_contents (batch_of numbers) ≡ false
batch_other [] = refl
batch_other (t ∷ operations) = simp (either, same_both)

asked_other : (letter : ℕ) (numbers : Option (List ℕ)) → is_contents (asked_with letter numbers) ≡ false
asked_other letter none = refl
asked_other letter (some numbers) = simp (either, batch_other, same_both)

call_other : (fields : List (List ℕ)) → is_contents (call_of_fields fields) ≡ false
call_other [] = refl
call_other ([] ∷ fields) = refl
call_other ((letter ∷ []) ∷ fields) = asked_other letter (numbers_in fields)
call_other ((letter ∷ b ∷ word) ∷ fields) = refl

pub none_contents : (fields : List (List ℕ)) (o : ℕ) → call_of_fields fields ≡ some (contents o) → ⊥
none_contents fields o e = false≢true (sym (call_other fields) ∙ ap is_contents e)
