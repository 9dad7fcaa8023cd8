-- An entry's operation, and the rows that it may need.
use Rattle.std.specs.Prelude.{ℕ, ◌+◌, ◌≤◌, ◌<◌, ◌≡◌, refl, ◌⊎◌, Bool, true, false, ◌||◌}
use Rattle.std.proofs.Math.Path.{sym, ap}
use Rattle.std.proofs.Common.{◌∙◌, inl, inr, ne_eqb, eqb-true, ltb-true, ltb-false}
use Rattle.std.proofs.Math.Bool.{cond}
use Rattle.std.proofs.Math.Option.{Option, none, some}
use mathlib.Core.List.{List, ◌∷◌, map}
use native.Mathlib.Omega.{arith}
use Rattle.std.proofs.Math.Dec.{eqb, ltb}
use Rattle.std.proofs.Math.ListN.{get_or-eq_default}
use Rattle.operations.specs.Operations as model
use Rattle.operations.specs.declared.Operation.{Operation}
use Rattle.operations.specs.Stored.{operation_of}
use Rattle.operations.proofs.Laws.Cases.{split}
use Rattle.operations.proofs.Laws.Grid.{below, below_at}
use Rattle.store.specs.Layout.{word, entry_start, operation_at, Packed, base}
use Rattle.store.proofs.Laws.Reading.{entry_named}
use Rattle.answers.specs.Answers.{rows_for, rows_needed}

pub needed : (o : model.Operation) → rows_needed (model.number_of o) ≡ cond (model.adds o) 1 0
unfolding rows_needed
needed (model.on_stack (model.push x)) = refl
needed (model.on_stack model.pop) = refl
needed (model.on_stack model.top) = refl
needed (model.on_set (model.set_insert k)) = refl
needed (model.on_set (model.set_delete k)) = refl
needed (model.on_set (model.member k)) = refl
needed (model.on_table (model.table_insert k v)) = refl
needed (model.on_table (model.table_delete k)) = refl
needed (model.on_table (model.lookup k)) = refl
needed (model.on_table model.size) = refl
needed (model.on_table (model.modify k v)) = refl

-- What was read of an entry's operation.
abbrev pub OperationRead : List ℕ → ℕ → Operation → Type 0
OperationRead w i operation =
    (operation.number ≡ word w (entry_start i + 2)) × (operation.key ≡ word w (entry_start i + 3))
    × (operation.value ≡ word w (entry_start i + 4))

-- Entry i of the log, and the operation that was read there.
pub record EntryOperation (w : List ℕ) (i : ℕ) (operation : Operation) : Type 0 where
  pub packed : Packed base w
  pub inside : i < word w 0
  pub words : OperationRead w i operation

module _ {w : List ℕ} {i : ℕ} {operation : Operation} (at : EntryOperation w i operation) where
  pub named : operation_of operation ≡ some (operation_at w i)
  named = entry_named base w i operation at.packed at.inside at.words

  pub needs_rows : (n : ℕ) → n ≡ rows_needed operation.number → n ≡ cond (model.adds (operation_at w i)) 1 0
  needs_rows n e =
      e ∙ ap rows_needed (at.words.0 ∙ sym (at.packed.log.as_stored i at.inside).0) ∙ needed (operation_at w i)

pub one_of : (b : Bool) → eqb (cond b 1 0) 1 ≡ b
one_of true = refl
one_of false = refl

pub at_most_one : (b : Bool) → cond b 1 0 ≤ 1
at_most_one true = omega arith
at_most_one false = omega arith

-- ---- By its number

-- The numbers 1, 4 and 7.
abbrev is_adding : ℕ → Bool
is_adding number = eqb number 1 || (eqb number 4 || eqb number 7)

abbrev Adding : ℕ → Type 0
Adding number = (number ≡ 1) ⊎ ((number ≡ 4) ⊎ (number ≡ 7))

-- All numbers of operations are tried.
tried : below 12 (λ n. eqb (rows_needed n) (cond (is_adding n) 1 0)) ≡ true
unfolding rows_needed
tried = refl

module _ (number : ℕ) where
  not_adding : (Adding number → ⊥) → is_adding number ≡ false
  not_adding n =
      rw (
        ne_eqb number 1 (λ e. n (inl e)),
        ne_eqb number 4 (λ e. n (inr (inl e))),
        ne_eqb number 7 (λ e. n (inr (inr e))),
      )

  pub needed_none : (Adding number → ⊥) → 0 ≡ rows_needed number
  unfolding rows_needed
  needed_none n =
      split (ltb number 12)
      (λ (l : ltb number 12 ≡ true).
      sym (eqb-true _ _
      (below_at 12 (λ n. eqb (rows_needed n) (cond (is_adding n) 1 0)) tried number (ltb-true number 12 l))
      ∙ ap (λ (b : Bool). cond b 1 0) (not_adding n)))
      (λ (l : ltb number 12 ≡ false).
      ap rows_for (sym (get_or-eq_default (none ∷ map some (model.numbered (λ k. k) 0 0)) none
      (ltb-false number 12 l))))

  pub needed_few : rows_needed number ≤ 1
  unfolding rows_needed
  needed_few = few (model.stored (λ k. k) number 0 0)
    where
      few : (o : Option model.Operation) → rows_for o ≤ 1
      few none = omega arith
      few (some o) = at_most_one (model.adds o)
