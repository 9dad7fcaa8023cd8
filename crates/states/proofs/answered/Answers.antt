use Rattle.std.proofs.Common.{◌≡◌, ℕ, ◌<◌, List, refl, arith}
use Rattle.std.proofs.lemmas.List.{get_or-replicate}
use Rattle.states.specs.States.{Formed, EntryOn}
use Rattle.states.specs.Laws.Going as going
use Rattle.operations.specs.declared.Operation.{Operation}
use Rattle.operations.proofs.Laws.Cases.{denied}
use Rattle.store.specs.Layout.{word, base, decode, Packed}
use Rattle.store.specs.Soundness.{EntriesFit, RowsFormed}
use Rattle.representatives.specs.Representatives.{entry_object, Represented}
use Rattle.answers.specs.Answers.{rows_needed}
use Rattle.answers.specs.Laws.Entries.{OperationRead}
use Rattle.states.specs.Laws.Serving.{placed}
use Rattle.states.proofs.answered.Goals as goal

module _ {w representatives : List ℕ}
    (asked : Packed base w × EntriesFit (decode base w) × RowsFormed base (decode base w)
    × Represented w (word w 0) representatives) where
  formed : Formed w
  formed = record { packed = asked.0; fits = asked.1; rows = asked.2 }

  -- The entry that was read, and the rows that it may need.
  module _ {i o count : ℕ} (inside : i < count) (counted : count ≡ word w 0) (on : o ≡ entry_object w i) where
    entry : EntryOn w i o
    entry = record { formed = formed; inside = omega arith; on = on }

    taken : {operation : Operation} {needed : ℕ} → OperationRead w i operation → needed ≡ rows_needed operation.number
        → going.Taken w i o operation needed
    taken words needs = record { entry = entry; words = words; needs = needs }

pub returns-then-entries-eq0 : goal.returns-then-entries-eq0
returns-then-entries-eq0 c = going.no_entries (formed c.requires) (omega arith)

pub loop-i-init : goal.loop-i-init
loop-i-init c =
    going.go_start (formed c.requires) _
    (record { of_cells = refl; of_counts = c.row_counts-counts.ensures.objects; of_tops = refl; of_below = refl })
    c.row_counts-counts.ensures (λ o l. get_or-replicate 16 o 0 0 l)

pub bounds-used-object : goal.bounds-used-object
bounds-used-object c =
    placed (entry c.requires c.loop-i-test.true c.entry_count-entries.ensures c.entry_object-object.ensures)

pub overflow_add-taken : goal.overflow_add-taken
overflow_add-taken c =
    let t =
    taken c.requires c.loop-i-test.true c.entry_count-entries.ensures c.entry_object-object.ensures
    c.entry_operation-operation.ensures c.rows_needed.ensures in
    let bounds = going.go_bounds (formed c.requires) c.loop-i.invariant t in omega arith

pub returns-then-not-room_for : goal.returns-then-not-room_for
returns-then-not-room_for c =
    let t =
    taken c.requires c.loop-i-test.true c.entry_count-entries.ensures c.entry_object-object.ensures
    c.entry_operation-operation.ensures c.rows_needed.ensures in
    going.go_full (formed c.requires) c.loop-i.invariant t (denied c.room_for.ensures c.if-not-room_for.true)

pub bounds-used-object-in-loop-i : goal.bounds-used-object-in-loop-i
bounds-used-object-in-loop-i c =
    placed (entry c.requires c.loop-i-test.true c.entry_count-entries.ensures c.entry_object-object.ensures)

pub returns-then-not-serve : goal.returns-then-not-serve
returns-then-not-serve c =
    let t =
    taken c.requires c.loop-i-test.true c.entry_count-entries.ensures c.entry_object-object.ensures
    c.entry_operation-operation.ensures c.rows_needed.ensures in
    going.go_wrong (formed c.requires) c.loop-i.invariant t c.serve.ensures c.if-not-serve.true

pub loop-i-preserved : goal.loop-i-preserved
loop-i-preserved c =
    let t =
    taken c.requires c.loop-i-test.true c.entry_count-entries.ensures c.entry_object-object.ensures
    c.entry_operation-operation.ensures c.rows_needed.ensures in
    going.go_on (formed c.requires) c.loop-i.invariant t c.serve.ensures c.if-not-serve.false
    (c.room_for.ensures.0 c.if-not-room_for.false)

pub returns : goal.returns
returns c = going.go_end (formed c.requires) c.loop-i.invariant (omega arith)
