use Rattle.std.proofs.Common.{ℕ, List, ◌<◌, ◌≡◌, sym, ◌∙◌, arith}
use Rattle.operations.specs.declared.Operation.{Operation}
use Rattle.store.specs.Layout.{word, Packed, base}
use Rattle.answers.specs.Laws.Entries.{OperationRead, EntryOperation}
use Rattle.answers.specs.Laws.Requests.{carry_start, carry_past, one_kind, next_fits, carry_out, carry_own, carry_end}
use Rattle.answers.proofs.answer.Goals as goal

pub loop-i-init : goal.loop-i-init
loop-i-init c =
    λ requested asked. carry_start _ c.requires.0 _ c.requires.1 _ c.row_count-count.ensures requested asked _
    c.copied_rows-rows.ensures c.requires.2

pub loop-i-preserved-then-entry_object-object : goal.loop-i-preserved-then-entry_object-object
loop-i-preserved-then-entry_object-object c =
    λ requested asked. carry_past _ _ _ (omega arith)
    (λ e. c.if-entry_object-object.true (c.entry_object.ensures ∙ e)) requested _ _
    (c.loop-i.invariant requested asked)

-- The entry whose operation was read.
module _ {w : List ℕ} {i count : ℕ} {operation : Operation} (packed : Packed base w) (inside : i < count)
    (counted : count ≡ word w 0) (words : OperationRead w i operation) where
  entry : EntryOperation w i operation
  entry = record { packed = packed; inside = omega arith; words = words }

pub recoverable-requires : goal.recoverable-requires
recoverable-requires c =
    let at = entry c.requires.0 c.loop-i-test.true c.entry_count-i-end.ensures c.entry_operation-logged.ensures in
    let (requested, asked) = c.requires.3 in
    one_kind at _ (sym c.entry_object.ensures ∙ c.if-entry_object-object.false) requested _ _
    (c.loop-i.invariant requested asked) _ asked

pub loop-i-preserved-then-recoverable : goal.loop-i-preserved-then-recoverable
loop-i-preserved-then-recoverable c =
    let at = entry c.requires.0 c.loop-i-test.true c.entry_count-i-end.ensures c.entry_operation-logged.ensures in
    λ requested asked. carry_out at _ (sym c.entry_object.ensures ∙ c.if-entry_object-object.false) requested _ _
    (c.loop-i.invariant requested asked) _ asked (sym c.if-recoverable.ensures)

pub next_rows-rows-requires : goal.next_rows-rows-requires
next_rows-rows-requires c =
    let at = entry c.requires.0 c.loop-i-test.true c.entry_count-i-end.ensures c.entry_operation-logged.ensures in
    let (requested, asked) = c.requires.3 in
    let fits =
    next_fits at _ (sym c.entry_object.ensures ∙ c.if-entry_object-object.false) requested _ _
    (c.loop-i.invariant requested asked) in
    (fits.0, fits.1, c.place-at.ensures)

pub loop-i-preserved : goal.loop-i-preserved
loop-i-preserved c =
    let at = entry c.requires.0 c.loop-i-test.true c.entry_count-i-end.ensures c.entry_operation-logged.ensures in
    λ requested asked. carry_own at _ (sym c.entry_object.ensures ∙ c.if-entry_object-object.false) requested _ _
    (c.loop-i.invariant requested asked) _ _ c.next_rows-rows.ensures c.next_count-next.ensures

pub returns : goal.returns
returns c =
    let (requested, asked) = c.requires.3 in
    c.answer.ensures
    ∙ carry_end _ _ _ (omega arith) requested _ _ (c.loop-i.invariant requested asked) _ asked.named
