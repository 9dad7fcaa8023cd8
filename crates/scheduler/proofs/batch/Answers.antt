-- Refused, made to wait, or answered and entered in the log.
use Rattle.std.proofs.Common.{sym, ◌∙◌}
use Rattle.store.specs.Layout.{base}
use Rattle.store.proofs.Decisions.{whether_sound}
use Rattle.protocol.proofs.Laws.Reasons.{batch_accepted}
use Rattle.scheduler.specs.Laws.Serving.{leaves_refused, leaves_waiting, leaves_answered}
use Rattle.scheduler.proofs.batch.Goals as goal

pub returns-in-Err-clause-served : goal.returns-in-Err-clause-served
returns-in-Err-clause-served c =
    let a = c.args in
    (leaves_refused a.book.now a.transaction a.operations.now c.in-Err.reason c.in-Err.ensures
    c.unanswered.result (rw c.number.ensures at c.unanswered.ensures)).0

pub owners-owners-requires : goal.owners-owners-requires
owners-owners-requires c =
    let a = c.args in
    batch_accepted base whether_sound a.book.now a.transaction a.operations.now (sym c.in_default.ensures)

pub returns-then-owners-ne0-clause-served : goal.returns-then-owners-ne0-clause-served
returns-then-owners-ne0-clause-served c =
    let a = c.args in
    (leaves_waiting a.book.now a.transaction a.operations.now c.in_default.ensures _ c.owners-owners.ensures
    c.unanswered-then-owners-ne0.result _ c.unanswered-then-owners-ne0.ensures c.if-owners-ne0.true c.size.ensures).0

pub enter_each-requires : goal.enter_each-requires
enter_each-requires c =
    let a = c.args in (
      batch_accepted base whether_sound a.book.now a.transaction a.operations.now (sym c.in_default.ensures),
      sym c.owners-owners.ensures ∙ c.if-owners-ne0.false,
    )

pub returns-clause-served : goal.returns-clause-served
returns-clause-served c =
    let a = c.args in
    (leaves_answered a.book.now a.transaction a.operations.now c.in_default.ensures _ c.owners-owners.ensures
    c.if-owners-ne0.false c.enter_each.result _ c.enter_each.ensures.0 c.enter_each.ensures.1).0

pub returns-clause-filled : goal.returns-clause-filled
returns-clause-filled c =
    let a = c.args in
    (leaves_answered a.book.now a.transaction a.operations.now c.in_default.ensures _ c.owners-owners.ensures
    c.if-owners-ne0.false c.enter_each.result _ c.enter_each.ensures.0 c.enter_each.ensures.1).1
