-- The first that has a reason, and a turn past one that has none.
use Rattle.std.proofs.lemmas.Result.{err_from_is_err_and}
use Rattle.refusals.specs.Laws.{own_found, own_passed}
use Rattle.refusals.proofs.first_own.Goals as goal

pub returns-in_err-own : goal.returns-in_err-own
returns-in_err-own c =
    let p = err_from_is_err_and c.from_residual.result c.from_residual.ensures.1 in
    rw (p.1, p.2)
    (own_found c.args.lent.now c.args.book.now c.loop-object.object-index c.loop-object-test.true
    c.loop-object.invariant c.in_err-own.field-0.0 c.in_err-own.ensures)

pub loop-object-preserved : goal.loop-object-preserved
loop-object-preserved c =
    own_passed c.args.lent.now c.args.book.now c.loop-object.object-index c.loop-object-test.true
    c.loop-object.invariant c.in_ok-own.ensures
