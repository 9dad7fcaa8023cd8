-- `read_numbers`: those that are there, before those that are left, are the whole.
use Rattle.std.proofs.lemmas.Result.{err_from_is_err_and}
use Rattle.journal_numbers.specs.Laws.Lists.{collecting_starts, collecting_goes_on, collecting_stops, collecting_ends}
use Rattle.journal_numbers.proofs.read_numbers.Goals as goal

pub loop-number-init : goal.loop-number-init
loop-number-init c = collecting_starts c.args.bytes.now c.args.into.now c.args.at c.requires

pub returns-in_err-value : goal.returns-in_err-value
returns-in_err-value c =
    let p = err_from_is_err_and c.from_residual.result c.from_residual.ensures.1 in
    rw (p.1, p.2) (collecting_stops c.loop-number.invariant c.loop-number-test.true c.in_err-value.ensures)

pub loop-number-preserved : goal.loop-number-preserved
loop-number-preserved c =
    collecting_goes_on c.loop-number.invariant c.loop-number-test.true c.in_ok-value.ensures

pub returns : goal.returns
returns c = collecting_ends c.loop-number.invariant c.loop-number-test.false
