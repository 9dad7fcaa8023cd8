-- `read`: those that were read, and those that are left, are all.
use Rattle.std.proofs.lemmas.Result.{err_from_is_err_and}
use Rattle.journal_reader.specs.Laws.Counting.{counting_starts, counting_goes_on, counting_stops, counting_ends}
use Rattle.journal_reader.proofs.read.Goals as goal

pub loop-at-init : goal.loop-at-init
loop-at-init c = counting_starts c.args.bytes.now

pub returns-in_err-at-clause-count : goal.returns-in_err-at-clause-count
returns-in_err-at-clause-count c =
    let p = err_from_is_err_and c.from_residual.result c.from_residual.ensures.1 in
    rw (p.1, p.2) (counting_stops c.loop-at.invariant c.loop-at-test.true c.in_err-at.ensures.reads)

pub loop-at-preserved : goal.loop-at-preserved
loop-at-preserved c =
    counting_goes_on c.loop-at.invariant c.loop-at-test.true c.in_ok-at.ensures.onward c.in_ok-at.ensures.reads

pub returns-clause-count : goal.returns-clause-count
returns-clause-count c = counting_ends c.loop-at.invariant c.loop-at-test.false
