-- `next`: a step of the reader.
use Rattle.std.proofs.lemmas.Result.{err_from_is_err_and}
use Rattle.journal_reader.specs.Laws.Records.{next_step, stopped_step}
use Rattle.journal_reader.proofs.next.Goals as goal

pub returns-in_err-end-clause-step : goal.returns-in_err-end-clause-step
returns-in_err-end-clause-step c =
    let p = err_from_is_err_and c.from_residual.result c.from_residual.ensures.1 in
    rw (p.1, p.2) (stopped_step c.if-bytes-at.false c.in_err-end.ensures.reads)

pub returns-clause-step : goal.returns-clause-step
returns-clause-step c = next_step c.if-bytes-at.false c.in_ok-end.ensures.reads
