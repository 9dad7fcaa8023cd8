use Rattle.statuses.specs.Statuses.{lowered_word}
use Rattle.statuses.specs.Laws.Writing.{ChangedBefore}
use Rattle.statuses.proofs.close_ranks.Given as goal

abbrev pub invariant-loop-status : goal.invariant-loop-status
invariant-loop-status l = ChangedBefore (lowered_word l.out) l.initial.status-items l.status-items l.status-index
