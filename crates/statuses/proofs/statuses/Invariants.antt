use Rattle.statuses.specs.Laws.Pass.{Gathered}
use Rattle.statuses.proofs.statuses.Given as goal

abbrev pub invariant-loop-transaction : goal.invariant-loop-transaction
invariant-loop-transaction l = Gathered l.book l.transaction l.live l.finished l.ranks
