use Rattle.batches.specs.Laws.Entering.{AwaitsLeft}
use Rattle.batches.proofs.owners.Given as goal

abbrev pub invariant-loop-object : goal.invariant-loop-object
invariant-loop-object l = AwaitsLeft l.book l.transaction l.lent l.object-index l.set
