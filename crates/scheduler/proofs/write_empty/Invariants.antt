use Rattle.scheduler.specs.Laws.Empty.{Written}
use Rattle.scheduler.proofs.write_empty.Given as goal

abbrev pub invariant-loop-object : goal.invariant-loop-object
invariant-loop-object l = Written l.kinds l.object l.book
