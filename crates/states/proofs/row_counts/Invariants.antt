use Rattle.states.specs.States.{RowCounts}
use Rattle.states.proofs.row_counts.Given as goal

abbrev pub invariant-loop-object : goal.invariant-loop-object
invariant-loop-object l = RowCounts l.book l.object l.count-items
