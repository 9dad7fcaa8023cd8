use Rattle.states.specs.Laws.Going.{Going}
use Rattle.states.proofs.answered.Given as goal

abbrev pub invariant-loop-i : goal.invariant-loop-i
invariant-loop-i l = Going l.book l.i l.state l.used
