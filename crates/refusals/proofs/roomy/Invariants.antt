use Rattle.refusals.specs.Laws.{RoomLeft}
use Rattle.refusals.proofs.roomy.Given as goal

abbrev pub invariant-loop-i : goal.invariant-loop-i
invariant-loop-i l = RoomLeft l.lent l.book l.i
