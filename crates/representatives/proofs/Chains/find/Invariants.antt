use Rattle.std.proofs.Common.{not, eqb}
use Rattle.representatives.specs.Laws.Chains.{Way}
use Rattle.representatives.proofs.Chains.find.Given as goal

abbrev pub invariant-loop-at : goal.invariant-loop-at
invariant-loop-at g l = Way (not (eqb g.row.VALUED 0)) l.book l.i l.at

abbrev pub decreases-loop-at : goal.decreases-loop-at
decreases-loop-at g l = l.at
