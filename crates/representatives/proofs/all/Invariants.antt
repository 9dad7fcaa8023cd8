use Rattle.std.proofs.Common.{false}
use Rattle.representatives.specs.Representatives.{Represented, Chained}
use Rattle.representatives.proofs.all.Given as goal

abbrev pub invariant-loop-i : goal.invariant-loop-i
invariant-loop-i l = Represented l.book l.i l.found × Chained false l.book l.i l.chains
