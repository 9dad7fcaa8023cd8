-- `lines::set_up`: the kinds below the present one are written, and none of them is too high.
use Rattle.lines.proofs.Laws.Calls.{KindsRead}
use Rattle.lines.proofs.set_up.Given as goal

abbrev pub invariant-loop-i : goal.invariant-loop-i
invariant-loop-i l = KindsRead l.arguments l.kinds l.i
