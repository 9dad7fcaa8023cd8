use Rattle.entry_log.specs.Log.{Compacted}
use Rattle.entry_log.proofs.gather.Given as goal

abbrev pub invariant-loop-i : goal.invariant-loop-i
invariant-loop-i l = Compacted l.fn.book l.transaction l.i l.book l.kept
