use Rattle.batches.specs.Laws.Carrying.{OwnReplaying}
use Rattle.batches.proofs.OwnRows.logged.Given as goal

abbrev pub invariant-loop-i : goal.invariant-loop-i
invariant-loop-i l = OwnReplaying l.book l.transaction l.object l.i l.copy
