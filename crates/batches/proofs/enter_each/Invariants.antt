use Rattle.std.proofs.Common.{IfSome}
use Rattle.batches.specs.Batches.{Carried}
use Rattle.batches.specs.Laws.Entering.{Entering, ran}
use Rattle.batches.proofs.enter_each.Given as goal

abbrev pub invariant-loop-i : goal.invariant-loop-i
invariant-loop-i l =
    Entering l.initial.book l.transaction l.lent l.i l.book l.answers
    × IfSome l.carried
    (λ copy. Carried (ran l.initial.book l.transaction l.lent l.i) l.transaction copy.object copy)
