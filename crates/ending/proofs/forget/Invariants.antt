-- `ending::forget`: the sets passed are without the transaction.
use Rattle.std.proofs.Common.{◌≡◌, length}
use Rattle.ending.specs.Laws.Forgetting.{ForgottenBelow}
use Rattle.ending.proofs.forget.Given as goal

abbrev pub invariant-loop-set : goal.invariant-loop-set
invariant-loop-set l =
    (length l.edges ≡ 64) × ForgottenBelow l.initial.edges l.transaction l.set-index l.edges
