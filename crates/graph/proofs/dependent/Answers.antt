-- `graph::dependent`: the next one is not ready, so it depends on somebody.
use Rattle.std.proofs.Common.{refl}
use Rattle.operations.proofs.Laws.Cases.{yes, denied}
use Rattle.graph.specs.Laws.Walks.{walk_turned, walk_ended}
use Rattle.graph.specs.Laws.Near.{somebody}
use Rattle.graph.proofs.dependent.Goals as goal

pub loop-transaction-preserved : goal.loop-transaction-preserved
loop-transaction-preserved c =
    walk_turned _ _ _ _ _ c.loop-transaction.invariant (somebody _ (denied c.ready.ensures c.if-ready.false))
    c.in-Some.ensures.steps.1

pub returns : goal.returns
returns c = yes refl (walk_ended _ _ _ c.loop-transaction.invariant c.in-None.ensures.steps.0)
