-- `graph::near_successors`: all on whom the next one depends are added.
use Rattle.std.proofs.Common.{refl}
use Rattle.graph.specs.Laws.Walks.{collect_begun, collect_turned, collect_ended}
use Rattle.graph.specs.Laws.Near.{dependencies_added, near_successors}
use Rattle.graph.proofs.near_successors.Goals as goal

pub loop-transaction-init : goal.loop-transaction-init
loop-transaction-init c =
    rw (c.into_iter-transaction-iterator.ensures.into_iter_gives, c.members-transaction-items.ensures)
    (collect_begun _ _)

pub loop-transaction-preserved : goal.loop-transaction-preserved
loop-transaction-preserved c =
    let (first, others) = c.in-Some.ensures.steps in
    collect_turned _ _ _ _ c.loop-transaction.found _ _ c.loop-transaction.invariant first.member
    (dependencies_added c.args.edges.now c.in-Some.transaction c.loop-transaction.found _ _ refl
    c.join-found.ensures)
    others

pub returns : goal.returns
returns c =
    near_successors c.args.edges.now c.args.set _ _ _
    (collect_ended _ _ _ _ c.loop-transaction.invariant c.in-None.ensures.steps.0) c.meet.ensures
