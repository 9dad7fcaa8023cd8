-- `graph::near_predecessors`: the next one is added where its set meets this one.
use Rattle.std.proofs.Common.{refl}
use Rattle.graph.specs.Laws.Walks.{collect_begun, collect_turned, collect_ended}
use Rattle.graph.specs.Laws.Near.{depends_on_one, depends_on_none, near_predecessors}
use Rattle.graph.proofs.near_predecessors.Goals as goal

pub loop-transaction-init : goal.loop-transaction-init
loop-transaction-init c =
    rw (c.into_iter-transaction-iterator.ensures.into_iter_gives, c.members-transaction-items.ensures)
    (collect_begun _ _)

pub loop-transaction-preserved-then-meet-ne0 : goal.loop-transaction-preserved-then-meet-ne0
loop-transaction-preserved-then-meet-ne0 c =
    let (first, others) = c.in-Some.ensures.steps in
    collect_turned _ _ _ _ c.loop-transaction.found _ _ c.loop-transaction.invariant first.member
    (depends_on_one c.args.edges.now c.args.set c.in-Some.transaction _ _ _ refl c.meet.ensures _ _
    c.if-meet-ne0.true c.single.ensures c.join-found.ensures)
    others

pub loop-transaction-preserved : goal.loop-transaction-preserved
loop-transaction-preserved c =
    let (first, others) = c.in-Some.ensures.steps in
    collect_turned _ _ _ _ c.loop-transaction.found _ _ c.loop-transaction.invariant first.member
    (depends_on_none c.args.edges.now c.args.set c.in-Some.transaction c.loop-transaction.found _ _ refl
    c.meet.ensures c.if-meet-ne0.false)
    others

pub returns : goal.returns
returns c =
    near_predecessors c.args.edges.now c.args.set _ _
    (collect_ended _ _ _ _ c.loop-transaction.invariant c.in-None.ensures.steps.0)
