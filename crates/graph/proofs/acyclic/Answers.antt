-- `graph::acyclic`: those left out lie on no cycle.
use Rattle.graph.specs.Laws.Peeling.{peel_turned, peel_less, peel_ended}
use Rattle.graph.proofs.acyclic.Goals as goal

pub returns-then-held-left : goal.returns-then-held-left
returns-then-held-left c =
    peel_ended _ _ _ _ c.loop-left.invariant c.near_predecessors-held.ensures c.if-held-left.true
    c.ranges.finished.fits

pub loop-left-smaller : goal.loop-left-smaller
loop-left-smaller c = peel_less _ _ _ _ c.loop-left.invariant c.near_predecessors-held.ensures c.if-held-left.false

pub loop-left-preserved : goal.loop-left-preserved
loop-left-preserved c = peel_turned _ _ _ _ c.loop-left.invariant c.near_predecessors-held.ensures
