-- `graph::acyclic`: those left out lie on no cycle.
use Rattle.graph.specs.Edges.{EdgeIn}
use Rattle.graph.specs.Laws.Peeling.{Peeling}
use Rattle.graph.proofs.acyclic.Given as goal

abbrev pub invariant-loop-left : goal.invariant-loop-left
invariant-loop-left l = Peeling (EdgeIn l.edges) l.finished l.left

abbrev pub decreases-loop-left : goal.decreases-loop-left
decreases-loop-left l = l.left
