-- `graph::near_successors`: on whom those passed depend.
use Rattle.graph.specs.Edges.{EdgeIn}
use Rattle.graph.specs.Laws.Walks.{Collecting}
use Rattle.graph.proofs.near_successors.Given as goal

abbrev pub invariant-loop-transaction : goal.invariant-loop-transaction
invariant-loop-transaction l = Collecting (EdgeIn l.fn.edges) l.fn.set l.transaction-iterator.set l.found
