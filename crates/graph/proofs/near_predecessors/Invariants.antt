-- `graph::near_predecessors`: of those passed, who depends on a member of the set.
use Rattle.graph.specs.Laws.Walks.{Collecting}
use Rattle.graph.specs.Laws.Near.{Depending}
use Rattle.graph.proofs.near_predecessors.Given as goal

abbrev pub invariant-loop-transaction : goal.invariant-loop-transaction
invariant-loop-transaction l =
    Collecting (Depending l.fn.edges l.fn.set) l.fn.among l.transaction-iterator.set l.found
