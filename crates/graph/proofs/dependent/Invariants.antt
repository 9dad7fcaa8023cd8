-- `graph::dependent`: those passed depend on somebody.
use Rattle.graph.specs.Laws.Walks.{Walk}
use Rattle.graph.specs.Laws.Near.{Depends}
use Rattle.graph.proofs.dependent.Given as goal

abbrev pub invariant-loop-transaction : goal.invariant-loop-transaction
invariant-loop-transaction l = Walk (Depends l.fn.edges) l.fn.finished l.transaction-iterator.set
