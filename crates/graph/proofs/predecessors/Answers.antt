-- `graph::predecessors`: they are the successors by the edges turned round.
use Rattle.graph.specs.Laws.Gathering.{predecessors_gathered}
use Rattle.graph.proofs.predecessors.Goals as goal

pub returns : goal.returns
returns c = predecessors_gathered _ _ _ _ c.gathered.ensures
