-- `graph::ready`: the set is empty.
use Rattle.graph.specs.Laws.Near.{nobody}
use Rattle.graph.proofs.ready.Goals as goal

pub returns : goal.returns
returns c = nobody _
