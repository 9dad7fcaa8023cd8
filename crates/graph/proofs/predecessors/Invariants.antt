-- `graph::predecessors`: an edge leads back from the one depended on.
use Rattle.std.proofs.Common.{get_or}
use Rattle.bitset.specs.Bitset.{has}
use Rattle.graph.proofs.predecessors.Given as goal

abbrev pub ghost-gathered : goal.ghost-gathered
ghost-gathered a = λ on from. has (get_or a.near.0.now from 0) on
