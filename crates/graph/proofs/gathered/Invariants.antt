-- `graph::gathered`: those found are reached by ways, step by step, and no set of 64 can grow for ever.
use Rattle.std.proofs.Common.{◌-◌, ◌^◌}
use Rattle.graph.specs.Edges.{Leading}
use Rattle.graph.specs.Laws.Gathering.{Gathering}
use Rattle.graph.proofs.gathered.Given as goal

abbrev pub invariant-loop-found : goal.invariant-loop-found
invariant-loop-found g l = Gathering (Leading g.edge) l.others l.transaction l.found

abbrev pub decreases-loop-found : goal.decreases-loop-found
decreases-loop-found g l = 2 ^ 64 - l.found
