use Rattle.std.proofs.Common.{◌≡◌, ◌≤◌, take}
use Rattle.protocol.specs.Lent.{lent_operations}
use Rattle.protocol.proofs.Laws.Lent.{needed_of}
use Rattle.refusals.proofs.needed.Given as goal

abbrev pub invariant-loop-on : goal.invariant-loop-on
invariant-loop-on l =
    (l.needed ≡ needed_of l.object (take l.on-index (lent_operations l.lent))) × (l.needed ≤ l.on-index)
