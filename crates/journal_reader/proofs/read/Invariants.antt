-- `read`: those that were read, and those that are left, are all.
use Rattle.std.proofs.Common.{◌-◌, length}
use Rattle.journal_reader.specs.Laws.Counting.{Counting}
use Rattle.journal_reader.proofs.read.Given as goal

abbrev pub invariant-loop-at : goal.invariant-loop-at
invariant-loop-at l = Counting l.bytes l.count l.at

abbrev pub decreases-loop-at : goal.decreases-loop-at
decreases-loop-at l = length l.bytes - l.at
