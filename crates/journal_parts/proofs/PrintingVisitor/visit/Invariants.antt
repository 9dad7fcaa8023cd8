-- `journal_parts::Printing`: each turn goes on in the part.
use Rattle.std.proofs.Common.{length, ◌-◌, ◌≤◌}
use Rattle.journal_parts.proofs.PrintingVisitor.visit.Given as goal

abbrev pub invariant-loop-part : goal.invariant-loop-part
invariant-loop-part l = l.at ≤ length l.part.bytes.now

abbrev pub decreases-loop-part : goal.decreases-loop-part
decreases-loop-part l = length l.part.bytes.now - l.at
