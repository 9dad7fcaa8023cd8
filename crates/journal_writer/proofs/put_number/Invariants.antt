-- `put_number`: the groups of what is left are left to put.
use Rattle.std.proofs.Common.{◌≤◌, ◌++◌}
use Rattle.journal.specs.Groups.{groups}
use Rattle.journal_writer.specs.Laws.Putting.{Left}
use Rattle.journal_writer.proofs.put_number.Given as goal

abbrev pub invariant-loop-left : goal.invariant-loop-left
invariant-loop-left l = record {
  left : Left l.out.items (groups l.left) (l.initial.out.items ++ groups l.number);
  lower : l.left ≤ l.number;
}

abbrev pub decreases-loop-left : goal.decreases-loop-left
decreases-loop-left l = l.left
