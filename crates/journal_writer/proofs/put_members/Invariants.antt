-- `put_members`: the members of what is left are left to put.
use Rattle.std.proofs.Common.{◌++◌}
use Rattle.bitset.specs.Bitset.{members}
use Rattle.journal.specs.Groups.{grouped}
use Rattle.journal_writer.specs.Laws.Putting.{Left}
use Rattle.journal_writer.proofs.put_members.Given as goal

abbrev pub invariant-loop-member : goal.invariant-loop-member
invariant-loop-member l =
    Left l.out.items (grouped (members l.member-iterator.set)) (l.initial.out.items ++ grouped (members l.fn.set))
