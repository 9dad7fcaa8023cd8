-- `replies::put_members`: the members that are not left are put.
use Rattle.std.proofs.Common.{◌≡◌, ◌++◌}
use Rattle.bitset.specs.Bitset.{members}
use Rattle.replies.specs.Printed.{spaced}
use Rattle.replies.proofs.put_members.Given as goal

abbrev pub invariant-loop-member : goal.invariant-loop-member
invariant-loop-member g l =
    l.out.items ++ spaced (members l.member-iterator.set) ≡ l.initial.out.items ++ spaced (members l.fn.set)
