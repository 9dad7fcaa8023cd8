-- `put_numbers`: those behind are left to put.
use Rattle.std.proofs.Common.{◌++◌, drop}
use Rattle.journal.specs.Groups.{grouped}
use Rattle.journal_writer.specs.Laws.Putting.{Left}
use Rattle.journal_writer.proofs.put_numbers.Given as goal

abbrev pub invariant-loop-number : goal.invariant-loop-number
invariant-loop-number l =
    Left l.out.items (grouped (drop l.number-index l.numbers)) (l.initial.out.items ++ grouped l.numbers)
