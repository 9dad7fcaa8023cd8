-- `read_numbers`: those that are there, before those that are left, are the whole.
use Rattle.std.proofs.Common.{length}
use Rattle.journal_numbers.specs.Laws.Lists.{Collecting}
use Rattle.journal_numbers.proofs.read_numbers.Given as goal

abbrev pub invariant-loop-number : goal.invariant-loop-number
invariant-loop-number l = Collecting l.bytes l.at (length l.initial.into) l.into l.place l.number-index
