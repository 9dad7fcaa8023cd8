-- `read_groups`: what the groups that are left come to, behind those that were read, is the number.
use Rattle.journal_numbers.specs.Laws.Numbers.{Grouping}
use Rattle.journal_numbers.proofs.read_groups.Given as goal

abbrev pub invariant-loop-i : goal.invariant-loop-i
invariant-loop-i l = Grouping l.bytes l.at l.value l.scale l.i
