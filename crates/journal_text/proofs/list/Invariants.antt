-- `list`: what is printed is the lines of the records before the place.
use Prim.Native.Nat.{◌-◌}
use lib.ListN.{length}
use Rattle.journal_text.specs.Laws.Printing.{Printed}
use Rattle.journal_text.proofs.list.Given as goal

abbrev pub invariant-loop-read : goal.invariant-loop-read
invariant-loop-read l = Printed l.bytes l.initial.out l.at l.out l.written

abbrev pub decreases-loop-read : goal.decreases-loop-read
decreases-loop-read l = length l.bytes - l.at
