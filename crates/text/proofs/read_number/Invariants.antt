-- `text::read_number`: the bytes passed are digits, and say the value.
use Rattle.text.proofs.Laws.Numbers.{DigitsRead}
use Rattle.text.proofs.read_number.Given as goal

abbrev pub invariant-loop-byte : goal.invariant-loop-byte
invariant-loop-byte l = DigitsRead l.field l.value l.byte-index
