-- `recording::answer_numbers`: the numbers of the answers passed are pushed.
use Rattle.std.proofs.Common.{◌≡◌}
use Rattle.protocol.proofs.Laws.Beside.{front_numbers}
use Rattle.recording.proofs.answer_numbers.Given as goal

abbrev pub invariant-loop-answer : goal.invariant-loop-answer
invariant-loop-answer l = l.numbers.items ≡ front_numbers l.answers l.answer-index
