-- `replies::put_answers`: the answers passed are put.
use Rattle.std.proofs.Common.{◌≡◌, ◌+◌, ◌*◌, ◌≤◌, ◌++◌, map, take}
use Rattle.arrayvec.specs.ArrayVec.{array_vec_len}
use Rattle.operations.specs.Stored.{answer_of}
use Rattle.protocol.specs.Replies.{answer_numbers}
use Rattle.replies.specs.Printed.{spaced}
use Rattle.replies.proofs.put_answers.Given as goal

abbrev pub invariant-loop-answer : goal.invariant-loop-answer
invariant-loop-answer g l =
    (l.out.items ≡ l.initial.out.items ++ spaced (answer_numbers (map answer_of (take l.answer-index l.answers))))
    × (array_vec_len l.out ≤ array_vec_len l.initial.out + 22 * l.answer-index)
