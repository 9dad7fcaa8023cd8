-- A batch's reply without answers: all sixteen places are 0 0.
use Rattle.std.specs.Prelude.{replicate}
use Rattle.operations.specs.declared.Answer as answers
use Rattle.protocol.specs.declared.Batched.{Batched}
use Rattle.protocol.specs.declared.Reply.{Reply}

abbrev zero : answers.Answer
zero = record { code = 0; value = 0 }

abbrev pub unanswered : Reply → Batched
unanswered reply = record { reply = reply; count = 0; answers = replicate 16 zero }
