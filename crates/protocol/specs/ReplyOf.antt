-- The paper's reply that each reply of the code is.
use Rattle.std.specs.Prelude.{◌-◌, ◌≡◌, List, [], ◌∷◌, ◌++◌, map, length, take, replicate}
use Rattle.operations.specs.Operations.{Answer, answering}
use Rattle.operations.specs.Stored.{answer_of}
use Rattle.protocol.specs.Replies as model
use Rattle.protocol.specs.Calls.{batch_limit}
use Rattle.protocol.specs.declared.Batched.{Batched}
use Rattle.protocol.specs.declared.Reply.{Reply}
use Rattle.protocol.specs.declared.Reply.TheVariants.{Ok, Answered, Answers, Wait, Finished, Committed, Circle}
use Rattle.protocol.specs.declared.Reply.TheVariants.{Cancelled, Counted, Refused}

-- With the answers that stand beside it, where it is a batch's.
abbrev pub reply_with : List Answer → Reply → model.Reply
reply_with answers Ok = model.ok
reply_with answers (Answered code value) = model.answered (answering code value ∷ [])
reply_with answers Answers = model.answered answers
reply_with answers (Wait owners count) = model.wait owners count
reply_with answers Finished = model.finished
reply_with answers (Committed count) = model.committed count
reply_with answers (Circle count) = model.circle count
reply_with answers (Cancelled count) = model.cancelled count
reply_with answers (Counted rows) = model.counted rows
reply_with answers (Refused reason) = model.refused reason

abbrev pub reply_of : Reply → model.Reply
reply_of = reply_with []

abbrev pub batched_of : Batched → model.Reply
batched_of b = reply_with (map answer_of (take b.count b.answers)) b.reply

-- The answers that a reply has.
abbrev pub answers_in : model.Reply → List Answer
answers_in (model.answered answers) = answers
answers_in model.ok = []
answers_in (model.wait owners count) = []
answers_in model.finished = []
answers_in (model.committed count) = []
answers_in (model.circle count) = []
answers_in (model.cancelled count) = []
answers_in (model.counted rows) = []
answers_in (model.refused reason) = []

-- Answers in sixteen places: 0 0 past the last.
abbrev pub filled : List Answer → List Answer
filled answers = answers ++ replicate (batch_limit - length answers) (answering 0 0)

-- The answers of a batch's reply are counted and stand at its array's front; 0 0 follows.
abbrev pub Filled : Batched → Type 0
Filled b =
    let answers = answers_in (batched_of b) in
    (b.count ≡ length answers) × (map answer_of b.answers ≡ filled answers)
