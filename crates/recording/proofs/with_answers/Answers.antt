-- `recording::with_answers`: the batch's part, completed with the reply's and the answers.
use Rattle.recording.specs.Laws.Replies.{batch_refused, batch_recorded}
use Rattle.recording.proofs.with_answers.Goals as goal

pub returns-then-told-ne-ACCEPTED : goal.returns-then-told-ne-ACCEPTED
returns-then-told-ne-ACCEPTED c =
    batch_refused c.args.call.now c.args.batched.now c.from-told.result c.from-told.ensures
    c.if-told-ne-ACCEPTED.true

pub returns : goal.returns
returns c =
    let a = c.args in
    batch_recorded a.call.now a.batched.now c.requires.filled c.requires.given
    c.called-content.result c.called-content.ensures c.from-told.result c.from-told.ensures
    c.answer_numbers-numbers.result c.answer_numbers-numbers.ensures _ c.complete.ensures
