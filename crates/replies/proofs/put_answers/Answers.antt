-- `replies::put_answers`: one more answer is put.
use Rattle.std.proofs.Common.{arith}
use Rattle.replies.proofs.Laws.Printing.{answer_put}
use Rattle.replies.proofs.put_answers.Goals as goal

pub loop-answer-preserved : goal.loop-answer-preserved
loop-answer-preserved g c =
    let put = c.put_answer.ensures in (
      answer_put c.args.out.now.items c.args.answers.now c.loop-answer.answer-index (record { code = 0; value = 0 })
          c.loop-answer.invariant.0 c.loop-answer-test.true put.text,
      omega (arith, c.loop-answer.invariant.1, put.few),
    )
