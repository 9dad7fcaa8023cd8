-- `recording::answer_numbers`: an answer has two numbers.
use Rattle.std.proofs.Common.{ap, arith, length}
use Rattle.recording.specs.Laws.Arrays.{answer_pushed, pushed_long}
use Rattle.recording.proofs.answer_numbers.Goals as goal

pub push-requires : goal.push-requires
push-requires c =
    let loop = c.loop-answer in (
      omega arith,
      omega (
        arith,
        ap length loop.invariant,
        pushed_long c.args.answers.now loop.answer-index loop.auto.answer-index-end,
      ),
    )

pub push-requires-in-loop-answer : goal.push-requires-in-loop-answer
push-requires-in-loop-answer c =
    let loop = c.loop-answer in (
      omega arith,
      omega (
        arith,
        ap length loop.invariant,
        pushed_long c.args.answers.now loop.answer-index loop.auto.answer-index-end,
      ),
    )

pub loop-answer-preserved : goal.loop-answer-preserved
loop-answer-preserved c =
    answer_pushed c.args.answers.now c.loop-answer.answer-index _ c.loop-answer.invariant c.loop-answer-test.true
    c.push.ensures.items c.push-in-loop-answer.ensures.items
