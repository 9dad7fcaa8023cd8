use Rattle.states.specs.Laws.Serving.{tests}
use Rattle.states.specs.Laws.Stacked as stacked
use Rattle.states.proofs.State.serve_stack.Goals as goal
use Rattle.states.proofs.State.serve_stack.Goals.{then-number-eq-POP, else-number-eq-POP}

pub push-requires : goal.push-requires
push-requires c = (stacked.inside c.requires, stacked.here c.requires)

pub returns-then-number-eq-PUSH : goal.returns-then-number-eq-PUSH
returns-then-number-eq-PUSH c =
    rw (c.push.ensures, c.eq.ensures)
    (stacked.pushed_right c.requires _ c.entry_operation-number.ensures.0 _ _
    (tests c.requires.entry _ c.from.result c.entry_answer-answer.ensures) c.if-number-eq-PUSH.true c.from.ensures)

pub top-top-requires : goal.top-top-requires
top-top-requires c =
    let k = c.requires in (k.entry.formed.packed.words, stacked.here k, stacked.first_rows k)

pub pop-requires : goal.pop-requires
pop-requires c = stacked.here c.requires

pub returns : goal.returns
returns c =
    let k = c.requires in
    let number = c.entry_operation-number.ensures.0 in
    let tested = tests k.entry _ c.from-2.result c.entry_answer-answer.ensures in
    rw c.eq-2.ensures
    (elim c.if-number-eq-POP.branch [
      | then-number-eq-POP w ↦ rw (w.self-is, w.pop.ensures)
          (stacked.popped_right k _ number _ _ tested _ c.top-top.ensures c.from-2.ensures w.if-number-eq-POP.true)
      | else-number-eq-POP w ↦ rw w.self-is
          (stacked.looked_at k _ number _ _ tested _ c.top-top.ensures c.from-2.ensures c.if-number-eq-PUSH.false
          w.if-number-eq-POP.false)
    ])
