-- The tests in order.
use Rattle.std.proofs.Common.{refl}
use Rattle.refusals.specs.Laws.{applies, passed, past_soundness, past_number, can_be, already_live_lem, not_live}
use Rattle.refusals.proofs.begin.Goals as goal

pub returns-then-status_word-ne-ABSENT : goal.returns-then-status_word-ne-ABSENT
returns-then-status_word-ne-ABSENT c =
    let w = c.args.book.now in
    let t = c.args.transaction in
    past_soundness w c.in_ok-sound.ensures
    (past_number t c.in_ok-numbered.ensures
    (applies _ _
    (already_live_lem w t _ (can_be t c.in_ok-numbered.ensures) c.status_word.ensures c.if-status_word-ne-ABSENT.true)))

pub returns : goal.returns
returns c =
    let w = c.args.book.now in
    let t = c.args.transaction in
    past_soundness w c.in_ok-sound.ensures
    (past_number t c.in_ok-numbered.ensures
    (passed _
    (not_live w t _ (can_be t c.in_ok-numbered.ensures) c.status_word.ensures c.if-status_word-ne-ABSENT.false) refl))
