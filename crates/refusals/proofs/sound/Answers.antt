-- The length, then soundness.
use Rattle.std.proofs.Common.{refl, ap, not, ◌∙◌}
use Rattle.refusals.specs.Laws.{applies, passed, past_length, soundness}
use Rattle.refusals.proofs.sound.Goals as goal

pub returns-then-not-sound : goal.returns-then-not-sound
returns-then-not-sound c =
    let w = c.args.book.now in
    past_length w c.in_ok-long.ensures
    (applies _ _ (soundness w c.sound.ensures ∙ ap not c.if-not-sound.true))

pub returns : goal.returns
returns c =
    let w = c.args.book.now in
    past_length w c.in_ok-long.ensures
    (passed _ (soundness w c.sound.ensures ∙ ap not c.if-not-sound.false) refl)
