-- `script::feed`: what is taken of a line is behind what was taken.
use Rattle.std.proofs.Common.{◌∙◌}
use Rattle.script.proofs.Laws.Taking.{took_more}
use Rattle.script.proofs.feed.Goals as goal

pub loop-output-preserved : goal.loop-output-preserved
loop-output-preserved c =
    let taken = c.take_line-progress in
    let held = c.loop-output.invariant in (
      taken.auto.line ∙ held.0,
      taken.auto.out ∙ held.1,
      taken.auto.book ∙ held.2,
      taken.auto.journal ∙ held.3,
      took_more held.4 taken.ensures.0,
    )
