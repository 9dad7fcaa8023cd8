-- `resuming::replay`: a record that is confirmed is behind those before it.
use Rattle.std.proofs.Common.{refl, ◌∙◌, arith}
use Rattle.resuming.specs.Resuming.{here}
use Rattle.resuming.specs.Laws.Chains.{goes_on}
use Rattle.resuming.proofs.replay.Goals as goal

pub loop-behind-init : goal.loop-behind-init
loop-behind-init c = (here, omega arith, refl)

pub loop-behind-preserved : goal.loop-behind-preserved
loop-behind-preserved c =
    let loop = c.loop-behind in
    let (replayed, onward, within) =
    goes_on loop.at loop.invariant.0 c.resume.new.book (rw c.in-Ok-Some.field-0-is at c.in-Ok-Some.ensures) in
    (replayed, within, c.resume.auto.book ∙ loop.invariant.2)
