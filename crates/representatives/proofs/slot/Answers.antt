use Rattle.std.proofs.Common.{arith}
use Rattle.std.proofs.lemmas.Grind.{common_steps}
use Rattle.representatives.specs.Representatives.{slot_of}
use Rattle.representatives.proofs.slot.Goals as goal

pub returns : goal.returns
unfolding slot_of
returns g c = grind (arith, common_steps)
