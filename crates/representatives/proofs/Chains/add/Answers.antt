use Rattle.std.proofs.Common.{arith}
use Rattle.representatives.specs.Laws.Chains.{chained_more}
use Rattle.representatives.proofs.Chains.add.Goals as goal

pub returns : goal.returns
returns g c =
    let slot = c.slot-at.ensures in
    chained_more _ _ c.args.i _ c.requires.3 _ slot.0 slot.1
    (omega (arith, c.requires.0.0.entries, c.requires.0.1)) c.requires.1 c.requires.2
