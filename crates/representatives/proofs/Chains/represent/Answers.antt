use Rattle.std.proofs.Common.{lit<}
use Rattle.representatives.specs.Laws.Firsts.{representative_itself}
use Rattle.representatives.specs.Laws.Chains.{chained_same}
use Rattle.representatives.proofs.Chains.represent.Goals as goal

pub returns-in-Some : goal.returns-in-Some
returns-in-Some g c =
    let found = c.in-Some.ensures in
    (found.1, chained_same _ _ _ _ c.requires.2 (λ q f. f c.in-Some.j found.0 found.1.alike))

pub add-requires : goal.add-requires
add-requires g c = (lit< tt, (c.requires.0, c.requires.1, c.in-None.ensures, c.requires.2))

pub returns-in-None : goal.returns-in-None
returns-in-None g c = (representative_itself _ _ _ c.in-None.ensures, c.add.ensures)
