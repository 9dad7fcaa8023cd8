-- The constants have the codes of the two relations' rules.
use Rattle.std.proofs.Common.{refl}
use Rattle.operations.specs.PairRules.{recoverable_rules, commuting_rules}
use Rattle.pairs.proofs.rows.Goals as goal

pub returns : goal.returns
returns c =
    (c.row.ensures recoverable_rules (refl, refl, refl), c.row-2.ensures commuting_rules (refl, refl, refl))
