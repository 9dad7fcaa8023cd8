-- `dependencies::picked`: the owners picked at the columns passed.
use Rattle.bitset.specs.Bitset.{Holds}
use Rattle.operations.specs.PairRules.{recoverable_rules, commuting_rules}
use Rattle.dependencies.specs.Dependencies.{Picked}
use Rattle.dependencies.proofs.picked.Given as goal

abbrev pub invariant-loop-at : goal.invariant-loop-at
invariant-loop-at g l =
    Holds l.barred.unrecoverable (Picked recoverable_rules g.row.NUMBER l.whole l.same l.others l.at)
    × Holds l.barred.conflicting (Picked commuting_rules g.row.NUMBER l.whole l.same l.others l.at)
