-- `dependencies::conflicts`: the sets of the entries passed, and the rows by which the next is held against them.
use Rattle.std.proofs.Common.{◌≡◌, true, length}
use Rattle.bitset.specs.Bitset.{Holds, Represents}
use Rattle.operations.specs.PairRules.{commutes}
use Rattle.representatives.specs.Representatives.{Chained}
use Rattle.dependencies.specs.Dependencies.{BarsBelow, Unrecoverable, Gathered}
use Rattle.dependencies.proofs.conflicts.Given as goal

abbrev pub invariant-loop-i : goal.invariant-loop-i
invariant-loop-i l =
    (length l.dependencies ≡ 64) × Represents l.dependencies (BarsBelow commutes l.book l.i)
    × Holds l.unrecoverable (Unrecoverable l.book l.i) × Gathered l.book l.i l.rows
    × Chained true l.book l.i l.chains
