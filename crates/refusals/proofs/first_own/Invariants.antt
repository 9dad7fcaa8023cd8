use Rattle.std.proofs.Common.{◌≡◌, drop}
use Rattle.store.specs.Layout.{base, decode}
use Rattle.protocol.specs.Calls.{first, own_reasons}
use Rattle.protocol.specs.Lent.{lent_operations}
use Rattle.refusals.proofs.first_own.Given as goal

-- What is left to test says what all of it does.
abbrev pub invariant-loop-object : goal.invariant-loop-object
invariant-loop-object l =
    first (own_reasons (decode base l.book) (drop l.object-index (lent_operations l.lent)))
    ≡ first (own_reasons (decode base l.book) (lent_operations l.lent))
