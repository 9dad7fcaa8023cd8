-- `ending::carry_out`: of the transaction's entries, those before i are carried into the rows.
use Rattle.std.proofs.Common.{◌≡◌, ◌≤◌}
use Rattle.store.specs.Layout.{word}
use Rattle.ending.specs.Laws.Carrying.{Carrying}
use Rattle.ending.proofs.carry_out.Given as goal

abbrev pub invariant-loop-i : goal.invariant-loop-i
invariant-loop-i l =
    (l.count ≤ 256) × (l.count ≡ word l.initial.book 0) × Carrying l.initial.book l.transaction l.i l.book
