use Rattle.std.proofs.Common.{◌≡◌, refl, arith}
use Rattle.states.specs.Laws.Going.{counts_more}
use Rattle.states.proofs.row_counts.Goals as goal

pub loop-object-init : goal.loop-object-init
loop-object-init c = record { objects = refl; rows = λ o l. absurd (omega arith) }

pub loop-object-preserved : goal.loop-object-preserved
loop-object-preserved c = counts_more _ _ _ _ c.loop-object-test.true c.row_count.ensures c.loop-object.invariant

pub returns : goal.returns
returns c = let all : c.loop-object.object ≡ 16 = omega arith in rw all at c.loop-object.invariant
