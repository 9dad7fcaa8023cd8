use Rattle.std.proofs.Common.{arith, ap, sym, ◌∙◌}
use Rattle.operations.specs.Operations.{answering}
use Rattle.states.specs.Laws.Seeking.{seek_above, seek_below, seek_found, seek_absent}
use Rattle.states.proofs.seek.Goals as goal
use Rattle.states.proofs.seek.Goals.{then-row_key-key, else-row_key-key}
use Rattle.states.proofs.seek.Goals.{else-left-eq1-via-then-left-eq1+else-row_key-key-2}
use Rattle.states.proofs.seek.Goals.{else-left-eq1-via-else-left-eq1}

pub loop-left-preserved : goal.loop-left-preserved
loop-left-preserved c =
    elim c.if-row_key-key.branch [
      | then-row_key-key w ↦ rw w.low-is
          (seek_above _ _ _ c.requires.ascending c.loop-left.invariant _ (omega arith) (omega arith))
      | else-row_key-key w ↦ rw w.low-is
          (seek_below _ _ _ c.requires.ascending c.loop-left.invariant _ (omega arith) (omega arith))
    ]

pub returns-then-row_key-key-2 : goal.returns-then-row_key-key-2
returns-then-row_key-key-2 c =
    ap (answering 1) c.row_value.ensures
    ∙ seek_found _ _ _ c.requires.ascending c.loop-left.invariant c.if-left-eq1.true
    (sym c.row_key-then-left-eq1.ensures ∙ c.if-row_key-key-2.true)

pub returns : goal.returns
returns c =
    seek_absent _ _ _ c.requires.ascending c.loop-left.invariant (omega arith)
    (λ one e. elim c.else-left-eq1.branch [
      | else-left-eq1-via-then-left-eq1+else-row_key-key-2 w ↦
          w.if-row_key-key-2.false (w.row_key-then-left-eq1.ensures ∙ e)
      | else-left-eq1-via-else-left-eq1 w ↦ w.if-left-eq1.false one
    ])
