-- The row at the position is left out where it has the key, else the copy is as it was.
use Rattle.std.proofs.Common.{arith, length-take-le, sym, ◌∙◌}
use Rattle.replay.specs.Laws.Copies.{within, deleted_removed, deleted_kept}
use Rattle.replay.proofs.delete.Goals as goal

pub close_at-requires : goal.close_at-requires
close_at-requires c =
    let a = c.args in
    omega (
      arith,
      length-take-le a.count a.rows (omega arith),
      within a.rows a.count (omega arith) a.key a.at
          c.requires.1 (sym c.present.ensures ∙ c.if-present.true),
    )

pub returns-then-present : goal.returns-then-present
returns-then-present c =
    let a = c.args in
    deleted_removed a.rows a.count (omega arith) a.key a.at c.requires.1 c.close_at.new.rows
    (sym c.present.ensures ∙ c.if-present.true) c.close_at.auto.rows c.close_at.ensures

pub returns-else-present : goal.returns-else-present
returns-else-present c =
    let a = c.args in
    deleted_kept a.rows a.count (omega arith) a.key a.at c.requires.1 (sym c.present.ensures ∙ c.if-present.false)
