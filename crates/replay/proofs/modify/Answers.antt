-- The row at the position is replaced where it has the key.
use Rattle.std.proofs.Common.{arith, sym, ◌∙◌}
use Rattle.replay.specs.Laws.Copies.{within, modified_set, modified_kept}
use Rattle.replay.proofs.modify.Goals as goal

pub offset_bounds-rows-at : goal.offset_bounds-rows-at
offset_bounds-rows-at c =
    let a = c.args in
    omega (
      arith,
      within a.rows a.count (omega arith) a.key a.at c.requires.1
          (sym c.present.ensures ∙ c.if-present.true),
    )

pub bounds-rows-at : goal.bounds-rows-at
bounds-rows-at c =
    let a = c.args in
    omega (
      arith,
      within a.rows a.count (omega arith) a.key a.at c.requires.1
          (sym c.present.ensures ∙ c.if-present.true),
    )

pub returns-then-present : goal.returns-then-present
returns-then-present c =
    let a = c.args in
    modified_set a.rows a.count (omega arith) a.key a.at c.requires.1 a.value
    (sym c.present.ensures ∙ c.if-present.true)

pub returns-else-present : goal.returns-else-present
returns-else-present c =
    let a = c.args in
    modified_kept a.rows a.count (omega arith) a.key a.at c.requires.1 a.value
    (sym c.present.ensures ∙ c.if-present.false)
