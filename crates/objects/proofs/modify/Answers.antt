-- The second word of the key's row, where there is one.
use Rattle.std.proofs.Common.{◌<◌, arith, sym, ◌∙◌}
use Rattle.store.specs.Layout.{word}
use Rattle.objects.specs.Laws.Writing.{within, stored_modified, modified_kept}
use Rattle.objects.proofs.modify.Goals as goal

below : (c : goal.Then-present) → c.position-at.result < word c.args.part.now 1
below c =
    let a = c.args in
    within a.part.now c.requires _ c.rows-rows.ensures a.key _ c.position-at.ensures
    (sym c.present.ensures ∙ c.if-present.true)

pub overflow_mul-part : goal.overflow_mul-part
overflow_mul-part c = omega (arith, below c, c.requires.rows)

pub overflow_add-part : goal.overflow_add-part
overflow_add-part c = omega (arith, below c, c.requires.rows)

pub overflow_add-part-then-present : goal.overflow_add-part-then-present
overflow_add-part-then-present c = omega (arith, below c, c.requires.rows)

pub offset_bounds-part-at : goal.offset_bounds-part-at
offset_bounds-part-at c = omega (arith, below c, c.requires.rows)

pub bounds-part-at : goal.bounds-part-at
bounds-part-at c = omega (arith, below c, c.requires.rows, c.requires.long)

pub returns-then-present : goal.returns-then-present
returns-then-present c =
    let a = c.args in
    stored_modified a.part.now c.requires _ c.rows-rows.ensures a.key _ c.position-at.ensures a.value
    (sym c.present.ensures ∙ c.if-present.true)

pub returns-else-present : goal.returns-else-present
returns-else-present c =
    let a = c.args in
    modified_kept a.part.now c.requires _ c.rows-rows.ensures a.key _ c.position-at.ensures a.value
    (sym c.present.ensures ∙ c.if-present.false)
