-- A key that is absent is put in at its position.
use Rattle.std.proofs.Common.{sym, ◌∙◌}
use Rattle.objects.specs.Laws.Writing.{room, put_inserted, inserted_kept}
use Rattle.objects.proofs.insert.Goals as goal

pub open_at-requires : goal.open_at-requires
open_at-requires c =
    let a = c.args in
    let free = room a.part.now c.requires.0 _ c.rows-rows.ensures a.key _ c.position-at.ensures a.value
    (sym c.present.ensures ∙ c.if-not-present.true) c.requires.1 in
    (c.requires.0, free.0, free.1)

pub returns-then-not-present : goal.returns-then-not-present
returns-then-not-present c =
    let a = c.args in
    c.open_at.ensures
    ∙ put_inserted a.part.now c.requires.0 _ c.rows-rows.ensures a.key _ c.position-at.ensures a.value
    (sym c.present.ensures ∙ c.if-not-present.true)

pub returns-else-not-present : goal.returns-else-not-present
returns-else-not-present c =
    let a = c.args in
    inserted_kept a.part.now c.requires.0 _ c.rows-rows.ensures a.key _ c.position-at.ensures a.value
    (sym c.present.ensures ∙ c.if-not-present.false)
