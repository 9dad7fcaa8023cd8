-- A key that is there is left out at its position.
use Rattle.std.proofs.Common.{sym, ◌∙◌}
use Rattle.objects.specs.Laws.Writing.{within, removed_deleted, deleted_kept}
use Rattle.objects.proofs.delete.Goals as goal

pub close_at-requires : goal.close_at-requires
close_at-requires c =
    let a = c.args in (
      c.requires,
      within a.part.now c.requires _ c.rows-rows.ensures a.key _ c.position-at.ensures
          (sym c.present.ensures ∙ c.if-present.true),
    )

pub returns-then-present : goal.returns-then-present
returns-then-present c =
    let a = c.args in
    c.close_at.ensures
    ∙ removed_deleted a.part.now c.requires _ c.rows-rows.ensures a.key _ c.position-at.ensures
    (sym c.present.ensures ∙ c.if-present.true)

pub returns-else-present : goal.returns-else-present
returns-else-present c =
    let a = c.args in
    deleted_kept a.part.now c.requires _ c.rows-rows.ensures a.key _ c.position-at.ensures
    (sym c.present.ensures ∙ c.if-present.false)
