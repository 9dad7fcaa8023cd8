use Rattle.std.proofs.Common.{sym, ◌∙◌}
use Rattle.std.proofs.lemmas.Bool.{false≢true}
use Rattle.store.specs.Layout.{AsStored}
use Rattle.entry_log.specs.Log.{EntryLive, EntryOfKind}
use Rattle.entry_log.specs.Laws.Packing.{stored_read}
use Rattle.entry_log.proofs.entry_fits.Goals.{Then-of_kind}
use Rattle.entry_log.proofs.entry_fits.Goals as goal

-- What the first three tests say where they were passed.
passed : (c : Then-of_kind)
    → AsStored c.args.book.now c.args.i × EntryLive c.args.book.now c.args.i × EntryOfKind c.args.book.now c.args.i
passed c =
    elim c.if-is_live.branch [
      | goal.then-is_live w ↦ elim c.if-is_stored.branch [
        | goal.then-is_stored v ↦ (
          (stored_read _ c.args.book.now c.args.i _ _ _ c.is_stored.ensures c.entry_operation.ensures).0
              v.if-is_stored.true,
          v.is_live.ensures.0 (sym v.value-is ∙ w.if-is_live.true),
          w.of_kind.ensures.0 (sym w.value-is ∙ c.if-of_kind.true),
        )
        | goal.else-is_stored v ↦
            absurd (false≢true (sym v.if-is_stored.false ∙ sym v.value-is ∙ w.if-is_live.true))
      ]
      | goal.else-is_live w ↦
          absurd (false≢true (sym w.if-is_live.false ∙ sym w.value-is ∙ c.if-of_kind.true))
    ]

pub of_kind-requires : goal.of_kind-requires
of_kind-requires c =
    let stored : AsStored c.args.book.now c.args.i = elim c.if-is_stored.branch [
      | goal.then-is_stored w ↦
          (stored_read _ c.args.book.now c.args.i _ _ _ c.is_stored.ensures c.entry_operation.ensures).0
          w.if-is_stored.true
      | goal.else-is_stored w ↦
          absurd (false≢true (sym w.if-is_stored.false ∙ sym w.value-is ∙ c.if-is_live.true))
    ] in
    (c.requires.0, c.requires.1, stored)

pub is_reduced-requires : goal.is_reduced-requires
is_reduced-requires c = (c.requires.0, c.requires.1, (passed c).0)

pub returns-then-of_kind : goal.returns-then-of_kind
returns-then-of_kind c =
    let before = passed (goal.at.returns-then-of_kind c).Then-of_kind in (
      λ e. (before.0, before.1, before.2, c.is_reduced.ensures.0 e),
      λ p. c.is_reduced.ensures.1 p.3,
    )
