-- The tests in order.
use Rattle.std.proofs.Common.{◌∙◌, refl}
use Rattle.refusals.specs.Laws.{applies, passed, no_object_lem, without_kind_lem, has_kind, kind_read}
use Rattle.refusals.proofs.kind_of.Goals as goal

pub returns-then-object-gt-LAST_OBJECT-clause-reason : goal.returns-then-object-gt-LAST_OBJECT-clause-reason
returns-then-object-gt-LAST_OBJECT-clause-reason c =
    applies 8 0 (no_object_lem c.args.book.now _ c.if-object-gt-LAST_OBJECT.true)

pub returns-in-None-clause-reason : goal.returns-in-None-clause-reason
returns-in-None-clause-reason c =
    applies 8 0
    (without_kind_lem c.args.book.now _ _ c.if-object-gt-LAST_OBJECT.false
    (c.in-Ok.ensures ∙ c.object_kind.ensures) c.in-None.is)

pub returns-in_default-kind : goal.returns-in_default-kind
returns-in_default-kind c =
    let w = c.args.book.now in
    let below = c.if-object-gt-LAST_OBJECT.false in
    let found = c.in-Ok.ensures ∙ c.object_kind.ensures in
    record {
      reason = passed 8 (has_kind w _ _ below found c.in_default-kind.not-None) refl;
      kind = kind_read w _ _ below found;
    }
