-- What the word of a status says.
use Rattle.refusals.specs.Laws.{applies, passed, not_active_lem, is_active_lem}
use Rattle.std.proofs.Common.{refl}
use Rattle.refusals.proofs.active.Goals as goal

pub returns-then-status_word-ne-ACTIVE : goal.returns-then-status_word-ne-ACTIVE
returns-then-status_word-ne-ACTIVE c =
    applies _ _ (not_active_lem c.args.book.now _ _ c.requires.1 c.status_word.ensures c.if-status_word-ne-ACTIVE.true)

pub returns : goal.returns
returns c =
    passed _
    (is_active_lem c.args.book.now _ _ c.requires.1 c.status_word.ensures c.if-status_word-ne-ACTIVE.false)
    refl
