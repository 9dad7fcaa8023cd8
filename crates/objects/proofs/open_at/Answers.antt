-- The words from the row on move up by one row's.
use Rattle.std.proofs.Common.{◌+◌, ◌-◌, ◌*◌, ap₂, arith, set, List, ℕ, ◌∙◌}
use borrow.Rule.Slice.PartMut.{put_mid}
use Rattle.store.specs.Layout.{word}
use Rattle.objects.specs.Laws.Writing.{opened}
use Rattle.objects.proofs.open_at.Goals as goal

pub returns : goal.returns
returns c =
    let w = c.args.part.now in
    ap₂ (λ (moved pair : List ℕ).
    let now = put_mid (2 + 2 * c.args.at) (2 + 2 * c.args.at + 2 - (2 + 2 * c.args.at)) moved pair in
    set now 1 (word now 1 + 1))
    c.copy_within.ensures.after c.copy_from_slice.ensures.after
    ∙ opened w c.requires.0 c.args.at _ c.args.row (omega arith) c.requires.1 c.requires.2 (omega arith)
