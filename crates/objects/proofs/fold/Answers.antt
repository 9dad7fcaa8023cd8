-- The part that starts at the object is folded, and the rest of the book stays.
use Rattle.std.proofs.Common.{ℕ, ◌-◌, ◌≤◌, ◌≡◌, List, sym, ap, ◌∙◌, subst, length, take, drop}
use borrow.Rule.Slice.PartMut.{put_mid}
use Rattle.replay.specs.Replay.{next_named}
use Rattle.objects.specs.Objects.{StartsPacked, rows_in, with_rows}
use Rattle.objects.specs.Laws.Folding.{part_ready, book_folded}
use Rattle.objects.proofs.fold.Goals as goal

abbrev part : List ℕ → ℕ → List ℕ
part w s = take (length w - s) (drop s w)

pub fold_part-requires : goal.fold_part-requires
fold_part-requires c =
    let w = c.args.book.now in
    let operation = c.args.operation in
    subst (λ (s : ℕ). StartsPacked (part w s) × (length (next_named operation (rows_in (part w s))) ≤ 64))
    (sym c.object_start-start.ensures)
    (part_ready w c.args.object c.requires.0 c.requires.1 operation c.requires.2)

pub returns : goal.returns
returns c o named =
    let w = c.args.book.now in
    let operation = c.args.operation in
    let here = c.object_start-start.ensures in
    let after = c.fold_part.new.part in
    ap (λ (s : ℕ). put_mid s (length w - s) w after) here
    ∙ book_folded w c.requires.0 c.args.object c.requires.1 operation o named after
    (subst (λ (s : ℕ). after ≡ with_rows (part w s) (next_named operation (rows_in (part w s)))) here
    c.fold_part.ensures)
