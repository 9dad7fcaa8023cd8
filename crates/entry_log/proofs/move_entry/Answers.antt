use Rattle.std.proofs.Common.{◌+◌, ◌-◌, ◌∙◌, ap, length, arith}
use Rattle.std.proofs.lemmas.List.Edits.{sets}
use Rattle.store.specs.Layout.{entry_start}
use Rattle.entry_log.specs.Laws.Sets.{part_written}
use Rattle.entry_log.proofs.move_entry.Goals as goal

pub returns : goal.returns
returns c =
    let book = c.args.book.now in
    let end = entry_start c.args.to in
    let after = c.copy_from_slice.ensures.after in
    part_written book c.copy_from_slice.new.self end ((end + 7) - end) (omega (arith, ap length after))
    (omega (arith, c.requires.0, c.requires.2))
    ∙ ap (sets book end) after
