use Rattle.std.proofs.Common.{◌+◌, ◌-◌, ◌∙◌, ap, length, arith}
use Rattle.std.proofs.lemmas.List.Edits.{sets}
use Rattle.store.specs.Layout.{entry_start}
use Rattle.entry_log.specs.Laws.Sets.{part_written}
use Rattle.entry_log.specs.Laws.Gathering.{words_stored}
use Rattle.entry_log.specs.Laws.Writing.{appended_words}
use Rattle.entry_log.proofs.append.Goals as goal

pub returns : goal.returns
returns c o stored =
    let args = c.args in
    let book = args.book.now in
    let end = entry_start c.entry_count.result in
    let after = c.copy_from_slice.ensures.after in
    appended_words book c.requires.0 _ _ _ c.entry_count.result c.requires.1 c.entry_count.ensures
    (part_written book c.copy_from_slice.new.self end ((end + 7) - end)
    (omega (arith, ap length after)) (omega (arith, c.requires.0.words, c.requires.1, c.entry_count.ensures))
    ∙ ap (sets book end) after)
    (words_stored args.transaction args.object args.operation args.answer o stored)
