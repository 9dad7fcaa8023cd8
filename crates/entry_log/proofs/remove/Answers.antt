use Rattle.std.proofs.Common.{arith}
use Rattle.store.specs.Layout.{entry_start}
use Rattle.entry_log.specs.Laws.Sets.{part_cleared}
use Rattle.entry_log.specs.Laws.Writing.{dropped_words}
use Rattle.entry_log.proofs.remove.Goals as goal

pub returns : goal.returns
returns c =
    let gathered = c.gather-kept in
    let count = c.entry_count-count in
    dropped_words c.args.book.now c.requires c.args.transaction _ _ _ _ count.ensures gathered.ensures
    (part_cleared gathered.new.book (entry_start gathered.result) (entry_start count.result) c.fill.new.self
    (omega (arith, gathered.ensures.few, count.ensures))
    (omega (arith, gathered.auto.book, c.requires.words, c.requires.log.entries, count.ensures))
    (c.fill.ensures.after (λ y e. e)))
