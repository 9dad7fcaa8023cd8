use Rattle.entry_log.specs.Laws.Packing.{then_zeros}
use Rattle.entry_log.proofs.bounded.Goals as goal

pub returns-then-count-le-ENTRIES : goal.returns-then-count-le-ENTRIES
returns-then-count-le-ENTRIES c =
    then_zeros c.args.book.now _ c.entry_count-count.ensures _ c.if-count-le-ENTRIES.true c.is_zero.ensures
