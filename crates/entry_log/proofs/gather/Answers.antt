use Rattle.std.proofs.Common.{arith}
use Rattle.entry_log.specs.Laws.Gathering.{gathered_none, gathered_own, gathered_kept}
use Rattle.entry_log.proofs.gather.Goals as goal

pub loop-i-init : goal.loop-i-init
loop-i-init c = gathered_none c.args.book.now c.args.transaction

pub loop-i-preserved : goal.loop-i-preserved
loop-i-preserved c =
    let loop = c.loop-i in
    let stored = c.requires.log.as_stored loop.i (omega (arith, c.entry_count-count.ensures)) in
    elim c.if-entry_transaction-transaction.branch [
      | goal.then-entry_transaction-transaction w ↦ rw (w.book-is, w.kept-is)
          (gathered_kept _ _ _ _ _ loop.invariant _ _ stored c.entry_transaction.ensures
          w.if-entry_transaction-transaction.true w.move_entry.ensures)
      | goal.else-entry_transaction-transaction w ↦ rw (w.book-is, w.kept-is)
          (gathered_own _ _ _ _ _ loop.invariant _ c.entry_transaction.ensures
          w.if-entry_transaction-transaction.false)
    ]
