use Rattle.entry_log.specs.Laws.Fitting.{live_past}
use Rattle.entry_log.proofs.is_live.Goals as goal

pub returns-else-transaction-le-LAST_TRANSACTION : goal.returns-else-transaction-le-LAST_TRANSACTION
returns-else-transaction-le-LAST_TRANSACTION c =
    live_past c.args.book.now c.args.i _ c.entry_transaction-transaction.ensures
    c.if-transaction-le-LAST_TRANSACTION.false
