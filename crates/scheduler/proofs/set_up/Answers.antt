-- Refused, or the words of an empty book.
use Rattle.std.proofs.Common.{sym}
use Rattle.store.specs.Layout.{base}
use Rattle.protocol.proofs.Laws.Reasons.{set_up_accepted}
use Rattle.scheduler.specs.Laws.Serving.{set_up_refused, set_up_done}
use Rattle.scheduler.specs.Laws.Empty.{known_below}
use Rattle.scheduler.proofs.set_up.Goals as goal

pub returns-in-Err : goal.returns-in-Err
returns-in-Err c =
    rw c.number.ensures (set_up_refused c.args.book.now c.args.kinds.now c.in-Err.reason c.in-Err.ensures)

pub write_empty-requires : goal.write_empty-requires
write_empty-requires c =
    let a = set_up_accepted base c.args.book.now c.args.kinds.now (sym c.in_default.ensures) in
    (a.words, a.sixteen, known_below 3 c.args.kinds.now a.known)

pub returns : goal.returns
returns c = set_up_done c.args.book.now c.args.kinds.now c.in_default.ensures _ c.write_empty.ensures
