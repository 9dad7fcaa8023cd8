-- Refused, or active from then on.
use Rattle.std.proofs.Common.{sym}
use Rattle.store.specs.Layout.{base}
use Rattle.store.proofs.Decisions.{whether_sound}
use Rattle.protocol.proofs.Laws.Reasons.{begin_accepted}
use Rattle.scheduler.specs.Laws.Serving.{begin_refused, begin_done}
use Rattle.scheduler.proofs.begin.Goals as goal

pub returns-in-Err : goal.returns-in-Err
returns-in-Err c =
    rw c.number.ensures (begin_refused c.args.book.now c.args.transaction c.in-Err.reason c.in-Err.ensures)

pub set_status-requires : goal.set_status-requires
set_status-requires c =
    let accepted = begin_accepted base whether_sound c.args.book.now c.args.transaction (sym c.in_default.ensures) in
    (accepted.sound.packed, accepted.below)

pub returns : goal.returns
returns c = begin_done c.args.book.now c.args.transaction c.in_default.ensures _ c.set_status.ensures
