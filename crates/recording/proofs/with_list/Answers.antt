-- `recording::with_list`: the call's part, completed with the reply's.
use Rattle.std.proofs.Common.{arith}
use Rattle.recording.specs.Laws.Replies.{call_refused, call_recorded}
use Rattle.recording.proofs.with_list.Goals as goal

pub returns-then-told-ne-ACCEPTED : goal.returns-then-told-ne-ACCEPTED
returns-then-told-ne-ACCEPTED c =
    call_refused c.args.call.now c.args.reply c.args.list.now c.from-told.result c.from-told.ensures
    c.if-told-ne-ACCEPTED.true

pub returns : goal.returns
returns c =
    let a = c.args in
    call_recorded a.call.now a.reply a.list.now c.requires.few c.requires.given
    c.called-content.result c.called-content.ensures c.from-told.result c.from-told.ensures
    c.min-listed.result (omega arith) c.behind.result c.behind.ensures _ c.complete.ensures
