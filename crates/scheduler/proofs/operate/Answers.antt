-- Refused, made to wait, or answered and entered in the log.
use Rattle.std.proofs.Common.{sym}
use Rattle.store.specs.Layout.{base}
use Rattle.store.proofs.Decisions.{whether_sound}
use Rattle.store.proofs.Laws.Reading.{kind_below}
use Rattle.protocol.specs.Calls.{request}
use Rattle.protocol.proofs.Laws.Reasons.{operate_accepted}
use Rattle.batches.specs.Laws.Entering.{numbered}
use Rattle.scheduler.specs.Laws.Serving.{operate_refused, operate_waits, operate_answers}
use Rattle.scheduler.proofs.operate.Goals as goal

pub returns-in-Err : goal.returns-in-Err
returns-in-Err c =
    let a = c.args in
    rw c.number.ensures
    (operate_refused a.book.now a.transaction a.object a.operation a.key a.value c.in-Err.reason
    (c.in-Err.ensures a.key a.value))

pub request-requested-requires : goal.request-requested-requires
request-requested-requires c =
    let a = c.args in
    numbered a.operation a.key a.value _
    (operate_accepted base whether_sound a.book.now a.transaction a.object a.operation a.key a.value
    (sym (c.in_default.ensures a.key a.value))).named

pub owners-owners-requires : goal.owners-owners-requires
owners-owners-requires c =
    let a = c.args in
    let accepted = operate_accepted base whether_sound a.book.now a.transaction a.object a.operation a.key a.value
    (sym (c.in_default.ensures a.key a.value)) in
    record {
      packed = accepted.sound.packed;
      live = accepted.sound.store.unsettled.live;
      fits = accepted.sound.store.unsettled.fits;
      below = kind_below base a.book.now a.object _ accepted.kind;
      kinded = (request base a.operation a.key a.value, c.request-requested.ensures, accepted.kind);
    }

pub returns-then-owners-ne0 : goal.returns-then-owners-ne0
returns-then-owners-ne0 c =
    let a = c.args in
    operate_waits a.book.now a.transaction a.object a.operation a.key a.value (c.in_default.ensures a.key a.value) _ _
    (c.owners-owners.ensures (request base a.operation a.key a.value) c.request-requested.ensures)
    c.if-owners-ne0.true c.size.ensures

pub enter-answer-requires : goal.enter-answer-requires
enter-answer-requires c =
    let a = c.args in
    let accepted = operate_accepted base whether_sound a.book.now a.transaction a.object a.operation a.key a.value
    (sym (c.in_default.ensures a.key a.value)) in
    record {
      sound = accepted.sound;
      number = a.operation;
      key = a.key;
      value = a.value;
      accepted = record {
        named = accepted.named;
        kind = accepted.kind;
        entries = accepted.entries;
        room = accepted.room;
      };
      stored = c.request-requested.ensures;
    }

pub returns : goal.returns
returns c =
    let a = c.args in
    let requested = request base a.operation a.key a.value in
    let told = c.enter-answer.ensures requested c.request-requested.ensures in
    operate_answers a.book.now a.transaction a.object a.operation a.key a.value (c.in_default.ensures a.key a.value) _
    (c.owners-owners.ensures requested c.request-requested.ensures) c.if-owners-ne0.false _ told.0 _ told.1
