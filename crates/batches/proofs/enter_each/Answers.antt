-- What the operations so far leave, their answers, and the copy that is carried.
use Rattle.std.proofs.Common.{refl, arith}
use Rattle.store.specs.Layout.{base}
use Rattle.protocol.specs.Calls.{requested}
use Rattle.protocol.proofs.Laws.Lent.{lent_at}
use Rattle.batches.specs.Laws.Entering.{numbered_here, few_lent, entering_start, entering_sound, entering_below}
use Rattle.batches.specs.Laws.Entering.{entering_short, carried_anew, carried_held, room_here, carried_on}
use Rattle.batches.specs.Laws.Entering.{entering_turn, entering_end}
use Rattle.batches.specs.Laws.Carrying.{of_its_own}
use Rattle.batches.proofs.enter_each.Goals as goal

pub loop-i-init : goal.loop-i-init
loop-i-init c =
    let a = c.args in (
      entering_start a.book.now a.transaction a.operations.now c.requires.0 c.lent-lent.result.now c.lent-lent.ensures
          _ refl,
      tt,
    )

pub request-requested-requires : goal.request-requested-requires
request-requested-requires c =
    let a = c.args in
    numbered_here a.book.now a.transaction a.operations.now c.requires.0 c.lent-lent.result.now c.lent-lent.ensures
    c.loop-i.i c.loop-i-test.true

pub carried_or_logged-copy-requires : goal.carried_or_logged-copy-requires
carried_or_logged-copy-requires c =
    let a = c.args in
    let lent = c.lent-lent.result.now in
    let loop = c.loop-i in
    let so_far = loop.invariant.0 in
    let sound = entering_sound a.book.now a.transaction a.operations.now c.requires.0 lent c.lent-lent.ensures loop.i
    loop.book loop.answers so_far in (
      sound.packed,
      entering_below a.book.now a.transaction a.operations.now c.requires.0 lent c.lent-lent.ensures loop.i loop.book
          loop.answers so_far c.loop-i-test.true,
      sound.store.unsettled.room,
      carried_held a.book.now a.transaction a.operations.now c.requires.0 lent c.lent-lent.ensures loop.i loop.book
          loop.answers so_far loop.carried loop.invariant.1,
    )

pub answer-answer-requires : goal.answer-answer-requires
answer-answer-requires c = c.carried_or_logged-copy.ensures.few

pub append-requires : goal.append-requires
append-requires c =
    let a = c.args in
    let lent = c.lent-lent.result.now in
    let loop = c.loop-i in (
      (entering_sound a.book.now a.transaction a.operations.now c.requires.0 lent c.lent-lent.ensures loop.i
          loop.book loop.answers loop.invariant.0).packed,
      entering_short a.book.now a.transaction a.operations.now c.requires.0 lent c.lent-lent.ensures loop.i loop.book
          loop.answers loop.invariant.0 c.loop-i-test.true,
      (requested base (lent_at lent loop.i), c.request-requested.ensures),
    )

pub bounds-answers-i : goal.bounds-answers-i
bounds-answers-i c =
    let a = c.args in
    omega (
      arith,
      c.loop-i-test.true,
      few_lent a.book.now a.transaction a.operations.now c.requires.0 c.lent-lent.result.now c.lent-lent.ensures,
    )

pub after-requires : goal.after-requires
after-requires c =
    let a = c.args in
    let lent = c.lent-lent.result.now in
    let loop = c.loop-i in
    let copy = carried_anew a.book.now a.transaction a.operations.now c.requires.0 lent c.lent-lent.ensures loop.i
    loop.book loop.answers loop.invariant.0 c.loop-i-test.true c.carried_or_logged-copy.result
    c.carried_or_logged-copy.ensures in (
      copy.few,
      room_here a.book.now a.transaction a.operations.now c.requires.0 lent c.lent-lent.ensures loop.i loop.book
          loop.answers loop.invariant.0 c.loop-i-test.true _ c.request-requested.ensures
          c.carried_or_logged-copy.result copy,
    )

pub loop-i-preserved : goal.loop-i-preserved
loop-i-preserved c =
    let a = c.args in
    let lent = c.lent-lent.result.now in
    let loop = c.loop-i in
    let stored = c.request-requested.ensures in
    let copy = carried_anew a.book.now a.transaction a.operations.now c.requires.0 lent c.lent-lent.ensures loop.i
    loop.book loop.answers loop.invariant.0 c.loop-i-test.true c.carried_or_logged-copy.result
    c.carried_or_logged-copy.ensures in
    let later = carried_on a.book.now a.transaction a.operations.now c.requires.0 lent c.lent-lent.ensures loop.i
    loop.book loop.answers loop.invariant.0 c.loop-i-test.true _ stored c.carried_or_logged-copy.result copy
    c.after.result c.after.ensures in (
      entering_turn a.book.now a.transaction a.operations.now c.requires.0 lent c.lent-lent.ensures loop.i loop.book
          loop.answers loop.invariant.0 c.loop-i-test.true _ stored c.carried_or_logged-copy.result copy
          c.requires.1 _ c.answer-answer.ensures _ (c.append.ensures (requested base (lent_at lent loop.i)) stored),
      of_its_own later,
    )

pub returns : goal.returns
returns c =
    let a = c.args in
    entering_end a.book.now a.transaction a.operations.now c.requires.0 c.lent-lent.result.now c.lent-lent.ensures
    c.loop-i.i c.loop-i.book c.loop-i.answers c.loop-i.invariant.0 c.loop-i-test.false
