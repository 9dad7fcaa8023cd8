-- `ending::commit_ready`: the lowest ready one commits, and what is left to commit follows.
use Rattle.std.proofs.Common.{sym, arith}
use Rattle.ending.specs.Laws.Ready.{named_below}
use Rattle.ending.specs.Laws.Settling.{within, settling_less, settling_more, settling_ended}
use Rattle.ending.proofs.commit_ready.Goals as goal

pub commit-requires : goal.commit-requires
commit-requires c =
    let book = c.loop-transaction.invariant.book in
    (book.packed, named_below _ book.packed _ c.in-Some.ensures, book.unsettled.fits, book.unsettled.room)

pub forget-requires : goal.forget-requires
forget-requires c =
    let book = c.loop-transaction.invariant.book in
    (book.whole, named_below _ book.packed _ c.in-Some.ensures)

pub without-left-requires : goal.without-left-requires
without-left-requires c = named_below _ c.loop-transaction.invariant.book.packed _ c.in-Some.ensures

pub overflow_cast-list : goal.overflow_cast-list
overflow_cast-list c =
    omega (arith, named_below _ c.loop-transaction.invariant.book.packed _ c.in-Some.ensures)

pub bounds-list-count : goal.bounds-list-count
bounds-list-count c = within c.loop-transaction.invariant (sym c.in-Some.ensures)

pub loop-transaction-smaller : goal.loop-transaction-smaller
loop-transaction-smaller c =
    settling_less c.loop-transaction.invariant (sym c.in-Some.ensures) _ c.forget.ensures c.without-left.ensures
    c.commit.ensures

pub loop-transaction-preserved : goal.loop-transaction-preserved
loop-transaction-preserved c =
    settling_more c.loop-transaction.invariant (sym c.in-Some.ensures) _ c.forget.ensures c.without-left.ensures
    c.commit.ensures

pub returns : goal.returns
returns c = settling_ended c.loop-transaction.invariant (sym c.in_default.ensures)
