-- Refused; or aborted.
use Rattle.std.proofs.Common.{refl, arith}
use Rattle.finishing.specs.Laws.Ending.{accepts, cancel_refused, may_abort, aborted_few, cancelled}
use Rattle.finishing.proofs.cancel.Goals as goal

pub returns-in-Err : goal.returns-in-Err
returns-in-Err c =
    let a = c.args in
    rw c.number.ensures
    (cancel_refused a.book.now a.transaction a.list.now c.in-Err.reason (c.in-Err.ensures.reason a.list.now refl))

pub abort-committed-requires : goal.abort-committed-requires
abort-committed-requires c =
    let a = c.args in
    may_abort (accepts a.book.now a.transaction a.list.now (c.in-Ok.ensures.reason a.list.now refl))
    (c.in-Ok.ensures.found _ refl)

pub overflow_cast-result : goal.overflow_cast-result
overflow_cast-result c =
    let a = c.args in
    let accepted = accepts a.book.now a.transaction a.list.now (c.in-Ok.ensures.reason a.list.now refl) in
    omega (arith, aborted_few accepted c.abort-committed.ensures)

pub returns : goal.returns
returns c =
    let a = c.args in
    cancelled (accepts a.book.now a.transaction a.list.now (c.in-Ok.ensures.reason a.list.now refl))
    c.abort-committed.ensures
