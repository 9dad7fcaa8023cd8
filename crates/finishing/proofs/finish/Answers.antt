-- Refused; or aborted for a circle, committed, or finished.
use Rattle.std.proofs.Common.{refl, arith}
use Rattle.operations.proofs.Laws.Cases.{denied}
use Rattle.finishing.specs.Laws.Ending.{accepts, finish_refused, may_abort, may_commit, circle_tested}
use Rattle.finishing.specs.Laws.Ending.{readiness_tested, aborted_few, committed_few}
use Rattle.finishing.specs.Laws.Ending.{circle, committed, finished}
use Rattle.finishing.proofs.finish.Goals as goal

pub returns-in-Err : goal.returns-in-Err
returns-in-Err c =
    let a = c.args in
    rw c.number.ensures
    (finish_refused a.book.now a.transaction a.list.now c.in-Err.reason (c.in-Err.ensures.reason a.list.now refl))

-- ---- Predecessors and successors meet

pub abort-count-requires : goal.abort-count-requires
abort-count-requires c =
    let a = c.args in
    may_abort (accepts a.book.now a.transaction a.list.now (c.in-Ok.ensures.reason a.list.now refl))
    (c.in-Ok.ensures.found _ refl)

pub overflow_cast-result : goal.overflow_cast-result
overflow_cast-result c =
    let a = c.args in
    let accepted = accepts a.book.now a.transaction a.list.now (c.in-Ok.ensures.reason a.list.now refl) in
    omega (arith, aborted_few accepted c.abort-count.ensures)

pub returns-then-meet-ne0 : goal.returns-then-meet-ne0
returns-then-meet-ne0 c =
    let a = c.args in
    let accepted = accepts a.book.now a.transaction a.list.now (c.in-Ok.ensures.reason a.list.now refl) in
    let on_circle = circle_tested accepted (c.in-Ok.ensures.found _ refl) _ _ c.meet.result
    c.predecessors-predecessors.ensures c.successors-successors.ensures c.meet.ensures in
    circle accepted (on_circle.0 c.if-meet-ne0.true) c.abort-count.ensures

-- ---- They stay apart, and it depends on nobody

pub commit_active-count-requires : goal.commit_active-count-requires
commit_active-count-requires c =
    let a = c.args in
    let accepted = accepts a.book.now a.transaction a.list.now (c.in-Ok.ensures.reason a.list.now refl) in
    let examined = c.in-Ok.ensures.found _ refl in
    may_commit accepted examined
    ((readiness_tested accepted examined c.ready.result c.ready.ensures).0 c.if-ready.true)

pub overflow_cast-result-then-ready : goal.overflow_cast-result-then-ready
overflow_cast-result-then-ready c =
    let a = c.args in
    let accepted = accepts a.book.now a.transaction a.list.now (c.in-Ok.ensures.reason a.list.now refl) in
    omega (arith, committed_few accepted c.commit_active-count.ensures)

pub returns-then-ready : goal.returns-then-ready
returns-then-ready c =
    let a = c.args in
    let accepted = accepts a.book.now a.transaction a.list.now (c.in-Ok.ensures.reason a.list.now refl) in
    let examined = c.in-Ok.ensures.found _ refl in
    let on_circle = circle_tested accepted examined _ _ c.meet.result
    c.predecessors-predecessors.ensures c.successors-successors.ensures c.meet.ensures in
    committed accepted (λ cycle. on_circle.1 cycle c.if-meet-ne0.false)
    ((readiness_tested accepted examined c.ready.result c.ready.ensures).0 c.if-ready.true)
    c.commit_active-count.ensures

-- ---- It depends on others

pub pseudo_commit-requires : goal.pseudo_commit-requires
pseudo_commit-requires c =
    let a = c.args in
    let accepted = accepts a.book.now a.transaction a.list.now (c.in-Ok.ensures.reason a.list.now refl) in
    (accepted.sound.packed, accepted.below)

pub returns : goal.returns
returns c =
    let a = c.args in
    let accepted = accepts a.book.now a.transaction a.list.now (c.in-Ok.ensures.reason a.list.now refl) in
    let examined = c.in-Ok.ensures.found _ refl in
    let on_circle = circle_tested accepted examined _ _ c.meet.result
    c.predecessors-predecessors.ensures c.successors-successors.ensures c.meet.ensures in
    finished accepted (λ cycle. on_circle.1 cycle c.if-meet-ne0.false)
    (denied (readiness_tested accepted examined c.ready.result c.ready.ensures) c.if-ready.false)
    c.pseudo_commit.ensures
