-- `ending::lowest_ready`: the next one is ready and before the lowest found, or not.
use Rattle.operations.proofs.Laws.Cases.{denied}
use Rattle.store.specs.Layout.{base, decode}
use Rattle.ending.specs.Laws.Ready.{ready_tested, found_below, least_lower, least_kept, least_named}
use Rattle.ending.proofs.lowest_ready.Goals as goal
use Rattle.ending.proofs.lowest_ready.Goals.{else-ready-via-then-ready+else-before, else-ready-via-else-ready}

pub before-requires : goal.before-requires
before-requires c =
    (c.requires.packed.words, c.in-Some.ensures.steps.0.below, found_below _ _ _ c.loop-transaction.invariant)

pub loop-transaction-preserved-then-before : goal.loop-transaction-preserved-then-before
loop-transaction-preserved-then-before c =
    let tested = ready_tested c.args.edges.now (decode base c.args.book.now) c.in-Some.transaction c.requires.edges _
    c.ready.ensures in
    let (next, rest) = c.in-Some.ensures.steps in
    least_lower _ _ _ _ next.member rest _ c.loop-transaction.invariant (tested.0 c.if-ready.true)
    (c.before-then-ready.ensures.0 c.if-before.true)

pub loop-transaction-preserved : goal.loop-transaction-preserved
loop-transaction-preserved c =
    let tested = ready_tested c.args.edges.now (decode base c.args.book.now) c.in-Some.transaction c.requires.edges _
    c.ready.ensures in
    let (next, rest) = c.in-Some.ensures.steps in
    least_kept _ _ _ _ next.member rest _ c.loop-transaction.invariant
    (elim c.else-ready.branch [
      | else-ready-via-then-ready+else-before v ↦
          λ ready before. denied v.before-then-ready.ensures v.if-before.false before
      | else-ready-via-else-ready v ↦ λ ready before. denied tested v.if-ready.false ready
    ])

pub returns : goal.returns
returns c =
    let unsettled = c.requires.unsettled in
    least_named c.args.book.now c.requires.packed unsettled.once unsettled.gapless _ c.in-None.ensures.steps.0 _
    c.loop-transaction.invariant
