-- Whom the operations so far wait for.
use Rattle.std.proofs.Common.{ap, ◌∙◌}
use Rattle.store.specs.Layout.{base, decode}
use Rattle.protocol.specs.Calls.{requested, awaited}
use Rattle.protocol.proofs.Laws.Lent.{lent_at}
use Rattle.batches.specs.Laws.Entering.{numbered_here, scanned_here, awaits_start, awaits_turn, awaits_end}
use Rattle.batches.proofs.owners.Goals as goal

pub request-requested-requires : goal.request-requested-requires
request-requested-requires c =
    let a = c.args in
    numbered_here a.book.now a.transaction a.operations.now c.requires c.lent-lent.result.now c.lent-lent.ensures
    c.loop-object.object-index c.loop-object-test.true

pub owners-requires : goal.owners-requires
owners-requires c =
    let a = c.args in
    scanned_here a.book.now a.transaction a.operations.now c.requires c.lent-lent.result.now c.lent-lent.ensures
    c.loop-object.object-index c.loop-object-test.true _ c.request-requested.ensures

pub loop-object-init : goal.loop-object-init
loop-object-init c = awaits_start c.args.book.now c.args.transaction c.lent-lent.result.now

pub loop-object-preserved : goal.loop-object-preserved
loop-object-preserved c =
    let a = c.args in
    let lent = c.lent-lent.result.now in
    let i = c.loop-object.object-index in
    awaits_turn a.book.now a.transaction lent i c.loop-object-test.true c.loop-object.set c.owners.result
    c.join-set.result (c.owners.ensures (requested base (lent_at lent i)) c.request-requested.ensures)
    c.join-set.ensures c.loop-object.invariant

pub returns : goal.returns
returns c =
    let a = c.args in
    awaits_end a.book.now a.transaction c.lent-lent.result.now c.loop-object.object-index c.loop-object-test.false
    c.loop-object.set c.loop-object.invariant
    ∙ ap (awaited base a.transaction (decode base a.book.now)) c.lent-lent.ensures
