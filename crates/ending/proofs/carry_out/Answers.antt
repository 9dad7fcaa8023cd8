-- `ending::carry_out`: the transaction's entries go into the rows, others are left out.
use Rattle.std.proofs.Common.{sym, ◌∙◌, ◌<◌, arith}
use Rattle.store.specs.Layout.{word}
use Rattle.ending.specs.Laws.Carrying.{carrying_begun, carrying_other, carrying_own, carrying_ended, named, foldable}
use Rattle.ending.proofs.carry_out.Goals as goal
use Rattle.ending.proofs.carry_out.Goals.{then-entry_transaction-transaction, else-entry_transaction-transaction}

pub loop-i-init : goal.loop-i-init
loop-i-init c = (
  omega (arith, c.entry_count-count.ensures, c.requires.0.log.entries),
  c.entry_count-count.ensures,
  carrying_begun c.args.book.now c.args.transaction c.requires.0 c.requires.1 c.requires.2,
)

pub fold-requires : goal.fold-requires
fold-requires c =
    let book = c.args.book.now in
    let inv = c.loop-i.invariant in
    let l : c.loop-i.i < word book 0 = omega (arith, c.loop-i-test.true, inv.1) in
    let read = c.entry_operation-operation.ensures in
    let fits = foldable book c.args.transaction c.loop-i.i c.loop-i.book inv.2 l _ _ c.entry_object-object.ensures read
    in (
      inv.2.packed,
      fits.0,
      fits.1,
      (_, named book c.args.transaction c.loop-i.i c.loop-i.book inv.2 l _ _ c.entry_object-object.ensures read),
    )

pub loop-i-preserved : goal.loop-i-preserved
loop-i-preserved c =
    let book = c.args.book.now in
    let inv = c.loop-i.invariant in
    let l : c.loop-i.i < word book 0 = omega (arith, c.loop-i-test.true, inv.1) in (
      inv.0,
      inv.1,
      elim c.if-entry_transaction-transaction.branch [
        | then-entry_transaction-transaction w ↦
            rw w.book-is
            (carrying_own book c.args.transaction c.loop-i.i c.loop-i.book inv.2 l _ _ w.entry_object-object.ensures
            w.entry_operation-operation.ensures
            (sym c.entry_transaction.ensures ∙ w.if-entry_transaction-transaction.true) _ w.fold.ensures)
        | else-entry_transaction-transaction w ↦
            rw w.book-is
            (carrying_other book c.args.transaction c.loop-i.i c.loop-i.book inv.2 l
            (λ e. w.if-entry_transaction-transaction.false (c.entry_transaction.ensures ∙ e)))
      ],
    )

pub returns : goal.returns
returns c =
    carrying_ended c.args.book.now c.args.transaction c.loop-i.i c.loop-i.book c.loop-i.invariant.2
    (omega (arith, c.loop-i-test.false, c.loop-i.invariant.1))
