-- After the own entries to come, the rows are those after all.
use Rattle.std.proofs.Common.{refl, arith}
use Rattle.operations.proofs.Laws.Cases.{denied}
use Rattle.batches.specs.Laws.Carrying.{own_start, own_counted, own_passed, own_room, own_replayed, own_reached}
use Rattle.batches.proofs.OwnRows.logged.Goals as goal
use Rattle.batches.proofs.OwnRows.logged.Goals.{then-is_own, else-is_own}

pub loop-i-init : goal.loop-i-init
loop-i-init c =
    let a = c.args in
    own_start a.book.now a.transaction a.object c.requires.0 c.requires.1 c.requires.2 _ refl c.row_count.ensures
    c.copied_rows.ensures

pub after-copy-requires : goal.after-copy-requires
after-copy-requires c =
    let a = c.args in
    let loop = c.loop-i in (
      own_counted a.book.now a.transaction a.object loop.i loop.copy loop.invariant,
      own_room a.book.now a.transaction a.object loop.i loop.copy loop.invariant
          (record {
            packed = c.requires.0;
            inside = omega (arith, c.loop-i-test.true, c.entry_count-i-end.ensures);
            words = c.entry_operation.ensures;
          })
          (c.is_own.ensures.0 c.if-is_own.true),
    )

pub loop-i-preserved : goal.loop-i-preserved
loop-i-preserved c =
    let a = c.args in
    let loop = c.loop-i in
    elim c.if-is_own.branch [
      | then-is_own v ↦
          rw v.copy-is
          (own_replayed a.book.now a.transaction a.object loop.i loop.copy loop.invariant
          (record {
            packed = c.requires.0;
            inside = omega (arith, c.loop-i-test.true, c.entry_count-i-end.ensures);
            words = v.entry_operation.ensures;
          })
          (c.is_own.ensures.0 v.if-is_own.true) _ v.after-copy.ensures)
      | else-is_own v ↦
          rw v.copy-is
          (own_passed a.book.now a.transaction a.object loop.i loop.copy loop.invariant
          (omega (arith, c.loop-i-test.true, c.entry_count-i-end.ensures))
          (denied c.is_own.ensures v.if-is_own.false))
    ]

pub returns : goal.returns
returns c =
    let a = c.args in
    let loop = c.loop-i in
    own_reached a.book.now a.transaction a.object loop.i loop.copy loop.invariant c.requires.1
    (omega (arith, c.loop-i-test.false, c.entry_count-i-end.ensures))
