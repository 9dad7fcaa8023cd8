-- Each finds room, those before it counted.
use Rattle.std.proofs.Common.{sym, ap, ◌∙◌, le-leb}
use Rattle.std.proofs.lemmas.Bool.{lt-leb}
use Rattle.std.proofs.lemmas.List.{take-map}
use Rattle.protocol.specs.Lent.{lent_from}
use Rattle.protocol.proofs.Laws.Lent.{lent_at, needed_of}
use Rattle.refusals.specs.Laws.{lent_below, room_missing, room_found, room_unneeded}
use Rattle.refusals.proofs.roomy.Goals as goal
use Rattle.refusals.proofs.roomy.Goals.{then-rows_needed-eq1+else-used-needed-ge-ROWS, else-rows_needed-eq1}

pub used-used-requires : goal.used-used-requires
used-used-requires c = (
  c.requires.0.packed,
  lent_below c.args.lent.now c.args.book.now c.requires.1 c.loop-i.i c.loop-i-test.true,
)

pub returns-then-used-needed-ge-ROWS : goal.returns-then-used-needed-ge-ROWS
returns-then-used-needed-ge-ROWS c t =
    let lent = c.args.lent.now in
    let object = (lent_at lent c.loop-i.i).object in
    sym (room_missing lent c.args.book.now c.loop-i.i c.loop-i-test.true c.loop-i.invariant c.rows_needed.ensures
    c.if-rows_needed-eq1.true c.used-used.ensures
    (c.needed.ensures.0 ∙ ap (needed_of object) (sym (take-map lent_from c.loop-i.i lent)))
    (le-leb 64 _ c.if-used-needed-ge-ROWS.true) t)

pub loop-i-preserved : goal.loop-i-preserved
loop-i-preserved c =
    let lent = c.args.lent.now in
    let object = (lent_at lent c.loop-i.i).object in
    elim c.if-rows_needed-eq1.branch [
      | then-rows_needed-eq1+else-used-needed-ge-ROWS v ↦
          room_found lent c.args.book.now c.loop-i.i c.loop-i-test.true c.loop-i.invariant v.used-used.ensures
          (v.needed.ensures.0 ∙ ap (needed_of object) (sym (take-map lent_from c.loop-i.i lent)))
          (lt-leb 64 _ v.if-used-needed-ge-ROWS.false)
      | else-rows_needed-eq1 v ↦
          room_unneeded lent c.args.book.now c.loop-i.i c.loop-i-test.true c.loop-i.invariant
          c.rows_needed.ensures v.if-rows_needed-eq1.false
    ]
