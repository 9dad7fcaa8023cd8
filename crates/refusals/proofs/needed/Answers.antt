-- A push or insert on the object counts.
use Rattle.std.proofs.Common.{arith}
use Rattle.protocol.proofs.Laws.Lent.{lent_at}
use Rattle.answers.specs.Laws.Entries.{needed_few}
use Rattle.refusals.specs.Laws.{needed_own, needed_other, needed_all}
use Rattle.refusals.proofs.needed.Goals as goal
use Rattle.refusals.proofs.needed.Goals.{then-on-object, else-on-object}

pub overflow_add-needed : goal.overflow_add-needed
overflow_add-needed c =
    let few = needed_few (lent_at c.args.lent.now c.loop-on.on-index).number in
    omega (arith, c.rows_needed-needed.ensures, few)

pub loop-on-preserved : goal.loop-on-preserved
loop-on-preserved c =
    let lent = c.args.lent.now in
    let few = needed_few (lent_at lent c.loop-on.on-index).number in
    elim c.if-on-object.branch [
      | then-on-object v ↦
          let more = needed_own lent c.args.object c.loop-on.on-index c.loop-on-test.true v.if-on-object.true _
          v.rows_needed-needed.ensures in
          (omega (arith, more), omega (arith, v.rows_needed-needed.ensures))
      | else-on-object v ↦
          let same = needed_other lent c.args.object c.loop-on.on-index c.loop-on-test.true v.if-on-object.false in
          (omega (arith, same), omega arith)
    ]

pub returns : goal.returns
returns c = omega (arith, needed_all c.args.lent.now c.args.object c.loop-on.on-index c.loop-on-test.false)
