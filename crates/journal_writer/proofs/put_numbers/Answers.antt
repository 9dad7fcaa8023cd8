-- `put_numbers`: those behind are left to put.
use Rattle.std.proofs.Common.{◌+◌, drop, get_or, ap, arith, length-append, drop_of_length-le}
use Rattle.journal.specs.Groups.{groups, grouped}
use Rattle.journal_writer.specs.Laws.Putting.{room, one_more, all_put, from_place, narrow_all}
use Rattle.journal_writer.proofs.put_numbers.Goals as goal

pub put_number-requires : goal.put_number-requires
put_number-requires c =
    let numbers = c.args.numbers.now in
    let i = c.loop-number.number-index in
    omega (
      arith,
      room c.loop-number.invariant (groups (get_or numbers i 0)) (grouped (drop (i + 1) numbers))
          (from_place numbers i c.loop-number-test.true),
      length-append c.args.out.now.items (grouped numbers),
    )

pub loop-number-preserved : goal.loop-number-preserved
loop-number-preserved c =
    one_more c.loop-number.invariant _ _ _
    (from_place c.args.numbers.now c.loop-number.number-index c.loop-number-test.true) c.put_number.ensures

pub returns-clause-bytes : goal.returns-clause-bytes
returns-clause-bytes c =
    all_put c.loop-number.invariant
    (ap grouped (drop_of_length-le c.args.numbers.now c.loop-number-test.false))

pub returns-clause-small : goal.returns-clause-small
returns-clause-small c = narrow_all c.args.numbers.now (λ i. omega (arith, c.type_inv.numbers i))
