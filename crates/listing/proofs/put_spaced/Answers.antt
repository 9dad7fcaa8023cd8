-- `listing::put_spaced`: one more number is put.
use Rattle.std.proofs.Common.{get_or, refl, arith, rules}
use Rattle.replies.proofs.Laws.Printing.{field_few, number_put}
use Rattle.listing.proofs.put_spaced.Goals as goal

pub put_field-requires : goal.put_field-requires
put_field-requires g c = (
  search rules,
  omega (
    arith,
    c.requires.room,
    c.loop-number.invariant.1,
    c.loop-number-test.true,
    field_few (get_or c.args.numbers.now c.loop-number.number-index 0)
        (omega (arith, c.type_inv.numbers c.loop-number.number-index)),
  ),
)

pub loop-number-preserved : goal.loop-number-preserved
loop-number-preserved g c =
    let put = c.put_field.ensures in (
      number_put c.args.out.now.items c.args.numbers.now c.loop-number.number-index _ c.loop-number.invariant.0
          c.loop-number-test.true refl put.text,
      omega (arith, c.loop-number.invariant.1, put.few),
    )
