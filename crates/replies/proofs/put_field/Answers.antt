-- `replies::put_field`: a space, then the digits.
use Rattle.std.proofs.Common.{arith, ap, length, length-append}
use Rattle.text.specs.Text.{decimal}
use Rattle.text.proofs.Laws.Decimals.{decimal_few}
use Rattle.replies.proofs.put_field.Goals as goal

pub returns-clause-few : goal.returns-clause-few
returns-clause-few g c =
    omega (
      arith,
      c.push.ensures.len,
      ap length c.put_decimal.ensures,
      length-append c.push.new.self.items (decimal c.args.number),
      decimal_few c.args.number (omega (arith, c.ranges.number)),
    )
