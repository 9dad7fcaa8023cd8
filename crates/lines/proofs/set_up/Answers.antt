-- `lines::set_up`: a kind is written as it is read.
use Rattle.std.proofs.Common.{◌≡◌, ◌≤◌, get_or, arith}
use Rattle.lines.proofs.Laws.Calls.{writing_goes_on}
use Rattle.lines.proofs.set_up.Goals as goal

pub loop-i-preserved : goal.loop-i-preserved
loop-i-preserved c =
    let h = c.try_from.ensures in
    let k = c.in_ok-kinds.ensures.value in
    let is : c.in_ok-kinds.field-0 ≡ get_or c.args.arguments.now c.loop-i.i 0 = grind (arith, h, k) in
    let small : get_or c.args.arguments.now c.loop-i.i 0 ≤ 255 = grind (arith, h, k) in
    rw is (writing_goes_on c.if-arguments-gt-OBJECTS.false c.loop-i.invariant c.loop-i-test.true small)
