-- `ending::forget`: all sets are without the transaction.
use Rattle.std.proofs.Common.{arith}
use Rattle.ending.specs.Laws.Forgetting.{forgotten_all}
use Rattle.ending.proofs.forget.Goals as goal

pub returns : goal.returns
returns c =
    let (whole, all) = c.loop-set.invariant in
    forgotten_all c.args.edges.now c.args.transaction c.requires.0 c.requires.1 c.loop-set.edges c.loop-set.set-index
    (omega (arith, c.loop-set-test.false, whole)) whole all
