use Rattle.bitset.specs.Laws.{joined}
use Rattle.bitset.proofs.join.Goals as goal

pub returns : goal.returns
returns c = joined c.args.a c.args.b
