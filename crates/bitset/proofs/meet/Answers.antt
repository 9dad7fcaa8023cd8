use Rattle.bitset.specs.Laws.{met}
use Rattle.bitset.proofs.meet.Goals as goal

pub returns : goal.returns
returns c = met c.args.a c.args.b
