use Rattle.bitset.specs.Laws.{shifted}
use Rattle.bitset.proofs.single.Goals as goal

pub returns : goal.returns
returns c = shifted c.args.transaction c.requires
