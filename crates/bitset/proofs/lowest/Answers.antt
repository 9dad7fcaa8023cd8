use Rattle.bitset.specs.Laws.{trailing}
use Rattle.bitset.proofs.lowest.Goals as goal

pub returns : goal.returns
returns c = trailing c.args.set c.ranges.set.fits c.requires
