use Rattle.bitset.specs.Laws.{counted}
use Rattle.bitset.proofs.size.Goals as goal

pub returns : goal.returns
returns c = counted c.args.set c.ranges.set.fits
