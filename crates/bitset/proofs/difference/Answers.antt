use Rattle.bitset.specs.Laws.{removed}
use Rattle.bitset.proofs.difference.Goals as goal

pub returns : goal.returns
returns c = removed c.args.a c.args.b c.ranges.a.fits c.ranges.b.fits
