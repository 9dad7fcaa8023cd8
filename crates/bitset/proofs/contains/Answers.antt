use Rattle.bitset.specs.Laws.{tested}
use Rattle.bitset.proofs.contains.Goals as goal

pub returns : goal.returns
returns c = tested c.args.set c.args.transaction
