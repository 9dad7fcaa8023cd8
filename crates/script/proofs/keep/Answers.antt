-- `script::keep`: as much of the part as there is room for.
use Rattle.std.proofs.Common.{arith}
use Rattle.script.proofs.Laws.Taking.{kept_part}
use Rattle.script.proofs.keep.Goals as goal

pub returns : goal.returns
returns c =
    kept_part c.args.line.now c.args.kept c.args.part.now c.requires.0 c.requires.1 (omega arith) c.put.ensures
