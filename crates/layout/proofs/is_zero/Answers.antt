use Rattle.std.proofs.Common.{rules, ◌≡◌}
use Rattle.std.specs.Int.Bits.{bit_or}
use Rattle.std.specs.List.{fold}
use Rattle.std.proofs.iter.runs.Made.{chains}
use Rattle.layout.specs.Laws.{union_zero}
use Rattle.layout.proofs.is_zero.Goals as goal

pub returns : goal.returns
returns c =
    let union : c.fold.result ≡ fold bit_or 0 c.args.part.now = search (rules, chains) in
    union_zero c.args.part.now c.fold.result union
