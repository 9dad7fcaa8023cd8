-- `read_number`: one group, more, or none.
use Rattle.std.proofs.Common.{◌≡◌, ◌≤◌, ◌<◌, length, get_or, arith}
use Rattle.std.proofs.lemmas.Grind.{common_steps}
use Rattle.journal_numbers.specs.Laws.Reads.{failed}
use Rattle.journal_numbers.specs.Laws.Numbers.{no_group, one_group}
use Rattle.journal_numbers.proofs.read_number.Goals as goal

pub returns-in_default : goal.returns-in_default
returns-in_default c =
    let past : length c.args.bytes.now ≤ c.args.at = grind (arith, common_steps) in
    failed (cc) (no_group c.args.bytes.now c.args.at c.requires past)

pub returns-then-low-lt-GROUP : goal.returns-then-low-lt-GROUP
returns-then-low-lt-GROUP c =
    let inside : c.args.at < length c.args.bytes.now = grind (arith, common_steps) in
    let there : c.in-Some.byte.now ≡ get_or c.args.bytes.now c.args.at 0 = grind (arith, common_steps) in
    one_group c.args.bytes.now c.args.at _ inside there c.if-low-lt-GROUP.true
