-- Every number without an arm, a pop's among them, leaves the copy as it was.
use Rattle.std.proofs.Common.{rules}
use Rattle.replay.specs.Laws.Numbers.{unchanged_holds}
use Rattle.replay.proofs.next_rows.Goals as goal

pub returns-in_default : goal.returns-in_default
returns-in_default c =
    unchanged_holds c.args.operation c.args.rows c.args.count (search rules) (search rules) (search rules)
    (search rules) (search rules)
