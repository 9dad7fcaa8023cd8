-- The pairs from the place on move up by one.
use Rattle.std.proofs.Common.{ap, set, ◌∙◌}
use Rattle.replay.specs.Laws.Lists.{opened}
use Rattle.replay.proofs.open_at.Goals as goal

pub returns : goal.returns
returns c =
    ap (λ rows. set rows c.args.at c.args.pair) c.copy_within.ensures.after
    ∙ opened c.args.rows.now c.args.at c.args.pair c.requires
