-- The last row, if there is one.
use Rattle.std.proofs.Common.{◌≡◌, rules, ap, ◌∙◌}
use Rattle.operations.specs.Stored.{found_of}
use Rattle.replay.specs.Laws.Copies.{last_item, top_last}
use Rattle.replay.proofs.top.Goals as goal

pub returns : goal.returns
returns c =
    let told : c.map.result ≡ last_item c.args.rows.now = search rules in
    ap found_of told ∙ top_last c.args.rows.now
