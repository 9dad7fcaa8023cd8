-- The first pair whose key is not below the key, if any, is the position.
use Rattle.std.proofs.Common.{◌<◌, ◌≤◌, rules, tests, ◌∙◌, get_or}
use Rattle.std.proofs.lemmas.Iterator.{YieldsList-from_slice, IsFirst-from_position}
use Rattle.replay.specs.Laws.Positions.{position_first}
use Rattle.replay.proofs.position.Goals as goal

pub returns : goal.returns
returns c =
    let k = c.args.key in
    let pairs = c.args.rows.now in
    c.unwrap_or.ensures
    ∙ position_first k pairs _
    (IsFirst-from_position _ _ c.position.result (λ pair. k ≤ get_or pair 0 0) (λ pair. get_or pair 0 0 < k)
    c.position.ensures.ran (YieldsList-from_slice pairs cc) (λ x q r. search (rules, tests))
    (λ x q r. search (rules, tests)))
