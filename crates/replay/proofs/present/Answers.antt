-- What stands at the position tells.
use Rattle.std.proofs.Common.{◌≡◌, false, cond, eqb, ltb, get_or, [], length, rules, sym, ◌∙◌}
use Rattle.replay.specs.Laws.Copies.{present_at}
use Rattle.replay.proofs.present.Goals as goal

pub returns : goal.returns
returns c =
    let pairs = c.args.rows.now in
    let at = c.args.at in
    let key = c.args.key in
    let told : c.is_some_and.result ≡ cond (ltb at (length pairs)) (eqb (get_or (get_or pairs at []) 0 0) key) false =
    search rules in
    told ∙ sym (present_at key pairs at c.requires)
