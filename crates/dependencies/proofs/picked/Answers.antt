-- `dependencies::picked`: a turn joins what the rules of its column pick.
use Rattle.std.proofs.Common.{◌<◌, arith}
use Rattle.operations.specs.PairRules.{recoverable_rules, commuting_rules}
use Rattle.pairs.specs.Pairs.{width_of}
use Rattle.dependencies.specs.Laws.Numbers.{picked_none, picked_more}
use Rattle.dependencies.proofs.picked.Goals as goal

pub loop-at-init : goal.loop-at-init
loop-at-init g c =
    let args = c.args in (
      picked_none recoverable_rules g.row.NUMBER args.whole.now args.same.now args.others,
      picked_none commuting_rules g.row.NUMBER args.whole.now args.same.now args.others,
    )

pub loop-at-preserved : goal.loop-at-preserved
loop-at-preserved g c =
    let args = c.args in
    let at = c.loop-at.at in
    let below : at < width_of g.row.NUMBER = omega (arith, c.loop-at-test.true, c.width-at-end.ensures) in (
      picked_more recoverable_rules g.row.NUMBER args.whole.now args.same.now args.others at _ _ _ _ _ _
          c.first-first.ensures c.key_owners-alike.ensures (c.rows-rows.ensures.0 at below) c.pick.ensures
          c.loop-at.invariant.0 c.join-barred.ensures.0,
      picked_more commuting_rules g.row.NUMBER args.whole.now args.same.now args.others at _ _ _ _ _ _
          c.first-first.ensures c.key_owners-alike.ensures (c.rows-rows.ensures.1 at below)
          c.pick-in-loop-at.ensures c.loop-at.invariant.1 c.join-barred.ensures.1,
    )
