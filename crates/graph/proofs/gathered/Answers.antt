-- `graph::gathered`: a turn finds more, or the found ones are all.
use Rattle.std.proofs.Common.{arith}
use Rattle.graph.specs.Laws.Gathering.{gather_begun, gather_turned}
use Rattle.graph.proofs.gathered.Goals as goal

pub loop-found-init : goal.loop-found-init
loop-found-init g c = gather_begun _ _ _

pub returns-then-more-found : goal.returns-then-more-found
returns-then-more-found g c =
    let turn = gather_turned _ _ _ _ _ _ _ c.loop-found.invariant c.single-own.ensures c.join.ensures
    (c.requires.1.1.0 _ _ _ c.near-more.ensures) in
    turn.ended c.if-more-found.true _ c.without-others.ensures

pub loop-found-smaller : goal.loop-found-smaller
loop-found-smaller g c =
    let turn = gather_turned _ _ _ _ _ _ _ c.loop-found.invariant c.single-own.ensures c.join.ensures
    (c.requires.1.1.0 _ _ _ c.near-more.ensures) in
    omega (arith, turn.grows c.if-more-found.false, c.near-more.type_inv)

pub loop-found-preserved : goal.loop-found-preserved
loop-found-preserved g c =
    (gather_turned _ _ _ _ _ _ _ c.loop-found.invariant c.single-own.ensures c.join.ensures
    (c.requires.1.1.0 _ _ _ c.near-more.ensures)).again
