use Rattle.std.proofs.Common.{◌≡◌, ◌+◌, ◌-◌, refl, arith}
use Rattle.representatives.specs.Laws.Chains.{way_start, way_back, way_end}
use Rattle.representatives.proofs.Chains.find.Goals as goal

pub loop-at-init : goal.loop-at-init
loop-at-init g c = way_start _ _ _ _ c.requires.2 c.requires.1 _ c.slot.ensures.0 c.slot.ensures.1

pub loop-at-preserved : goal.loop-at-preserved
loop-at-preserved g c =
    let place : c.loop-at.at - 1 + 1 ≡ c.loop-at.at = omega (arith, c.loop-at-test.true) in
    rw (← place)
    (way_back _ _ _ _ c.requires.2 _ (rw (← place) at c.loop-at.invariant) c.requires.1
    (λ a. let same = c.if-alike.ensures.1 a in cc))

pub returns : goal.returns
returns g c =
    way_end _ _ _ _ _ c.loop-at.invariant c.entry.ensures
    (elim c.loop-at-test.branch [
      | goal.else-loop-at-test m ↦ λ k e. absurd (omega (arith, e, m.loop-at-test.false))
      | goal.then-loop-at-test+then-alike m ↦ λ k e.
          let same : c.loop-at.at - 1 ≡ k = omega (arith, e) in rw (← same) (m.if-alike.ensures.0 refl)
    ])
