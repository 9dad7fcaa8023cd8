-- Zeros, then the kinds one by one.
use Rattle.std.proofs.Common.{ℕ, ◌≡◌, subst, arith}
use Rattle.protocol.proofs.Laws.Reasons.{none_above}
use Rattle.scheduler.specs.Laws.Empty.{Written, one_written, all_written}
use Rattle.scheduler.proofs.write_empty.Goals as goal

pub loop-object-preserved : goal.loop-object-preserved
loop-object-preserved c =
    let kinds = c.args.kinds.now in
    let object = c.loop-object.object in
    rw (c.object_start.ensures, c.from.ensures)
    (one_written kinds object c.loop-object.book (omega (arith, c.loop-object-test.true, c.requires.1))
    c.loop-object.invariant)

pub returns : goal.returns
returns c =
    let kinds = c.args.kinds.now in
    let all : c.loop-object.object ≡ 16 =
    omega (arith, c.loop-object-test.false, c.requires.1, c.loop-object.auto.object-end) in
    all_written kinds c.loop-object.book
    (subst (λ (n : ℕ). Written kinds n c.loop-object.book) all c.loop-object.invariant)
    c.requires.1 (none_above 3 kinds c.requires.2)
