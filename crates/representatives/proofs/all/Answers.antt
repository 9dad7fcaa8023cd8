use Rattle.std.proofs.Common.{refl, arith, lit<}
use Rattle.representatives.specs.Laws.Reading.{readable}
use Rattle.representatives.proofs.all.Goals as goal

pub loop-i-init : goal.loop-i-init
loop-i-init c = (record { entries = refl; each = λ i l. absurd (omega arith) }, c.new-chains.ensures c.args.book.now)

pub represent-requires : goal.represent-requires
represent-requires c =
    let log = readable c.args.book.now c.requires.1 c.requires.2 c.requires.0 in
    (lit< tt, ((log, omega arith), tt, c.loop-i.invariant.1))
