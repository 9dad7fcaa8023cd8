-- `read_owners`: the set's members, before those that are left, are the whole.
use Rattle.std.proofs.Common.{◌≡◌, true, false, ◌&&◌, leb, ltb, arith}
use Rattle.std.proofs.lemmas.Grind.{common_steps}
use Rattle.journal_numbers.specs.Laws.Reads.{failed}
use Rattle.journal_reader.specs.Laws.Owners.{gathering_starts, gathering_goes_on, no_owner}
use Rattle.journal_reader.proofs.reply.read_owners.Goals as goal

pub loop-init : goal.loop-init
loop-init c = gathering_starts c.args.bytes.now c.args.at c.args.count c.requires

pub returns-then-not-contains : goal.returns-then-not-contains
returns-then-not-contains c =
    let e : (leb c.loop.least c.in_ok-owner.owner && ltb c.in_ok-owner.owner 64) ≡ false =
    grind (arith, common_steps) in
    failed (cc) (no_owner c.loop.invariant c.loop-test.true c.in_ok-owner.ensures e)

pub loop-preserved : goal.loop-preserved
loop-preserved c =
    let e : (leb c.loop.least c.in_ok-owner.owner && ltb c.in_ok-owner.owner 64) ≡ true =
    grind (arith, common_steps) in
    gathering_goes_on c.loop.invariant c.loop-test.true c.in_ok-owner.ensures e c.single.result c.join-owners.result
    c.single.ensures c.join-owners.ensures
