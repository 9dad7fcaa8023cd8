use Rattle.std.proofs.Common.{rules, ◌≡◌, ◌∷◌, ap, length}
use Rattle.bitset.specs.Bitset.{members}
use Rattle.bitset.specs.Laws.{lowest_first}
use Rattle.bitset.proofs.WalkIterator.next.Goals as goal

pub returns-clause-goes : goal.returns-clause-goes
returns-clause-goes c =
    let first = lowest_first c.args.self.now.set c.without-self.result c.lowest-member.result
    c.lowest-member.ensures c.without-self.ensures in
    let fewer : length (members c.args.self.now.set)
    ≡ length (c.lowest-member.result ∷ members c.without-self.result) = ap length first in
    search rules
