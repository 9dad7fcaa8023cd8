-- `ending::pseudo_commit`: there are few ranks.
use Rattle.std.proofs.Common.{arith}
use Rattle.ending.specs.Laws.Steps.{rank_few}
use Rattle.ending.proofs.pseudo_commit.Goals as goal

pub overflow_add-rank : goal.overflow_add-rank
overflow_add-rank c = omega (arith, rank_few c.args.book.now _ c.next_rank-rank.ensures c.requires.0)
