-- `ending::commit_active`: it commits and is the list's first, and those that are then ready follow.
use Rattle.std.proofs.Common.{arith}
use Rattle.ending.specs.Laws.Active.{active_below, rest_length, commit_settles, commit_first}
use Rattle.ending.proofs.commit_active.Goals as goal

pub commit-requires : goal.commit-requires
commit-requires c = (
  c.requires.0.packed,
  active_below c.args.book.now c.args.transaction c.requires.1,
  c.requires.0.unsettled.fits,
  c.requires.0.unsettled.room,
)

pub forget-requires : goal.forget-requires
forget-requires c = (c.requires.0.whole, active_below c.args.book.now c.args.transaction c.requires.1)

pub overflow_cast-list : goal.overflow_cast-list
overflow_cast-list c = omega (arith, active_below c.args.book.now c.args.transaction c.requires.1)

pub commit_ready-requires : goal.commit_ready-requires
commit_ready-requires c =
    commit_settles c.requires.0 c.requires.1 _ c.forget.ensures c.requires.2 c.commit.ensures _
    (omega (arith, c.requires.3, rest_length c.args.list.now c.args.transaction))

pub returns : goal.returns
returns c =
    commit_first c.requires.0 c.requires.1 _ c.forget.ensures c.requires.2 c.commit.ensures c.args.list.now
    c.commit_ready.ensures (omega (arith, c.requires.3))
