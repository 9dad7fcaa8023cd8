-- `ending::abort`: it ends, and those that are then ready commit.
use Rattle.std.proofs.Common.{arith}
use Rattle.ending.specs.Laws.Active.{active_below, abort_settles, abort_settled}
use Rattle.ending.proofs.abort.Goals as goal

pub end-requires : goal.end-requires
end-requires c = (c.requires.0.packed, active_below c.args.book.now c.args.transaction c.requires.1)

pub forget-requires : goal.forget-requires
forget-requires c = (c.requires.0.whole, active_below c.args.book.now c.args.transaction c.requires.1)

pub commit_ready-requires : goal.commit_ready-requires
commit_ready-requires c =
    abort_settles c.requires.0 c.requires.1 _ c.forget.ensures c.end.ensures _ (omega (arith, c.requires.2))

pub returns : goal.returns
returns c = abort_settled c.requires.0 c.requires.1 _ c.forget.ensures c.end.ensures _ c.commit_ready.ensures
