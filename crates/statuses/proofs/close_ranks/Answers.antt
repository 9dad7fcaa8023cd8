use Rattle.std.proofs.Common.{take, drop}
use Rattle.statuses.specs.Statuses.{lowered_word}
use Rattle.statuses.specs.Laws.Writing.{changed_turn, changed_all, all_lowered}
use Rattle.statuses.proofs.close_ranks.Goals as goal

pub loop-status-preserved : goal.loop-status-preserved
loop-status-preserved c =
    let loop = c.loop-status in
    changed_turn (lowered_word c.args.out) (take 64 (drop 1 c.args.book.now)) loop.status-items loop.status-index
    c.lowered.result c.loop-status-test.true loop.auto.status-items loop.invariant c.lowered.ensures

pub returns : goal.returns
returns c =
    let loop = c.loop-status in
    all_lowered c.args.out c.args.book.now loop.status-items c.requires
    (changed_all (lowered_word c.args.out) (take 64 (drop 1 c.args.book.now)) loop.status-items loop.status-index
    c.loop-status-test.false loop.invariant)
