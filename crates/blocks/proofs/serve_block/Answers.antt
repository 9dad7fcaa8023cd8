-- `blocks::serve_block`: some of the block is taken, since the buffers have room for a reply and a record.
use Rattle.std.proofs.Common.{arith, rules, length-drop}
use Rattle.script.proofs.Laws.Taking.{took_some}
use Rattle.blocks.proofs.serve_block.Goals as goal

pub loop-at-smaller : goal.loop-at-smaller
loop-at-smaller c =
    let feed = c.feed-progress in
    let rest = length-drop c.loop-at.at c.args.block.now in
    omega (
      arith,
      rest,
      feed.ensures.0.within,
      c.loop-at-test.true,
      took_some feed.ensures.0 feed.ensures.1 (omega (arith, rest, c.loop-at-test.true)) (search rules)
          (search rules),
    )
