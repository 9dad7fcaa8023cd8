-- `blocks::serve_block`: each turn takes some of the block.
use Rattle.std.proofs.Common.{length, ◌-◌, ◌≤◌}
use Rattle.script.specs.Sessions.{line_kept}
use Rattle.blocks.proofs.serve_block.Given as goal

abbrev pub invariant-loop-at : goal.invariant-loop-at
invariant-loop-at l = (l.at ≤ length l.block) × (l.kept ≤ line_kept)

abbrev pub decreases-loop-at : goal.decreases-loop-at
decreases-loop-at l = length l.block - l.at
