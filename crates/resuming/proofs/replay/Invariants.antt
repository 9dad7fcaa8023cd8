-- `resuming::replay`: all before the place was confirmed.
use Rattle.std.proofs.Common.{◌≡◌, ◌-◌, ◌≤◌, length, drop}
use Rattle.resuming.specs.Resuming.{Replayed}
use Rattle.resuming.proofs.replay.Given as goal

abbrev pub invariant-loop-behind : goal.invariant-loop-behind
invariant-loop-behind l =
    Replayed l.fn.book l.bytes l.book (drop l.at l.bytes) × (l.at ≤ length l.bytes) × (length l.book ≡ length l.fn.book)

abbrev pub decreases-loop-behind : goal.decreases-loop-behind
decreases-loop-behind l = length l.bytes - l.at
