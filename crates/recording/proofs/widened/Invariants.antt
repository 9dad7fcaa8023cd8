-- `recording::widened`: the bytes passed stand at the front.
use Rattle.std.proofs.Common.{◌≡◌, length, take}
use Rattle.recording.proofs.widened.Given as goal

abbrev pub invariant-loop-i : goal.invariant-loop-i
invariant-loop-i g l = record { long : length l.numbers ≡ g.row.N; front : take l.i l.numbers ≡ take l.i l.bytes }
