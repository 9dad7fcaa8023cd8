-- `script::feed`: what is taken of the block is fed.
use Rattle.std.proofs.Common.{◌≡◌, ◌-◌, length, take}
use Rattle.script.specs.Sessions.{session}
use Rattle.script.specs.Feeding.{Took, begun}
use Rattle.script.proofs.feed.Given as goal

abbrev pub invariant-loop-output : goal.invariant-loop-output
invariant-loop-output l =
    (length l.line ≡ 717) × (length l.out ≡ length l.fn.out) × (length l.book ≡ length l.fn.book)
    × (length l.journal ≡ length l.fn.journal)
    × Took (session l.fn.book (take l.kept l.fn.line)) l.block (begun l.kept) l.book l.line l.fn.out l.out
    l.fn.journal l.journal l.progress

abbrev pub decreases-loop-output : goal.decreases-loop-output
decreases-loop-output l = length l.block - l.progress.at
