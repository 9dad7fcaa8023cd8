-- `ending::commit_ready`: those that have committed stand at the list's front, and what is still to commit follows.
use Rattle.store.specs.Store.{pseudo_committed_count}
use Rattle.store.specs.Layout.{base, decode}
use Rattle.ending.specs.Laws.Settling.{Settling}
use Rattle.ending.proofs.commit_ready.Given as goal

abbrev pub invariant-loop-transaction : goal.invariant-loop-transaction
invariant-loop-transaction l =
    Settling l.initial.book l.initial.list l.book l.list l.edges l.left l.count

abbrev pub decreases-loop-transaction : goal.decreases-loop-transaction
decreases-loop-transaction l = pseudo_committed_count (decode base l.book)
