-- `ending::lowest_ready`: the lowest ready one among those passed.
use Rattle.ending.specs.Laws.Ready.{LeastPassed}
use Rattle.ending.proofs.lowest_ready.Given as goal

abbrev pub invariant-loop-transaction : goal.invariant-loop-transaction
invariant-loop-transaction l = LeastPassed l.book l.transaction-iterator.set l.lowest
