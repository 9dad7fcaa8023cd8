-- Rows at the front of words, two words a row.
use Rattle.std.specs.Prelude.{ℕ, ◌+◌, ◌*◌, List}
use Rattle.operations.specs.Operations.{Row, row}
use Rattle.store.specs.Layout.{word}

abbrev pub row_in : List ℕ → ℕ → Row
row_in w i = row (word w (2 * i)) (word w (2 * i + 1))
