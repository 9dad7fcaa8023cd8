-- Operations that are lent, from the four words of each.
use Rattle.std.specs.Prelude.{ℕ, List, map, get_or}
use Rattle.protocol.specs.Calls.{LentOperation, lent_operation}

abbrev pub lent_from : List ℕ → LentOperation
lent_from words = lent_operation (get_or words 0 0) (get_or words 1 0) (get_or words 2 0) (get_or words 3 0)

abbrev pub lent_operations : List (List ℕ) → List LentOperation
lent_operations = map lent_from
