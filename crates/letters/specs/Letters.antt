-- How many arguments a record may have, and how the code says it.
use Rattle.std.specs.Prelude.{ℕ, ◌+◌, ◌*◌, Option, Some, None}
use Rattle.std.proofs.Math.Option as model
use Rattle.protocol.specs.Calls.{operation_words, batch_limit}

-- A batch's: its transaction, and its operations.
abbrev pub most_arguments : ℕ
most_arguments = 1 + operation_words * batch_limit

abbrev pub count_said : Option ℕ → model.Option ℕ
count_said (Some n) = model.some n
count_said None = model.none
