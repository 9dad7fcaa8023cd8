-- A number of 32 bits in groups.
use Rattle.std.specs.Prelude.{ℕ, ◌+◌, ◌/◌, ◌%◌, ◌≤◌, ◌<◌, ◌≡◌, ◌∷◌}
use Rattle.std.proofs.Common.{arith}
use Rattle.journal.specs.Groups.{groups}
use Rattle.journal.proofs.Laws.Groups as laws
use Rattle.journal.proofs.Laws.Groups.{at_most_five, grouped_append}

pub more_groups : (n : ℕ) → 128 ≤ n → n < 4_294_967_296 → groups n ≡ (128 + n % 128) ∷ groups (n / 128)
more_groups n large fits = laws.more_groups n large (omega arith)
