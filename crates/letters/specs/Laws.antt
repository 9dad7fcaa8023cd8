-- A batch's answers are at most half as many as its operations' numbers.
use Rattle.std.specs.Prelude.{ℕ, ◌+◌, ◌*◌, ◌≤◌}
use Rattle.std.proofs.Common.{arith, ne_eqb}
use Rattle.operations.proofs.Laws.Cases.{by_key}
use Rattle.journal.specs.Coded.{argument_count, answer_count}
use Rattle.letters.specs.Letters.{most_arguments}

pub few_answers : (letter operations : ℕ) → argument_count letter operations ≤ most_arguments
    → answer_count letter operations ≤ 32
few_answers letter operations few =
    by_key (λ (l : ℕ). argument_count l operations ≤ 65 → answer_count l operations ≤ 32) letter 71
    (λ (some : 1 + 4 * operations ≤ 65). omega arith)
    (λ other some. rw (ne_eqb letter 71 other) (omega arith)) few
