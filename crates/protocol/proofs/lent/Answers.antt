-- Words taken by four are the operations that are lent.
use Rattle.std.proofs.Common.{◌≡◌, refl, ap, ◌∙◌, ℕ, suc, ◌/◌, List, [], ◌∷◌, length, arith}
use Rattle.std.specs.Simd.{first_chunks}
use Rattle.protocol.specs.Calls.{LentOperation, lent_operation, operations_in}
use Rattle.protocol.specs.Lent.{lent_operations}
use Rattle.protocol.proofs.lent.Goals as goal

by_four : (l : List ℕ) → lent_operations (first_chunks 4 (length l / 4) l) ≡ operations_in l
by_four [] = refl
by_four (o ∷ []) = refl
by_four (o ∷ number ∷ []) = refl
by_four (o ∷ number ∷ k ∷ []) = refl
by_four (o ∷ number ∷ k ∷ v ∷ l) =
    let all = o ∷ number ∷ k ∷ v ∷ l in
    let more : length all / 4 ≡ suc (length l / 4) = omega arith in
    ap (λ (n : ℕ). lent_operations (first_chunks 4 n all)) more
    ∙ ap (λ (qs : List LentOperation). lent_operation o number k v ∷ qs) (by_four l)

pub returns : goal.returns
returns c =
    let words = c.args.operations.now in
    ap lent_operations c.as_chunks.ensures.front ∙ by_four words
