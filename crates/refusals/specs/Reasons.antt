-- Parts of the lists of reasons.
use Rattle.std.specs.Prelude.{ℕ, Bool, List, [], ◌∷◌}
use Rattle.store.specs.Layout.{base, decode}
use Rattle.store.proofs.Decisions.{whether_sound}
use Rattle.protocol.specs.Calls.{LentOperation, wrong_length, unsound, above_last, not_active, limits}
use Rattle.protocol.proofs.Laws.Reasons.{crowded}

-- Of who asks for operations.
abbrev pub asker_reasons : List ℕ → ℕ → Bool → List (ℕ × Bool)
asker_reasons w t too_many =
    (1, wrong_length w) ∷ (4, unsound whether_sound w) ∷ (5, above_last t) ∷ (12, too_many)
    ∷ (7, not_active (decode base w) t) ∷ []

-- 11, of each operation of a batch.
abbrev pub row_limits : ℕ → List ℕ → List LentOperation → List (ℕ × Bool)
row_limits t w = limits base 11 (crowded base t) t (decode base w)
