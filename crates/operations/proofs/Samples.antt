-- Document 01's proved samples, P1 to P10, as one table about the definitions.
use Rattle.std.specs.Prelude.{ℕ, ◌≡◌, refl, true, false, List, [], ◌∷◌}
use Rattle.std.proofs.Math.Option.{Option, none, some}
use Rattle.std.proofs.Common.{eq-eqb, ne_eqb}
use Rattle.operations.specs.Operations.{Operation, on_stack, on_table, push, lookup, size, table_insert, modify, Row}
use Rattle.operations.specs.Operations.{Answer, answering, stored, reduce_key, by_order, next, answer}
use Rattle.operations.specs.PairRules.{recoverable, commutes}

-- A request by its number, key or item, and value, as a call stores it.
abbrev asked : ℕ → ℕ → ℕ → Option Operation
asked = stored reduce_key

-- The answers to requests served in order.
abbrev answers : List (Option Operation) → List Row → List Answer
answers [] rs = []
answers (none ∷ l) rs = answers l rs
answers (some o ∷ l) rs = answer o rs ∷ answers l (next o rs)

pub samples : (v w : ℕ)
    -- P1: pop of an empty stack
    → (answers (asked 2 0 0 ∷ []) [] ≡ answering 0 0 ∷ [])
    -- P2: push 7, top
    × (answers (asked 1 7 0 ∷ asked 3 0 0 ∷ []) [] ≡ answering 1 0 ∷ answering 1 7 ∷ [])
    -- P3: set insert 4 twice
    × (answers (asked 4 4 0 ∷ asked 4 4 0 ∷ []) [] ≡ answering 1 0 ∷ answering 1 0 ∷ [])
    -- P4: set delete of an absent key
    × (answers (asked 5 4 0 ∷ []) [] ≡ answering 0 0 ∷ [])
    -- P5: table insert 5 twice
    × (answers (asked 7 5 v ∷ asked 7 5 w ∷ []) [] ≡ answering 1 0 ∷ answering 0 0 ∷ [])
    -- P6: modify of an absent key
    × (answers (asked 11 5 v ∷ []) [] ≡ answering 0 0 ∷ [])
    -- P7: insert 16,777,221 with value 3, lookup 5
    × (answers (asked 7 16_777_221 3 ∷ asked 9 5 0 ∷ []) [] ≡ answering 1 0 ∷ answering 1 3 ∷ [])
    -- P8: size is recoverable against modify 5, not against insert 5
    × (recoverable (on_table size) (on_table (modify 5 v)) ≡ true)
    × (recoverable (on_table size) (on_table (table_insert 5 v)) ≡ false)
    -- P9: lookup 5 against modify 6 yes, against modify 5 no
    × (recoverable (on_table (lookup 5)) (on_table (modify 6 v)) ≡ true)
    × (recoverable (on_table (lookup 5)) (on_table (modify 5 v)) ≡ false)
    -- P10: push against push: recoverable, of different items not commuting, of one item commuting
    × (recoverable (on_stack (push v)) (on_stack (push w)) ≡ true)
    × ((v ≡ w → ⊥) → commutes (on_stack (push v)) (on_stack (push w)) ≡ false)
    × (commutes (on_stack (push v)) (on_stack (push v)) ≡ true)
unfolding reduce_key by_order
samples v w =
    (refl, refl, refl, refl, refl, refl, refl, refl, refl, refl, refl, refl, ne_eqb v w, eq-eqb v v refl)
