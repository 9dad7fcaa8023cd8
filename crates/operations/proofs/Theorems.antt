-- What holds of the operations and the pair rules, for every kind of object, every operation and argument, every
-- well-formed state of any size, and any key reduction.
use Rattle.std.specs.Prelude.{ℕ, ◌+◌, ◌*◌, ◌^◌, ◌≤◌, ◌<◌, ◌≡◌, refl, ◌↔◌, Bool, true, false, not, List, [], ◌∷◌, map}
use Rattle.std.specs.Prelude.{length}
use Rattle.std.proofs.Common.{ap, arith}
use Rattle.std.proofs.Math.Option.{some}
use Rattle.operations.specs.Operations.{Kind, Row, Answer, answering, flag, valued, push, pop, set_insert}
use Rattle.operations.specs.Operations.{set_delete, member, TableOperation, table_insert, table_delete, lookup}
use Rattle.operations.specs.Operations.{modify, on_table}
use Rattle.operations.specs.Operations.{Operation, kind_of, number_of, key_of, value_of, reduce_key, numbered, stored}
use Rattle.operations.specs.Operations.{found, present, stack_next, stack_answer, set_next, set_answer, table_next}
use Rattle.operations.specs.Operations.{table_answer, next, answer, All, Ascending, WellFormed, Holdable, Fits}
use Rattle.operations.specs.PairRules.{recoverable, commutes, rewrites, EitherOrder}
use Rattle.operations.specs.Log.{Entry, Recoverable, Commuting, Answered}
use Rattle.operations.specs.Log.{after, only, others}
use Rattle.operations.proofs.Laws.Cases.{split}
use Rattle.operations.proofs.Laws.Storing.{stored_reduced, reduced_once}
use Rattle.operations.proofs.Laws.Stacks.{top_of_pushed, popped_of_pushed}
use Rattle.operations.proofs.Laws.Tables.{change, found_own, found_other, present_own}
use Rattle.operations.proofs.Laws.Objects.{object}
use Rattle.operations.proofs.Laws.Witnesses.{witness, witness_valid, witness_holdable, witness_differs}
use Rattle.operations.proofs.Laws.Witnesses.{order_witness, order_valid, order_differs, order_holdable}
use Rattle.operations.proofs.Laws.Grid as grid
use Rattle.operations.proofs.Laws.Recoverability as recoverability

-- ---- Arguments as stored

-- Operations 1 to 11: of each its number, its key or item, and its value. Unused arguments are 0.
pub stored_table : (reduce : ℕ → ℕ) (k v : ℕ)
    → (map number_of (numbered reduce k v) ≡ 1 ∷ 2 ∷ 3 ∷ 4 ∷ 5 ∷ 6 ∷ 7 ∷ 8 ∷ 9 ∷ 10 ∷ 11 ∷ [])
    × (map key_of (numbered reduce k v)
    ≡ k ∷ 0 ∷ 0 ∷ reduce k ∷ reduce k ∷ reduce k ∷ reduce k ∷ reduce k ∷ reduce k ∷ 0 ∷ reduce k ∷ [])
    × (map value_of (numbered reduce k v) ≡ 0 ∷ 0 ∷ 0 ∷ 0 ∷ 0 ∷ 0 ∷ v ∷ 0 ∷ 0 ∷ 0 ∷ v ∷ [])
stored_table reduce k v = (refl, refl, refl)

-- The reduction keeps the low 24 bits.
pub low_bits_kept : (high low : ℕ) → low < 2 ^ 24 → reduce_key (high * 2 ^ 24 + low) ≡ low
unfolding reduce_key
low_bits_kept high low h = omega arith

-- What a call stores meets the premise of the theorems below: its key is reduced.
pub stored_fits : (number k v : ℕ) (o : Operation) → stored reduce_key number k v ≡ some o
    → Fits reduce_key (kind_of o) o
unfolding reduce_key
stored_fits number k v o e = (refl, stored_reduced reduce_key reduced_once refl number k v o e)

-- ---- Operations

-- A pop after a push answers with the item pushed and leaves the rows as they were.
pub last_in_first_out : (x : ℕ) (rs : List Row)
    → (stack_answer pop (stack_next (push x) rs) ≡ answering 1 x) × (stack_next pop (stack_next (push x) rs) ≡ rs)
last_in_first_out x rs = (ap valued (top_of_pushed x rs), popped_of_pushed x rs)

-- A table's operation changes the value at its key, as `change` says, and at no other.
pub own_key_only : (o : TableOperation) (rs : List Row) → Ascending rs
    → (found (key_of (on_table o)) (table_next o rs) ≡ change o (found (key_of (on_table o)) rs))
    × ((k : ℕ) → (k ≡ key_of (on_table o) → ⊥) → found k (table_next o rs) ≡ found k rs)
own_key_only o rs a = (found_own o rs a, found_other o rs a)

-- What a set or a table answers of a key that was just inserted, and of one that was just deleted.
pub answers_after_insert : (k v w : ℕ) (rs : List Row) → Ascending rs
    → (set_answer (member k) (set_next (set_insert k) rs) ≡ answering 1 0)
    × (set_answer (set_delete k) (set_next (set_insert k) rs) ≡ answering 1 0)
    × (table_answer (table_insert k w) (table_next (table_insert k v) rs) ≡ answering 0 0)
    × (table_answer (table_delete k) (table_next (table_insert k v) rs) ≡ answering 1 0)
    × (table_answer (modify k w) (table_next (table_insert k v) rs) ≡ answering 1 0)
answers_after_insert k v w rs a =
    let set : present k (set_next (set_insert k) rs) ≡ true = present_own (table_insert k 0) rs a in
    let table : present k (table_next (table_insert k v) rs) ≡ true = present_own (table_insert k v) rs a in
    (ap flag set, ap flag set, ap (λ (b : Bool). flag (not b)) table, ap flag table, ap flag table)

pub answers_after_delete : (k w : ℕ) (rs : List Row) → Ascending rs
    → (set_answer (member k) (set_next (set_delete k) rs) ≡ answering 0 0)
    × (set_answer (set_delete k) (set_next (set_delete k) rs) ≡ answering 0 0)
    × (table_answer (table_insert k w) (table_next (table_delete k) rs) ≡ answering 1 0)
    × (table_answer (table_delete k) (table_next (table_delete k) rs) ≡ answering 0 0)
    × (table_answer (lookup k) (table_next (table_delete k) rs) ≡ answering 0 0)
    × (table_answer (modify k w) (table_next (table_delete k) rs) ≡ answering 0 0)
answers_after_delete k w rs a =
    let gone : present k (table_next (table_delete k) rs) ≡ false = present_own (table_delete k) rs a in
    let absent = ap valued (found_own (table_delete k) rs a) in
    (ap flag gone, ap flag gone, ap (λ (b : Bool). flag (not b)) gone, ap flag gone, absent, ap flag gone)

-- ---- The two relations

-- The commuting tables say yes exactly where each of the two is recoverable against the other, and they are neither two
-- pushes of different items nor two modifies of one key with different values (`rewrites`).
pub commuting_mutual : (o p : Operation) → kind_of p ≡ kind_of o
    → (commutes o p ≡ true) ↔ ((recoverable o p ≡ true) × (recoverable p o ≡ true) × (rewrites o p ≡ false))
commuting_mutual = grid.commuting_mutual

module _ (reduce : ℕ → ℕ) (kind : Kind) where
  -- ---- Pairs of a requested operation o and a logged operation p

  module _ (o p : Operation) (fo : Fits reduce kind o) (fp : Fits reduce kind p) where
    -- The recoverable tables say yes exactly where the answer is the same from every state, whether or not the logged
    -- operation ran.
    pub recoverable_exact : (recoverable o p ≡ true)
        ↔ ((rs : List Row) → WellFormed reduce kind rs → answer o (next p rs) ≡ answer o rs)
    recoverable_exact = (
      λ e rs v. recoverability.same_answer (object reduce kind) o p rs fo fp v e,
      λ same. split (recoverable o p) (λ (e : recoverable o p ≡ true). e)
          (λ (e : recoverable o p ≡ false).
          absurd (witness_differs kind o p fo.0 fp.0 e (same (witness p) (witness_valid reduce kind p fp)))),
    )

    -- Where they say no, rows that a sound book can hold show it.
    pub unrecoverable_shown : key_of p < 2 ^ 32 → recoverable o p ≡ false
        → (rs : List Row) × WellFormed reduce kind rs × Holdable rs × (answer o (next p rs) ≡ answer o rs → ⊥)
    unrecoverable_shown h e =
        (witness p, witness_valid reduce kind p fp, (witness_holdable p h).1, witness_differs kind o p fo.0 fp.0 e)

    -- The commuting tables say yes exactly where both orders give the same state and the same answers from every
    -- state. Where they say no, rows show it; where keys and items have 32 bits, at most one row, of a form that a
    -- sound book can hold.
    pub commuting_exact :
        ((commutes o p ≡ true) ↔ ((rs : List Row) → WellFormed reduce kind rs → EitherOrder o p rs))
        × (commutes o p ≡ false
        → (rs : List Row) × WellFormed reduce kind rs × (EitherOrder o p rs → ⊥)
        × (key_of o < 2 ^ 32 → key_of p < 2 ^ 32 → (length rs ≤ 1) × Holdable rs))
    commuting_exact =
        let valid = order_valid reduce kind o p fo fp in
        let differs : commutes o p ≡ false → EitherOrder o p (order_witness o p) → ⊥ =
        order_differs kind o p fo.0 fp.0 in (
          (
            λ e rs v. recoverability.either_order (object reduce kind) o p rs fo fp v e,
            λ same. split (commutes o p) (λ (e : commutes o p ≡ true). e)
                (λ (e : commutes o p ≡ false). absurd (differs e (same (order_witness o p) valid))),
          ),
          λ e. (order_witness o p, valid, differs e, order_holdable o p),
        )

  -- ---- Logs of several transactions on one object

  module _ (l : List (Entry Operation Answer)) (rs : List Row) (v : WellFormed reduce kind rs)
      (f : All (λ (e : Entry Operation Answer). Fits reduce kind e.operation) l) where
    -- Where each entry is recoverable against every earlier entry of another transaction, leaving out any transactions
    -- leaves every other entry its answer. A transaction's own entries may stand between.
    pub dropping : (kept : ℕ → Bool) → Recoverable recoverable l → Answered next answer l rs
        → Answered next answer (only kept l) rs
    dropping kept r p = recoverability.dropping (object reduce kind) kept l rs v f r p

    -- Where each entry of the transactions that commit commutes with every earlier entry of one that does not, serving
    -- them first gives the same rows and the same answers.
    pub committing : (committed : ℕ → Bool) → Commuting commutes committed l → Answered next answer l rs
        → (after next l rs ≡ after next (only (others committed) l) (after next (only committed l) rs))
        × Answered next answer (only committed l) rs
        × Answered next answer (only (others committed) l) (after next (only committed l) rs)
    committing committed c p = recoverability.committing (object reduce kind) committed l rs v f c p
