-- What entering operations goes by.
use Rattle.std.specs.Prelude.{ℕ, ◌+◌, ◌≤◌, ◌≡◌, List, length}
use Rattle.operations.specs.Operations.{Row, row_limit, next}
use Rattle.operations.specs.Log.{after, only, one}
use Rattle.operations.specs.declared.Operation.{Operation}
use Rattle.replay.specs.Replay.{rows_of, next_named}
use Rattle.store.specs.Store.{Store, object_of, on_object}
use Rattle.store.specs.Layout.{base, decode, word, entry_start}
use Rattle.store.specs.Soundness.{Sound}
use Rattle.entry_log.specs.Log.{StoredAs}
use Rattle.protocol.specs.Calls.{lent_operation, request}
use Rattle.protocol.specs.Terms.{OperationAccepted}
use Rattle.batches.specs.declared.OwnRows.{OwnRows}

-- A sound book, and a request on an object that no reason refuses, as it is stored.
pub record Enterable (w : List ℕ) (object : ℕ) (operation : Operation) : Type 0 where
  pub sound : Sound base w
  pub number : ℕ
  pub key : ℕ
  pub value : ℕ
  pub accepted : OperationAccepted base (decode base w) (lent_operation object number key value)
  pub stored : StoredAs operation (request base number key value)

-- Entry i is the transaction's, on the object.
abbrev pub OwnEntry : List ℕ → ℕ → ℕ → ℕ → Type 0
OwnEntry w i t o = (word w (entry_start i) ≡ t) × (word w (entry_start i + 1) ≡ o)

abbrev pub rows_in : OwnRows → List Row
rows_in copy = rows_of copy.rows copy.count

-- A copy after one more operation.
abbrev pub Advanced : OwnRows → Operation → OwnRows → Type 0
Advanced copy operation later =
    (later.object ≡ copy.object) × (rows_in later ≡ next_named operation (rows_in copy))
    × (later.count ≡ length (next_named operation (rows_in copy)))

-- A copy of the object's rows after the transaction's own entries.
pub record Carried (s : Store) (t o : ℕ) (copy : OwnRows) : Type 0 where
  pub object : copy.object ≡ o
  pub few : copy.count ≤ row_limit
  pub reached : rows_in copy ≡ after next (only (one t) (on_object o s.log)) (object_of s o).rows
