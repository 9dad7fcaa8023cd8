-- A request on an object; and the rows that an operation may need, by its number.
use Rattle.std.specs.Prelude.{ℕ, ◌+◌, ◌≡◌, Bool, cond, ◌&&◌, eqb, List}
use Rattle.std.proofs.Math.Option.{Option, none, some}
use Rattle.operations.specs.Operations.{Operation, Answer, kind_of, number_of, reduce_key, StoredKey, Fits}
use Rattle.operations.specs.Operations.{WellFormed, All, adds, stored}
use Rattle.operations.specs.declared.Operation as words
use Rattle.operations.specs.Stored.{operation_of}
use Rattle.operations.specs.Log.{Entry}
use Rattle.store.specs.Store.{on_object}
use Rattle.store.specs.Layout.{word, entry_start, decode, base, rows_at}

-- A request on an object: its words name an operation of a kind that the object's rows and entries are of.
pub record Requested (w : List ℕ) (o : ℕ) (operation : words.Operation) (requested : Operation) : Type 0 where
  pub number : operation.number ≡ number_of requested
  pub named : operation_of operation ≡ some requested
  pub key : StoredKey reduce_key requested
  pub rows : WellFormed reduce_key (kind_of requested) (rows_at w o)
  pub entries : All (λ (e : Entry Operation Answer). Fits reduce_key (kind_of requested) e.operation)
      (on_object o (decode base w).log)

-- How many rows an operation may need: one where it adds.
abbrev pub rows_for : Option Operation → ℕ
rows_for none = 0
rows_for (some o) = cond (adds o) 1 0

-- The same of the operation that a number names.
unfoldable pub rows_needed : ℕ → ℕ
rows_needed number = rows_for (stored (λ k. k) number 0 0)

-- Whether entry i is of the object and needs one.
abbrev pub may_add : List ℕ → ℕ → ℕ → Bool
may_add w o i = eqb (word w (entry_start i + 1)) o && eqb (rows_needed (word w (entry_start i + 2))) 1
