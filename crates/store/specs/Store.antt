-- Document 01, "The book": what a book holds, as a value.
use Rattle.std.specs.Prelude.{ℕ, suc, ◌≡◌, Bool, cond, List, [], ◌∷◌, eqb, get_or}
use Rattle.std.proofs.Math.Option.{Option, none}
use Rattle.operations.specs.Operations.{Kind, Row, Operation, Answer}
use Rattle.operations.specs.Log.{Entry, filter}

-- ---- How many there are: each number of document 01 once, since later requests change some and not others

-- Transactions are numbered 0 to 63, objects 0 to 15.
abbrev pub transaction_count : ℕ
transaction_count = 64

abbrev pub object_count : ℕ
object_count = 16

abbrev pub entry_limit : ℕ
entry_limit = 256

-- Bytes that the list lent to finish and cancel has at least.
abbrev pub list_length : ℕ
list_length = 64

-- ---- What a book holds

-- The status of a transaction (handout): absent, active (open), or pseudo-committed (finished) with its rank in the
-- order of finishing.
pub data Status : Type 0 where
  absent active : Status
  pseudo_committed : (rank : ℕ) → Status

-- An object: its kind, none for kind 0, and its committed rows.
pub record Object : Type 0 where
  pub kind : Option Kind
  pub rows : List Row

abbrev pub no_object : Object
no_object = record { kind = none; rows = [] }

-- A log entry and the object that it is of.
pub record Logged : Type 0 where
  pub object : ℕ
  pub entry : Entry Operation Answer

-- The statuses of transactions 0 to 63, objects 0 to 15, and the log, oldest entry first.
pub record Store : Type 0 where
  pub statuses : List Status
  pub objects : List Object
  pub log : List Logged

abbrev pub status_of : Store → ℕ → Status
status_of s t = get_or s.statuses t absent

abbrev pub object_of : Store → ℕ → Object
object_of s o = get_or s.objects o no_object

-- Active or pseudo-committed.
abbrev pub Live : Store → ℕ → Type 0
Live s t = status_of s t ≡ absent → ⊥

abbrev pub Active : Store → ℕ → Type 0
Active s t = status_of s t ≡ active

abbrev pub PseudoCommitted : Store → ℕ → Type 0
PseudoCommitted s t = (rank : ℕ) × (status_of s t ≡ pseudo_committed rank)

abbrev pub pseudo_committed_in : List Status → ℕ
pseudo_committed_in [] = 0
pseudo_committed_in (absent ∷ l) = pseudo_committed_in l
pseudo_committed_in (active ∷ l) = pseudo_committed_in l
pseudo_committed_in (pseudo_committed rank ∷ l) = suc (pseudo_committed_in l)

-- How many are pseudo-committed (finished).
abbrev pub pseudo_committed_count : Store → ℕ
pseudo_committed_count s = pseudo_committed_in s.statuses

-- The entries of one object, in order.
abbrev pub on_object : ℕ → List Logged → List (Entry Operation Answer)
on_object o [] = []
on_object o (e ∷ l) = cond (eqb e.object o) (e.entry ∷ on_object o l) (on_object o l)

-- The operations of the transactions that the test picks.
abbrev pub operations_of : (ℕ → Bool) → List Logged → List Logged
operations_of picked = filter (λ (l : Logged). picked l.entry.transaction)
