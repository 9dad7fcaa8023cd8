-- Document 01, "The book": when a book is sound, clause by clause.
use Rattle.std.specs.Prelude.{ℕ, ◌≤◌, ◌<◌, ◌≡◌, List}
use Rattle.std.proofs.Math.Option.{some}
use Rattle.operations.specs.PairRules.{recoverable}
use Rattle.operations.specs.Operations.{Kind, kind_of, WellFormed, All, StoredKey, answer, next}
use Rattle.operations.specs.Log.{Recoverable, Answered}
use Rattle.store.specs.Store.{pseudo_committed, Logged, Store, status_of, object_of, Live, PseudoCommitted, on_object}
use Rattle.store.specs.Dependency.{DependsOn, OnCycle}
use Rattle.store.specs.Layout.{Format, decode, Packed}

-- Such it is with each object that has a kind.
abbrev pub EachObject : (ℕ → Kind → Type 0) → Store → Type 0
EachObject P s = (o : ℕ) (kind : Kind) → (object_of s o).kind ≡ some kind → P o kind

-- The rows of each object are of its kind's form.
abbrev pub RowsFormed : Format → Store → Type 0
RowsFormed format s = EachObject (λ o kind. WellFormed format.reduce kind (object_of s o).rows) s

-- Each log entry belongs to a live transaction,
abbrev pub EntriesLive : Store → Type 0
EntriesLive s = All (λ (l : Logged). Live s l.entry.transaction) s.log

-- fits its object's kind,
abbrev pub EntriesFit : Store → Type 0
EntriesFit s = All (λ (l : Logged). (object_of s l.object).kind ≡ some (kind_of l.entry.operation)) s.log

-- and its key is reduced.
abbrev pub KeysReduced : Format → Store → Type 0
KeysReduced format s = All (λ (l : Logged). StoredKey format.reduce l.entry.operation) s.log

-- It is recoverable against every earlier entry of another transaction on that object.
abbrev pub EntriesRecoverable : Store → Type 0
EntriesRecoverable s = EachObject (λ o kind. Recoverable recoverable (on_object o s.log)) s

-- Its answer is the one replay gives.
abbrev pub EntriesAnswered : Store → Type 0
EntriesAnswered s = EachObject (λ o kind. Answered next answer (on_object o s.log) (object_of s o).rows) s

-- For each object, rows plus logged pushes and inserts are within the limit.
abbrev pub Room : Format → Store → Type 0
Room format s = (o : ℕ) → format.used s o ≤ format.limit

-- No two transactions have one rank,
abbrev pub OnceEach : Store → Type 0
OnceEach s = (t u rank : ℕ) → status_of s t ≡ pseudo_committed rank → status_of s u ≡ pseudo_committed rank → t ≡ u

-- and every number below a rank is a rank too: ranks are 0, 1, 2 and on.
abbrev pub WithoutGaps : Store → Type 0
WithoutGaps s =
    (t rank lower : ℕ) → status_of s t ≡ pseudo_committed rank → lower < rank
    → (u : ℕ) × (status_of s u ≡ pseudo_committed lower)

-- Pseudo-committed (finished) transactions form no cycle.
abbrev pub Acyclic : Store → Type 0
Acyclic s = (t : ℕ) → PseudoCommitted s t → OnCycle s t → ⊥

-- Each pseudo-committed transaction depends on a live one.
abbrev pub Dependent : Store → Type 0
Dependent s = (t : ℕ) → PseudoCommitted s t → (u : ℕ) × Live s u × DependsOn s.log t u

module _ (format : Format) where
  -- Sound, but that a pseudo-committed transaction may depend on nobody: as a store is between a transaction's end and
  -- the last commit that follows.
  pub record Unsettled (s : Store) : Type 0 where
    pub rows : RowsFormed format s
    pub live : EntriesLive s
    pub fits : EntriesFit s
    pub reduced : KeysReduced format s
    pub recoverable : EntriesRecoverable s
    pub answered : EntriesAnswered s
    pub room : Room format s
    pub once : OnceEach s
    pub gapless : WithoutGaps s
    pub acyclic : Acyclic s

  pub record SoundStore (s : Store) : Type 0 where
    pub unsettled : Unsettled s
    pub dependent : Dependent s

  -- The length, ranges and zeros are said of the words, the rest of the store that they are read as. A transaction
  -- above 63 reads as absent and an object above 15 as of no kind, so that `live` and `fits` keep them out.
  pub record Sound (w : List ℕ) : Type 0 where
    pub packed : Packed format w
    pub store : SoundStore (decode format w)
