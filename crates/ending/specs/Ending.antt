-- A book of which the dependencies are known, and what book, list and count are when transactions have ended.
use Rattle.std.specs.Prelude.{ℕ, ◌+◌, ◌<◌, ◌≡◌, ◌↔◌, Option, None, Some, List, ◌++◌, length, drop}
use Rattle.std.proofs.Math.Option as maybe
use Rattle.bitset.specs.Bitset.{Holds, Represents}
use Rattle.graph.specs.Edges.{EdgeIn}
use Rattle.store.specs.Store.{pseudo_committed, Store, PseudoCommitted, pseudo_committed_count}
use Rattle.store.specs.Steps.{with_status}
use Rattle.store.specs.Dependency.{DependsOn}
use Rattle.store.specs.Layout.{Packed, encode, decode, base, word}
use Rattle.store.specs.Soundness.{Unsettled}
use Rattle.protocol.specs.Ending.{Settlement}

-- A transaction or none, as the code says it.
abbrev pub named : Option ℕ → maybe.Option ℕ
named None = maybe.none
named (Some t) = maybe.some t

-- The status word of a transaction is less than that of another, if there is another: it says a lower rank.
abbrev pub Before : List ℕ → ℕ → Option ℕ → Type 0
Before w t None = Unit {0}
Before w t (Some u) = word w (1 + t) < word w (1 + u)

-- As finish leaves a transaction that is neither aborted nor committed: with the next rank.
abbrev pub pseudo_commit : ℕ → Store → Store
pseudo_commit t s = with_status t (pseudo_committed (pseudo_committed_count s)) s

-- The 64 sets are those of the book's dependencies, and `finished` that of the pseudo-committed ones; all else is
-- sound, but that somebody may be ready.
pub record Tracked (w sets : List ℕ) (finished : ℕ) : Type 0 where
  pub packed : Packed base w
  pub unsettled : Unsettled base (decode base w)
  pub whole : length sets ≡ 64
  pub edges : Represents sets (DependsOn (decode base w).log)
  pub members : Holds finished (PseudoCommitted (decode base w))

-- What is left of the sets without a transaction: it depends on nobody, and nobody on it.
pub record Forgotten (t : ℕ) (sets left : List ℕ) : Type 0 where
  pub whole : length left ≡ 64
  pub edges : (a b : ℕ) → EdgeIn left a b ↔ (EdgeIn sets a b × (a ≡ t → ⊥) × (b ≡ t → ⊥))

-- The book holds the store, those that committed stand at the list's front, the rest of which keeps its bytes, and the
-- count is their number.
abbrev pub Concluded : Settlement → List ℕ → List ℕ → List ℕ → ℕ → Type 0
Concluded r list book after count =
    (book ≡ encode base r.store) × (after ≡ r.committed ++ drop (length r.committed) list)
    × (count ≡ length r.committed)
