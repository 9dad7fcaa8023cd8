-- What is asked of the words before their entries are looked at, and what is found of a sound book.
use Rattle.std.specs.Prelude.{ℕ, ◌≡◌, List, length}
use Rattle.bitset.specs.Bitset.{Holds, Represents}
use Rattle.store.specs.Layout.{BookLong}
use Rattle.store.specs.Store.{PseudoCommitted}
use Rattle.store.specs.Layout.{base, decode}
use Rattle.store.specs.Dependency.{DependsOn}
use Rattle.entry_log.specs.Log.{LogBounded}

-- The length, ranges and zeros of `Packed`, but for the words of entries.
pub record Bounded (w : List ℕ) : Type 0 where
  pub words : BookLong w
  pub objects : base.ObjectsPacked w
  pub log : LogBounded w

-- The set of pseudo-committed transactions, and for each transaction the set of those that it depends on.
pub record Examined (w : List ℕ) (finished : ℕ) (edges : List ℕ) : Type 0 where
  pub members : Holds finished (PseudoCommitted (decode base w))
  pub whole : length edges ≡ 64
  pub represented : Represents edges (DependsOn (decode base w).log)
