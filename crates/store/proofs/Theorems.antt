-- What holds of the store (document 01, "The book"), its words and its dependencies.
use Rattle.std.specs.Prelude.{ℕ, ◌<◌, ◌≡◌, refl, ◌↔◌, ◌⊎◌, List, length, replicate}
use Rattle.std.proofs.lemmas.List.{length-replicate}
use Rattle.operations.specs.PairRules.{commutes}
use Rattle.operations.specs.Operations.{Kind}
use Rattle.operations.specs.Log.{Commuting, one}
use Rattle.store.specs.Store.{Logged, Store, Active, PseudoCommitted, on_object}
use Rattle.store.specs.Dependency.{Follows, Shown, DependsOn, Leads, OnCycle, PRED, SUCC, Meet}
use Rattle.store.specs.Layout.{encode, decode, Packed, Representable, base}
use Rattle.store.specs.Soundness.{Acyclic, Dependent, Sound}
use Rattle.store.proofs.Laws.Words.{zeros_word}
use Rattle.store.proofs.Laws.Encoding.{decoded_representable, encoded_decoded, decoded_encoded, encoded_packed}
use Rattle.store.proofs.Laws.Objects.{base_laid}
use Rattle.store.proofs.Laws.Empty.{base_zeros_sound}
use Rattle.store.proofs.Laws.Ways.{predecessor_from_near, successor_from_near, meets_on_cycle}
use Rattle.store.proofs.Laws.Cycles as cycles
use Rattle.store.proofs.Laws.Dependencies.{ready_commuting, commuting_ready, depends_shown}

-- ---- Layout

-- A packed book is the encoding of its decoding,
pub encoded : (w : List ℕ) → Packed base w → encode base (decode base w) ≡ w
encoded = encoded_decoded base base_laid

-- which is a store that a book can hold.
pub representable : (w : List ℕ) → Packed base w → Representable base (decode base w)
representable = decoded_representable base base_laid

-- Such a store is the decoding of its encoding,
pub decoded : (s : Store) → Representable base s → decode base (encode base s) ≡ s
decoded = decoded_encoded base base_laid

-- which is a packed book.
pub packed : (s : Store) → Representable base s → Packed base (encode base s)
packed = encoded_packed base base_laid

-- A book of zeros is sound.
pub zeros_sound : Sound base (replicate 3_937 0)
zeros_sound = base_zeros_sound (replicate 3_937 0) (zeros_word 3_937) (length-replicate {A = ℕ} 3_937 0)

-- ---- Dependency

-- A transaction depends on nobody exactly where each of its entries commutes with every earlier entry of another on its
-- object: what `committing` asks of one that commits.
pub depends_on_nobody : (reduce : ℕ → ℕ) (kind : Kind) (t : ℕ) (log : List Logged)
    → ((u : ℕ) → DependsOn log t u → ⊥) ↔ ((o : ℕ) → Commuting commutes (one t) (on_object o log))
depends_on_nobody reduce kind t log = (ready_commuting reduce kind t log, commuting_ready reduce kind t log)

-- Nobody waits to commit for nothing: a depends on b exactly where an entry of a follows one of b on an object, some
-- rows of which show their order.
pub depends_where_order_shows : (w : List ℕ) → Sound base w → (a b : ℕ)
    → (let log = (decode base w).log in
    DependsOn log a b ↔ ((a ≡ b → ⊥) × Follows (Shown base.reduce a b) log))
depends_where_order_shows w sound =
    let store = sound.store.unsettled in
    depends_shown base (decode base w) store.fits store.reduced

-- A cycle of at most 64 steps is there exactly where one of any length is.
pub cycle_any_length : (s : Store) → length s.statuses ≡ 64 → (t : ℕ) → t < 64
    → OnCycle s t ↔ Leads (DependsOn s.log) (PseudoCommitted s) t t
cycle_any_length = cycles.cycle_any_length

-- Document 000, section 4.2.1, formulas i) and ii): in PRED and SUCC are the near pseudo-committed ones and those in
-- theirs; t itself is left out.
pub pred_from_near : (s : Store) (t u : ℕ)
    → PRED s t u
    ↔ ((u ≡ t → ⊥) × ((p : ℕ) × PseudoCommitted s p × DependsOn s.log p t × ((u ≡ p) ⊎ PRED s p u)))
pred_from_near s = predecessor_from_near (DependsOn s.log) (PseudoCommitted s)

pub succ_from_near : (s : Store) (t u : ℕ)
    → SUCC s t u
    ↔ ((u ≡ t → ⊥) × ((n : ℕ) × PseudoCommitted s n × DependsOn s.log t n × ((u ≡ n) ⊎ SUCC s n u)))
succ_from_near s = successor_from_near (DependsOn s.log) (PseudoCommitted s)

-- Its theorem 2: a transaction lies on a cycle whose other members are all pseudo-committed exactly where the two meet,
pub cycle_met : (s : Store) (t : ℕ)
    → Leads (DependsOn s.log) (PseudoCommitted s) t t ↔ Meet (PRED s t) (SUCC s t)
cycle_met s t = meets_on_cycle (DependsOn s.log) (PseudoCommitted s) t (λ d. d.0 refl)

-- so that the sets of one that lies on none stay apart.
pub sets_apart : (s : Store) → length s.statuses ≡ 64 → (t : ℕ) → t < 64 → (OnCycle s t → ⊥)
    → Meet (PRED s t) (SUCC s t) → ⊥
sets_apart s sized t l off met = off ((cycle_any_length s sized t l).1 ((cycle_met s t).1 met))

-- Document 01: "When no handout is open, none is left finished."
pub none_left : (s : Store) → length s.statuses ≡ 64 → Acyclic s → Dependent s → ((t : ℕ) → Active s t → ⊥)
    → (t : ℕ) → PseudoCommitted s t → ⊥
none_left = cycles.none_left
