-- The sets that finish gathers are PRED and SUCC of the book's store, and meet exactly where there is a circle.
use Rattle.std.specs.Prelude.{ℕ, ◌<◌, ◌≡◌, ◌&&◌, ◌↔◌, List, length}
use Rattle.bitset.specs.Bitset.{has, In, Holds, Members, Represents}
use Rattle.bitset.specs.Laws.{nobody_in, some_member, in_meet, holds_same}
use Rattle.store.specs.Store.{Store, PseudoCommitted}
use Rattle.store.specs.Dependency.{DependsOn, Leads, Predecessor, Successor, OnCycle, PRED, SUCC, Meet}
use Rattle.store.proofs.Theorems.{cycle_any_length, cycle_met}
use Rattle.graph.specs.Edges.{EdgeIn}
use Rattle.sound.specs.Laws.{way_said}
use mathlib.Core.Logic.Iff

module _ (s : Store) (sets : List ℕ) (finished : ℕ) (edges : Represents sets (DependsOn s.log))
    (members : Holds finished (PseudoCommitted s)) where
  leads_said : (a b : ℕ)
      → Leads (EdgeIn sets) (In finished) a b ↔ Leads (DependsOn s.log) (PseudoCommitted s) a b
  leads_said a b = (
    λ w. (w.0, (way_said s sets finished edges members w.0 a b).0 w.1),
    λ w. (w.0, (way_said s sets finished edges members w.0 a b).1 w.1),
  )

  predecessors_are : (t r : ℕ) → Holds r (Predecessor (EdgeIn sets) (In finished) t) → Holds r (PRED s t)
  predecessors_are t r gathered =
      holds_same _ (PRED s t) r gathered
      (λ u. (
        λ p. (p.0, (members u).0 p.1, (leads_said u t).0 p.2),
        λ p. (p.0, (members u).1 p.1, (leads_said u t).1 p.2),
      ))

  successors_are : (t r : ℕ) → Holds r (Successor (EdgeIn sets) (In finished) t) → Holds r (SUCC s t)
  successors_are t r gathered =
      holds_same _ (SUCC s t) r gathered
      (λ u. (
        λ p. (p.0, (members u).0 p.1, (leads_said t u).0 p.2),
        λ p. (p.0, (members u).1 p.1, (leads_said t u).1 p.2),
      ))

  -- By document 000's theorem 2.
  pub circle_found : length s.statuses ≡ 64 → (t before behind both : ℕ) → t < 64
      → Holds before (Predecessor (EdgeIn sets) (In finished) t)
      → Holds behind (Successor (EdgeIn sets) (In finished) t)
      → Members both (λ u. has before u && has behind u)
      → (both ≡ 0 → ⊥) ↔ OnCycle s t
  circle_found sized t before behind both l p q meet =
      let PREDs = predecessors_are t before p in
      let SUCCs = successors_are t behind q in
      let shared : (both ≡ 0 → ⊥) ↔ Meet (PRED s t) (SUCC s t) = (
        λ some. let (u, m) = some_member both some in
            let (a, b) = (in_meet both before behind meet u).0 m in
            (u, (PREDs u).0 a, (SUCCs u).0 b),
        λ w none. nobody_in both w.0 none
            ((in_meet both before behind meet w.0).1 ((PREDs w.0).1 w.1, (SUCCs w.0).1 w.2)),
      ) in
      Iff.trans shared (Iff.trans (Iff.symm (cycle_met s t)) (Iff.symm (cycle_any_length s sized t l)))
