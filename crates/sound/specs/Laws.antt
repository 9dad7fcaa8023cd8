-- Laws for the functions of `sound`.
use Rattle.std.specs.Prelude.{ℕ, ◌↔◌, List}
use Rattle.std.proofs.Common.{le_refl}
use Rattle.bitset.specs.Bitset.{Holds, Represents, In}
use Rattle.store.specs.Store.{Store, Live, PseudoCommitted}
use Rattle.store.specs.Dependency.{DependsOn, Way}
use Rattle.store.specs.Soundness.{EntriesLive, Acyclic, Dependent}
use Rattle.store.proofs.Laws.Dependencies.{depended_on}
use Rattle.store.proofs.Laws.Ways.{way_monotone}
use Rattle.graph.specs.Edges.{EdgeIn}

-- What the sets of dependency say is said of the store.
module _ (s : Store) (sets : List ℕ) (finished : ℕ) (edges : Represents sets (DependsOn s.log))
    (members : Holds finished (PseudoCommitted s)) where
  pub way_said : (n a b : ℕ)
      → Way (EdgeIn sets) (In finished) n a b ↔ Way (DependsOn s.log) (PseudoCommitted s) n a b
  way_said n a b = (
    way_monotone (EdgeIn sets) (DependsOn s.log) (In finished) (PseudoCommitted s) (λ x y. (edges x y).0)
        (λ c. (members c).0) n n (le_refl n) a b,
    way_monotone (DependsOn s.log) (EdgeIn sets) (PseudoCommitted s) (In finished) (λ x y. (edges x y).1)
        (λ c. (members c).1) n n (le_refl n) a b,
  )

  pub acyclic_said : ((t : ℕ) → In finished t → Way (EdgeIn sets) (In finished) 64 t t → ⊥) ↔ Acyclic s
  acyclic_said = (
    λ none t p w. none t ((members t).1 p) ((way_said 64 t t).1 w),
    λ none t p w. none t ((members t).0 p) ((way_said 64 t t).0 w),
  )

  pub dependent_said : EntriesLive s → ((t : ℕ) → In finished t → (u : ℕ) × EdgeIn sets t u) ↔ Dependent s
  dependent_said live = (
    λ some t p. let d = some t ((members t).1 p) in
        let depends = (edges t d.0).0 d.1 in
        (d.0, depended_on (Live s) t d.0 s.log live depends, depends),
    λ some t p. let d = some t ((members t).0 p) in (d.0, (edges t d.0).1 d.2),
  )
