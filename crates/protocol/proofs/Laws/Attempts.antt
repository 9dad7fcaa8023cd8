-- Of 64 transactions those that are such, listed by deciding of each; so PRED and SUCC compute.
use Rattle.std.specs.Prelude.{ℕ, zero, suc, ◌+◌, ◌≤◌, ◌<◌, ◌≡◌, ◌↔◌, ◌⊎◌, List, [], ◌∷◌, length}
use Rattle.std.proofs.Common.{sym, subst, inl, inr, ⊎_elim, arith}
use Rattle.operations.proofs.Laws.Cases.{same}
use Rattle.store.specs.Store.{Store}
use Rattle.store.specs.Dependency.{PRED, SUCC}
use Rattle.store.proofs.Laws.Cycles.{within}
use Rattle.store.proofs.Laws.Graph.{predecessor, successor}
use Rattle.protocol.specs.Terms.{Among}

-- In front where decided so.
abbrev put : {P : Type 0} → Dec P → ℕ → List ℕ → List ℕ
put (yes p) h l = h ∷ l
put (no n) h l = l

put_exactly : {P : Type 0} (d : Dec P) (h u : ℕ) (l : List ℕ)
    → Among u (put d h l) ↔ (((h ≡ u) × P) ⊎ Among u l)
put_exactly (yes p) h u l = (⊎_elim (λ e. inl (e, p)) inr, ⊎_elim (λ e. inl e.0) inr)
put_exactly (no n) h u l = (inr, ⊎_elim (λ e. absurd (n e.1)) (λ a. a))

module _ (P : ℕ → Type 0) (d : (u : ℕ) → Dec (P u)) where
  -- Of the n from h on.
  abbrev those : ℕ → ℕ → List ℕ
  those zero h = []
  those (suc n) h = put (d h) h (those n (suc h))

  those_from : (n h u : ℕ) → Among u (those n h) ↔ ((h ≤ u) × (u < h + n) × P u)
  those_from zero h u = (λ a. absurd a, λ p. absurd (omega (arith, p.0, p.1)))
  those_from (suc n) h u =
      let first = put_exactly (d h) h u (those n (suc h)) in
      let later = those_from n (suc h) u in (
        λ a. ⊎_elim
            (λ (p : (h ≡ u) × P h). (omega (arith, p.0), omega (arith, p.0), subst P p.0 p.1))
            (λ b. let p = later.0 b in (omega (arith, p.0), omega (arith, p.1), p.2))
            (first.0 a),
        λ (p : (h ≤ u) × (u < h + suc n) × P u). first.1
            (same h u (λ (e : h ≡ u). inl (e, subst P (sym e) p.2))
            (λ (other : h ≡ u → ⊥). inr (later.1 (omega (arith, p.0, other), omega (arith, p.1), p.2)))),
      )

  those_exactly : ((u : ℕ) → P u → u < 64) → (u : ℕ) → Among u (those 64 0) ↔ P u
  those_exactly below u =
      (λ a. ((those_from 64 0 u).0 a).2, λ p. (those_from 64 0 u).1 (omega arith, omega (arith, below u p), p))

module _ (s : Store) (sized : length s.statuses ≡ 64) (t : ℕ) where
  abbrev pub predecessors_of : t < 64 → List ℕ
  predecessors_of l = those (PRED s t) (predecessor s sized t l) 64 0

  pub predecessors_listed : (l : t < 64) (u : ℕ) → Among u (predecessors_of l) ↔ PRED s t u
  predecessors_listed l = those_exactly (PRED s t) (predecessor s sized t l) (λ u p. within s sized u p.1)

  abbrev pub successors_of : List ℕ
  successors_of = those (SUCC s t) (successor s sized t) 64 0

  pub successors_listed : (u : ℕ) → Among u successors_of ↔ SUCC s t u
  successors_listed = those_exactly (SUCC s t) (successor s sized t) (λ u p. within s sized u p.1)
