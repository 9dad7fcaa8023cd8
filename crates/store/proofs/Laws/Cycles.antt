-- Cycles of a store's dependencies, and ways from pseudo-committed transactions to active ones.
use Rattle.std.specs.Prelude.{ℕ, suc, ◌<◌, ◌≡◌, ◌↔◌, length}
use Rattle.std.proofs.Common.{inl, inr}
use Rattle.store.specs.Store.{Store, status_of, Active, PseudoCommitted}
use Rattle.store.specs.Dependency.{DependsOn, Way, Leads, OnCycle}
use Rattle.store.specs.Soundness.{Acyclic, Dependent}
use Rattle.store.proofs.Laws.Statuses.{live_ranked, pseudo_committed_within}
use Rattle.store.proofs.Laws.Ways.{widened, shortened, none_lead_on}

abbrev pub Anyone : ℕ → Type 0
Anyone c = Unit {0}

-- A way of dependencies leads to an active one.
abbrev pub LeadsToActive : Store → ℕ → Type 0
LeadsToActive s u = (v : ℕ) × Active s v × Leads (DependsOn s.log) Anyone u v

module _ (s : Store) (sized : length s.statuses ≡ 64) where
  pub within : (t : ℕ) → PseudoCommitted s t → t < 64
  within t p = rw (← sized) (pseudo_committed_within s t p)

  -- A cycle of at most 64 steps is there exactly where one of any length is.
  pub cycle_any_length : (t : ℕ) → t < 64 → OnCycle s t ↔ Leads (DependsOn s.log) (PseudoCommitted s) t t
  cycle_any_length t l = (λ w. (64, w), shortened (DependsOn s.log) (PseudoCommitted s) within t t l)

  module _ (acyclic : Acyclic s) (dependent : Dependent s) where
    -- Pseudo-committed, and not held by an active one.
    abbrev Stuck : ℕ → Type 0
    Stuck u = PseudoCommitted s u × (LeadsToActive s u → ⊥)

    leads_on : (u : ℕ) → Stuck u → (d : ℕ) × Stuck d × DependsOn s.log u d
    leads_on u (p, n) =
        let d = dependent u p in (
          d.0,
          (
            live_ranked (status_of s d.0) d.1 (λ e. n (d.0, e, (1, inl d.2))),
            λ (h : LeadsToActive s d.0). n (h.0, h.1, (suc h.2.0, inr (d.0, tt, d.2, h.2.1))),
          ),
          d.2,
        )

    -- There is none such: each would depend on another such one, and no cycle is among them.
    pub leads_to_active : (u : ℕ) → PseudoCommitted s u → (LeadsToActive s u → ⊥) → ⊥
    leads_to_active u p n =
        none_lead_on (DependsOn s.log) Stuck (λ c h. within c h.0) leads_on
        (λ (c : ℕ) (h : Stuck c) (w : Way (DependsOn s.log) Stuck 64 c c).
        acyclic c h.0
        (widened (DependsOn s.log) Stuck (PseudoCommitted s) (λ (y : ℕ) (q : Stuck y). q.0) 64 c c w))
        u (p, n)

    -- So where none is active, none is left pseudo-committed.
    pub none_left : ((t : ℕ) → Active s t → ⊥) → (t : ℕ) → PseudoCommitted s t → ⊥
    none_left closed t p = leads_to_active t p (λ h. closed h.0 h.1)
