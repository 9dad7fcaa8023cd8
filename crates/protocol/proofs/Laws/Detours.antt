-- Ways through nodes of one sort and one node more.
use Rattle.std.specs.Prelude.{ℕ, zero, suc, ◌≡◌, ◌⊎◌}
use Rattle.std.proofs.Common.{subst, inl, inr, ⊎_elim}
use Rattle.operations.proofs.Laws.Cases.{same}
use Rattle.store.specs.Dependency.{Way, Leads}

-- Edges that lead on from such nodes are enough.
pub way_kept : (Edge Edge' : ℕ → ℕ → Type 0) (Through : ℕ → Type 0) → ((a b : ℕ) → Through a → Edge a b → Edge' a b)
    → (n a b : ℕ) → Through a → Way Edge Through n a b → Way Edge' Through n a b
way_kept Edge Edge' Through f zero a b p w = absurd w
way_kept Edge Edge' Through f (suc n) a b p (inl e) = inl (f a b p e)
way_kept Edge Edge' Through f (suc n) a b p (inr (c, q, e, w)) =
    inr (c, q, f a c p e, way_kept Edge Edge' Through f n c b q w)

-- All nodes passed through are such, but for t.
module _ (Edge : ℕ → ℕ → Type 0) (P Q : ℕ → Type 0) (t : ℕ) (others : (c : ℕ) → P c → (c ≡ t → ⊥) → Q c) where
  -- A way leaves out t, or leads there and on from it.
  pub detour : (n a b : ℕ) → Way Edge P n a b → Way Edge Q n a b ⊎ (Leads Edge P a t × Leads Edge P t b)
  detour zero a b w = absurd w
  detour (suc n) a b (inl e) = inl (inl e)
  detour (suc n) a b (inr (c, p, e, w)) =
      same c t
      (λ (q : c ≡ t). inr ((1, inl (subst (λ (x : ℕ). Edge a x) q e)), (n, subst (λ (x : ℕ). Way Edge P n x b) q w)))
      (λ (other : c ≡ t → ⊥).
      ⊎_elim (λ v. inl (inr (c, others c p other, e, v))) (λ v. inr ((suc v.0.0, inr (c, p, e, v.0.1)), v.1))
      (detour n c b w))
