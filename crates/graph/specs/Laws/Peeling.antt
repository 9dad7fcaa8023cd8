-- Those that depend on none of those left are left out, until there are none such: they lie on no cycle, and where
-- somebody is left, each leads on to another that is.
use Rattle.std.specs.Prelude.{ℕ, zero, suc, ◌^◌, ◌<◌, ◌≡◌, true, false, ◌↔◌, eqb}
use Rattle.std.proofs.Common.{sym, subst, ◌∙◌, true≢false, inl, inr, eq-eqb, eqb-true}
use Rattle.operations.proofs.Laws.Cases.{split}
use Rattle.bitset.specs.Bitset.{has, In, Holds}
use Rattle.bitset.specs.Laws.{nobody_in, member_below, part_less, holds_empty}
use Rattle.store.specs.Dependency.{Way, Leads}
use Rattle.store.proofs.Laws.Ways.{widened, onward, none_lead_on}
use Rattle.graph.specs.Edges.{Near, Reversed}

module _ (Edge : ℕ → ℕ → Type 0) (finished : ℕ) where
  -- Those left out lie on no cycle.
  pub record Peeling (left : ℕ) : Type 0 where
    pub within : (t : ℕ) → In left t → In finished t
    pub out : (t : ℕ) → In finished t → (In left t → ⊥) → Leads Edge (In finished) t t → ⊥

  module _ (left held : ℕ) (p : Peeling left) (kept : Holds held (Near (Reversed Edge) left left)) where
    -- One left out now leads to none left, so a cycle from it goes on through one left out before.
    off : (t : ℕ) → In finished t → In left t → (In held t → ⊥) → Leads Edge (In finished) t t → ⊥
    off t m l other (zero, w) = absurd w
    off t m l other (suc n, inl e) = other ((kept t).1 (l, (t, l, e)))
    off t m l other (suc n, inr (c, q, e, w)) =
        p.out c q (λ (k : In left c). other ((kept t).1 (l, (c, k, e))))
        (suc n, onward Edge (In finished) n c t c w m e)

    pub peel_turned : Peeling held
    peel_turned =
        record {
          within = λ t m. p.within t ((kept t).0 m).0;
          out = λ t m other. split (has left t) (λ (l : In left t). off t m l other)
              (λ (e : has left t ≡ false). p.out t m (λ (l : In left t). true≢false (sym l ∙ e)));
        }

    pub peel_less : (held ≡ left → ⊥) → held < left
    peel_less other = part_less held left (λ t m. ((kept t).0 m).0) other

    pub peel_ended : held ≡ left → finished < 2 ^ 64
        → (eqb left 0 ≡ true) ↔ ((t : ℕ) → In finished t → Way Edge (In finished) 64 t t → ⊥)
    peel_ended same few = (
      λ z t m w. p.out t m (nobody_in left t (eqb-true left 0 z)) (64, w),
      λ acyclic. eq-eqb left 0 ((holds_empty (In left) left (λ t. (λ m. m, λ m. m))).1
          (none_lead_on Edge (In left) (λ c m. member_below finished c few (p.within c m))
          (λ (c : ℕ) (m : In left c).
          let (l, (d, k, e)) = (kept c).0 (subst (λ (x : ℕ). In x c) (sym same) m) in (d, k, e))
          (λ (c : ℕ) (m : In left c) (w : Way Edge (In left) 64 c c).
          acyclic c (p.within c m) (widened Edge (In left) (In finished) p.within 64 c c w)))),
    )
