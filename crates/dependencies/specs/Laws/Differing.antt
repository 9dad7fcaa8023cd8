-- Owners of entries with different items: who has another than a given one, and who has two or more.
use Rattle.std.specs.Prelude.{ℕ, ◌+◌, ◌≡◌, true, false, ◌↔◌, ◌⊎◌, List}
use Rattle.std.proofs.Common.{sym, ap, subst, ◌∙◌, true≢false, inl, inr, ⊎_elim, arith}
use Rattle.operations.proofs.Laws.Cases.{split, same}
use Rattle.bitset.specs.Bitset.{has, Holds}
use Rattle.bitset.specs.Laws.{either, but_not}
use Rattle.representatives.specs.Representatives.{entry_transaction}
use Rattle.dependencies.specs.Dependencies.{Owner, Differing, Varied, Beside}
use Rattle.dependencies.specs.Laws.Sets.{some_more}

module _ (P : ℕ → Type 0) (item : ℕ → ℕ) (w : List ℕ) where
  -- Who has two different ones has one that is not x; who has x and another has two.
  module _ (x n : ℕ) where
    abbrev Has : ℕ → Type 0
    Has = Owner (λ j. P j × (item j ≡ x)) w n

    of_two : (b : ℕ) → Varied P item w n b → Differing P item x w n b
    of_two b (j, l, (p, t, d)) =
        same (item j) x
        (λ e. let (k, m, (q, other, u)) = d in (k, m, (q, λ f. other (f ∙ sym e), u)))
        (λ other. (j, l, (p, other, t)))

    of_any : (b : ℕ) → Owner P w n b × (Has b → ⊥) → Differing P item x w n b
    of_any b ((j, l, (p, t)), none) = (j, l, (p, λ e. none (j, l, ((p, e), t)), t))

    in_either : (b : ℕ) → (Has b ⊎ (Has b → ⊥)) → Differing P item x w n b
        → Varied P item w n b ⊎ (Owner P w n b × (Has b → ⊥))
    in_either b (inl (j, l, ((p, e), t))) (k, m, (q, other, u)) =
        inl (j, l, (p, t, (k, m, (q, λ f. other (f ∙ e), u))))
    in_either b (inr none) (k, m, (q, other, u)) = inr ((k, m, (q, u)), none)

    -- Those beside the sets of who has different ones, any, and x.
    pub differing : (varied any alike r : ℕ) → Holds varied (Varied P item w n) → Holds any (Owner P w n)
        → Holds alike Has → Beside r varied any alike → Holds r (Differing P item x w n)
    differing varied any alike r held-varied held_any held-alike beside b = (
      λ e.
          ⊎_elim (λ v. of_two b ((held-varied b).0 v))
          (λ rest.
          let (p, none) = (but_not (has any b) (has alike b)).0 rest in
          of_any b ((held_any b).0 p, λ h. none ((held-alike b).1 h)))
          ((either (has varied b) _).0 (sym (beside b) ∙ e)),
      λ d.
          beside b
          ∙ (either (has varied b) _).1
          (⊎_elim (λ v. inl ((held-varied b).1 v))
          (λ (p, none). inr ((but_not (has any b) (has alike b)).1 ((held_any b).1 p, λ e. none ((held-alike b).0 e))))
          (in_either b known d)),
    )
      where
        known : Has b ⊎ (Has b → ⊥)
        known =
            split (has alike b) (λ (e : has alike b ≡ true). inl ((held-alike b).0 e))
            (λ (e : has alike b ≡ false). inr (λ h. true≢false (sym ((held-alike b).1 h) ∙ e)))

  module _ (i : ℕ) where
    old : (x b : ℕ) → Differing P item x w i b → Differing P item x w (i + 1) b
    old x b d = (some_more (λ j. P j × (item j ≡ x → ⊥) × (entry_transaction w j ≡ b)) i).0 (inl d)

    -- One entry more.
    pub varied_more : (b : ℕ)
        → (Varied P item w i b ⊎ (P i × (entry_transaction w i ≡ b) × Differing P item (item i) w i b))
        ↔ Varied P item w (i + 1) b
    varied_more b = (
      ⊎_elim (λ (j, l, (p, t, d)). (j, omega arith, (p, t, old (item j) b d)))
          (λ (p, t, d). (i, omega arith, (p, t, old (item i) b d))),
      λ (j, l, (p, t, (k, m, (q, other, u)))).
          same j i
          (λ (e : j ≡ i).
          same k i (λ (f : k ≡ i). absurd (other (ap item (f ∙ sym e))))
          (λ (f : k ≡ i → ⊥).
          inr (
            subst P e p,
            ap (entry_transaction w) (sym e) ∙ t,
            (k, omega arith, (q, λ g. other (g ∙ ap item (sym e)), u)),
          )))
          (λ (e : j ≡ i → ⊥).
          same k i
          (λ (f : k ≡ i).
          inr (
            subst P f q,
            ap (entry_transaction w) (sym f) ∙ u,
            (j, omega arith, (p, λ g. other (ap item f ∙ sym g), t)),
          ))
          (λ (f : k ≡ i → ⊥). inl (j, omega arith, (p, t, (k, omega arith, (q, other, u)))))),
    )

-- Of entries that are others too.
module _ (P Q : ℕ → Type 0) (item : ℕ → ℕ) (w : List ℕ) (n b : ℕ) (f : (j : ℕ) → P j → Q j) where
  pub differing_of : (x : ℕ) → Differing P item x w n b → Differing Q item x w n b
  differing_of x (j, l, (p, other, t)) = (j, l, (f j p, other, t))

  pub varied_of : Varied P item w n b → Varied Q item w n b
  varied_of (j, l, (p, t, d)) = (j, l, (f j p, t, differing_of (item j) d))
