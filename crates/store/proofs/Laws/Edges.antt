-- Who depends on whom when entries leave the log or one is put last.
use Rattle.std.specs.Prelude.{ℕ, ◌≡◌, true, false, not, ◌↔◌, ◌⊎◌, List, [], ◌∷◌, ◌++◌, eqb}
use Rattle.std.proofs.Common.{sym, ◌∙◌, inl, inr, ⊎_elim, eqb-true}
use Rattle.std.proofs.lemmas.Bool.{eqb-false, not-true}
use Rattle.operations.proofs.Laws.Cases.{split}
use Rattle.store.specs.Store.{Logged}
use Rattle.store.specs.Dependency.{Any, Follows, Conflict, DependsOn}
use Rattle.store.specs.Steps.{without}
use Rattle.store.proofs.Laws.Any.{any_some, any_map, any_append, any_filter}

-- ---- Entries that leave

module _ (t : ℕ) (P : Logged → Type 0) where
  any_left : (log : List Logged) → Any P (without t log)
      → Any (λ (x : Logged). P x × (x.entry.transaction ≡ t → ⊥)) log
  any_left log p =
      any_map (λ (x : Logged). P x × (not (eqb x.entry.transaction t) ≡ true))
      (λ (x : Logged). P x × (x.entry.transaction ≡ t → ⊥))
      (λ x q. (q.0, eqb-false x.entry.transaction t (not-true _ q.1))) log
      (any_filter P (λ (x : Logged). not (eqb x.entry.transaction t)) log p)

  any_stays : (log : List Logged)
      → Any (λ (x : Logged). P x × (x.entry.transaction ≡ t → ⊥)) log → Any P (without t log)
  any_stays [] p = p
  any_stays (l ∷ log) p =
      split (eqb l.entry.transaction t)
      (λ (e : eqb l.entry.transaction t ≡ true).
      rw e (⊎_elim (λ h. absurd (h.1 (eqb-true l.entry.transaction t e))) (any_stays log) p))
      (λ (e : eqb l.entry.transaction t ≡ false). rw e (⊎_elim (λ h. inl h.0) (λ h. inr (any_stays log h)) p))

module _ (t a b : ℕ) where
  abbrev Kept : Logged → Logged → Type 0
  Kept e x = Conflict a b e x × (x.entry.transaction ≡ t → ⊥)

  follows_left : (log : List Logged) → Follows (Conflict a b) (without t log)
      → Follows (Conflict a b) log × (a ≡ t → ⊥) × (b ≡ t → ⊥)
  follows_left [] p = absurd p
  follows_left (l ∷ log) p =
      split (eqb l.entry.transaction t)
      (λ (e : eqb l.entry.transaction t ≡ true). let r = follows_left log (rw e at p) in (inr r.0, r.1, r.2))
      (λ (e : eqb l.entry.transaction t ≡ false).
      let q : Any (Conflict a b l) (without t log) ⊎ Follows (Conflict a b) (without t log) = rw e at p in
      ⊎_elim
      (λ (h : Any (Conflict a b l) (without t log)).
      let k = any_left t (Conflict a b l) log h in
      let x = any_some (Kept l) log k in (
        inl (any_map (Kept l) (Conflict a b l) (λ (y : Logged) (w : Kept l y). w.0) log k),
        λ z. x.1.1 (x.1.0.0 ∙ z),
        λ z. eqb-false l.entry.transaction t e (x.1.0.1 ∙ z),
      ))
      (λ (h : Follows (Conflict a b) (without t log)). let r = follows_left log h in (inr r.0, r.1, r.2))
      q)

  follows_stays : (a ≡ t → ⊥) → (b ≡ t → ⊥) → (log : List Logged) → Follows (Conflict a b) log
      → Follows (Conflict a b) (without t log)
  follows_stays m n [] p = p
  follows_stays m n (l ∷ log) p =
      split (eqb l.entry.transaction t)
      (λ (e : eqb l.entry.transaction t ≡ true).
      rw e (⊎_elim
      (λ (h : Any (Conflict a b l) log).
      let x = any_some (Conflict a b l) log h in
      absurd (n (sym x.1.1 ∙ eqb-true l.entry.transaction t e)))
      (follows_stays m n log) p))
      (λ (e : eqb l.entry.transaction t ≡ false).
      rw e (⊎_elim
      (λ (h : Any (Conflict a b l) log).
      inl (any_stays t (Conflict a b l) log
      (any_map (Conflict a b l) (Kept l) (λ (y : Logged) (w : Conflict a b l y). (w, λ z. m (sym w.0 ∙ z))) log h)))
      (λ (h : Follows (Conflict a b) log). inr (follows_stays m n log h)) p))

  -- Among those left, dependencies stay as they were.
  pub depends_without : (log : List Logged) → DependsOn (without t log) a b
      ↔ (DependsOn log a b × (a ≡ t → ⊥) × (b ≡ t → ⊥))
  depends_without log = (
    λ d. let r = follows_left log d.1 in ((d.0, r.0), r.1, r.2),
    λ d. (d.0.0, follows_stays d.1 d.2 log d.0.1),
  )

-- ---- An entry put last

module _ (x : Logged) where
  any_last : (P : Logged → Type 0) (log : List Logged) → Any P (log ++ (x ∷ [])) ↔ (Any P log ⊎ P x)
  any_last P log = (
    λ p. ⊎_elim inl (⊎_elim inr (λ q. absurd q)) ((any_append P log (x ∷ [])).0 p),
    λ p. (any_append P log (x ∷ [])).1 (⊎_elim inl (λ q. inr (inl q)) p),
  )

  follows_last : (R : Logged → Logged → Type 0) (log : List Logged) → Follows R (log ++ (x ∷ []))
      ↔ (Follows R log ⊎ Any (λ (e : Logged). R e x) log)
  follows_last R [] = (λ p. ⊎_elim inl inl p, ⊎_elim inr inr)
  follows_last R (l ∷ log) = (
    ⊎_elim (λ p. ⊎_elim (λ q. inl (inl q)) (λ q. inr (inl q)) ((any_last (R l) log).0 p))
        (λ p. ⊎_elim (λ q. inl (inr q)) (λ q. inr (inr q)) ((follows_last R log).0 p)),
    ⊎_elim (⊎_elim (λ p. inl ((any_last (R l) log).1 (inl p))) (λ p. inr ((follows_last R log).1 (inl p))))
        (⊎_elim (λ p. inl ((any_last (R l) log).1 (inr p))) (λ p. inr ((follows_last R log).1 (inr p)))),
  )

-- An entry put last adds dependencies of its own transaction alone.
pub depends_appended : (a b : ℕ) (x : Logged) (log : List Logged)
    → DependsOn (log ++ (x ∷ [])) a b ↔ (DependsOn log a b ⊎ ((a ≡ b → ⊥) × Any (λ (e : Logged). Conflict a b e x) log))
depends_appended a b x log = (
  λ d. ⊎_elim (λ p. inl (d.0, p)) (λ p. inr (d.0, p)) ((follows_last x (Conflict a b) log).0 d.1),
  ⊎_elim (λ d. (d.0, (follows_last x (Conflict a b) log).1 (inl d.1)))
      (λ d. (d.0, (follows_last x (Conflict a b) log).1 (inr d.1))),
)
