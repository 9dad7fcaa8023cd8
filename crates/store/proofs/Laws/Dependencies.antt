-- On whom a transaction depends, by what commutes and by whose order shows.
use Rattle.std.specs.Prelude.{ℕ, ◌≡◌, refl, Bool, true, false, ◌↔◌, List, [], ◌∷◌, eqb}
use Rattle.std.proofs.Common.{sym, ap, ◌∙◌, subst, true≢false, inl, inr, eqb-true, eq-eqb, ne_eqb}
use Rattle.std.proofs.Math.Option.{some, some-injective}
use Rattle.std.proofs.lemmas.Bool.{eqb-false}
use Rattle.operations.specs.Operations.{Kind, kind_of, All, StoredKey, Fits}
use Rattle.operations.specs.PairRules.{commutes}
use Rattle.operations.specs.Log.{Commuting, PassesBefore}
use Rattle.operations.proofs.Laws.ObjectTypes.{ObjectType}
use Rattle.operations.proofs.Laws.Cases.{split, all_map₂}
use Rattle.operations.proofs.Laws.Objects.{object}
use Rattle.operations.proofs.Laws.Recoverability.{either_order}
use Rattle.operations.proofs.Laws.Witnesses.{order_witness, order_valid, order_differs}
use Rattle.store.specs.Store.{Logged, Store, object_of, on_object}
use Rattle.store.specs.Layout.{Format}
use Rattle.store.specs.Dependency.{Any, Follows, Conflict, Shown, DependsOn}
use Rattle.store.specs.Soundness.{EntriesFit, KeysReduced}
use Rattle.store.proofs.Laws.Any.{any_some, follows_all}

module _ (reduce : ℕ → ℕ) (kind : Kind) (t : ℕ) where
  abbrev X : ObjectType
  X = object reduce kind

  abbrev is_t : ℕ → Bool
  is_t h = eqb h t

  -- Entry e stands before a list in which no entry of t conflicts with it.
  abbrev Free : Logged → List Logged → Type 0
  Free e l = (t ≡ e.entry.transaction → ⊥) → Any (Conflict t e.entry.transaction e) l → ⊥

  passes : (o : ℕ) (e : Logged) → e.object ≡ o → (l : List Logged) → Free e l
      → All (PassesBefore X.commutes is_t e.entry) (on_object o l)
  passes o e q [] free = tt
  passes o e q (x ∷ l) free =
      let rest = passes o e q l (λ other p. free other (inr p)) in
      split (eqb x.object o)
      (λ (b : eqb x.object o ≡ true). rw b (head (eqb-true x.object o b), rest))
      (λ (b : eqb x.object o ≡ false). rw b rest)
    where
      head : x.object ≡ o → PassesBefore X.commutes is_t e.entry x.entry
      head on own other =
          split (commutes x.entry.operation e.entry.operation)
          (λ (c : commutes x.entry.operation e.entry.operation ≡ true). c)
          (λ (c : commutes x.entry.operation e.entry.operation ≡ false).
          absurd (free (λ (same : t ≡ e.entry.transaction). eqb-false e.entry.transaction t other (sym same))
          (inl (eqb-true x.entry.transaction t own, refl, on ∙ sym q, c))))

  pub ready_commuting : (log : List Logged) → ((u : ℕ) → DependsOn log t u → ⊥)
      → (o : ℕ) → Commuting X.commutes is_t (on_object o log)
  ready_commuting [] none o = tt
  ready_commuting (e ∷ l) none o =
      let rest = ready_commuting l (λ u d. none u (d.0, inr d.1)) o in
      split (eqb e.object o)
      (λ (b : eqb e.object o ≡ true). rw b
      (passes o e (eqb-true e.object o b) l (λ other p. none e.entry.transaction (other, inl p)), rest))
      (λ (b : eqb e.object o ≡ false). rw b rest)

  module _ (u : ℕ) (other : t ≡ u → ⊥) where
    meets : (e : Logged) (l : List Logged) → All (PassesBefore X.commutes is_t e.entry) (on_object e.object l)
        → Any (Conflict t u e) l → ⊥
    meets e [] all p = p
    meets e (x ∷ l) all (inl (own, owner, on, c)) =
        let here : All (PassesBefore X.commutes is_t e.entry) (x.entry ∷ on_object e.object l) =
        rw (eq-eqb x.object e.object on) at all in
        true≢false (sym (here.0 (eq-eqb x.entry.transaction t own)
        (ne_eqb e.entry.transaction t (λ q. other (sym q ∙ owner)))) ∙ c)
    meets e (x ∷ l) all (inr p) =
        split (eqb x.object e.object)
        (λ (b : eqb x.object e.object ≡ true).
        let here : All (PassesBefore X.commutes is_t e.entry) (x.entry ∷ on_object e.object l) = rw b at all in
        meets e l here.1 p)
        (λ (b : eqb x.object e.object ≡ false). meets e l (rw b at all) p)

    follows_none : (log : List Logged) → ((o : ℕ) → Commuting X.commutes is_t (on_object o log))
        → Follows (Conflict t u) log → ⊥
    follows_none [] c p = p
    follows_none (e ∷ l) c (inl p) =
        let here : Commuting X.commutes is_t (e.entry ∷ on_object e.object l) =
        rw (eq-eqb e.object e.object refl) at (c e.object) in
        meets e l here.0 p
    follows_none (e ∷ l) c (inr p) = follows_none l (λ o. later o) p
      where
        later : (o : ℕ) → Commuting X.commutes is_t (on_object o l)
        later o =
            split (eqb e.object o)
            (λ (b : eqb e.object o ≡ true).
            let here : Commuting X.commutes is_t (e.entry ∷ on_object o l) = rw b at (c o) in
            here.1)
            (λ (b : eqb e.object o ≡ false). rw b at (c o))

  pub commuting_ready : (log : List Logged) → ((o : ℕ) → Commuting X.commutes is_t (on_object o log))
      → (u : ℕ) → DependsOn log t u → ⊥
  commuting_ready log c u (other, p) = follows_none u other log c p

-- What holds of all entries' transactions holds of one that is depended on.
module _ (P : ℕ → Type 0) (a b : ℕ) where
  follows_owner : (log : List Logged) → All (λ (l : Logged). P l.entry.transaction) log
      → Follows (Conflict a b) log → P b
  follows_owner [] all p = absurd p
  follows_owner (e ∷ l) all (inl p) = subst P (any_some (Conflict a b e) l p).1.1 all.0
  follows_owner (e ∷ l) all (inr p) = follows_owner l all.1 p

  pub depended_on : (log : List Logged) → All (λ (l : Logged). P l.entry.transaction) log → DependsOn log a b → P b
  depended_on log all d = follows_owner log all d.1

-- ---- Entries whose order shows

module _ (format : Format) (s : Store) (fits : EntriesFit s) (reduced : KeysReduced format s) (a b : ℕ) where
  abbrev Placed : Logged → Type 0
  Placed l =
      ((object_of s l.object).kind ≡ some (kind_of l.entry.operation))
      × StoredKey format.reduce l.entry.operation

  one_kind : (e x : Logged) → Placed e → Placed x → x.object ≡ e.object
      → kind_of e.entry.operation ≡ kind_of x.entry.operation
  one_kind e x p q o =
      some-injective _ _ (sym p.0 ∙ (ap (λ (y : ℕ). (object_of s y).kind) (sym o) ∙ q.0))

  shows : (e x : Logged) → Placed e → Placed x → Conflict a b e x → Shown format.reduce a b e x
  shows e x p q (own, owner, o, conflict) =
      let kind = kind_of x.entry.operation in
      let fe : Fits format.reduce kind e.entry.operation = (one_kind e x p q o, p.1) in
      let fx : Fits format.reduce kind x.entry.operation = (refl, q.1) in (
        own,
        owner,
        o,
        (
          order_witness x.entry.operation e.entry.operation,
          order_valid format.reduce kind x.entry.operation e.entry.operation fx fe,
          order_differs kind x.entry.operation e.entry.operation refl fe.0 conflict,
        ),
      )

  conflicts : (e x : Logged) → Placed e → Placed x → Shown format.reduce a b e x → Conflict a b e x
  conflicts e x p q (own, owner, o, (rs, formed, differs)) =
      let kind = kind_of x.entry.operation in
      let fe : Fits format.reduce kind e.entry.operation = (one_kind e x p q o, p.1) in
      let fx : Fits format.reduce kind x.entry.operation = (refl, q.1) in (
        own,
        owner,
        o,
        split (commutes x.entry.operation e.entry.operation)
            (λ (c : commutes x.entry.operation e.entry.operation ≡ true).
            absurd (differs (either_order (object format.reduce kind) x.entry.operation e.entry.operation rs
            fx fe formed c)))
            (λ (c : commutes x.entry.operation e.entry.operation ≡ false). c),
      )

  pub depends_shown : DependsOn s.log a b ↔ ((a ≡ b → ⊥) × Follows (Shown format.reduce a b) s.log)
  depends_shown =
      let placed : All Placed s.log = all_map₂ (λ l f k. (f, k)) s.log fits reduced in (
        λ d. (d.0, follows_all Placed (Conflict a b) (Shown format.reduce a b) shows s.log placed d.1),
        λ d. (d.0, follows_all Placed (Shown format.reduce a b) (Conflict a b) conflicts s.log placed d.1),
      )
