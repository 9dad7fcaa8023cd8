-- Near predecessors and successors, collected in a walk; who has none.
use Rattle.std.specs.Prelude.{ℕ, ◌≡◌, refl, true, ◌&&◌, ◌||◌, ◌↔◌, ◌⊎◌, List, eqb, get_or}
use Rattle.std.proofs.Common.{sym, subst, inl, inr, ⊎_elim, eq-eqb, eqb-true}
use Rattle.bitset.specs.Bitset.{has, Members, In, Holds}
use Rattle.bitset.specs.Laws.{nobody_in, some_member, in_union, in_meet, in_single, holds_empty}
use Rattle.graph.specs.Edges.{EdgeIn, Near, Reversed}
use mathlib.Core.Logic.Iff

abbrev pub Depends : List ℕ → ℕ → Type 0
Depends sets t = (u : ℕ) × EdgeIn sets t u

pub nobody : (set : ℕ) → (eqb set 0 ≡ true) ↔ ((u : ℕ) → In set u → ⊥)
nobody set =
    let none = holds_empty (In set) set (λ u. Iff.rfl) in
    (λ z. none.0 (eqb-true set 0 z), λ empty. eq-eqb set 0 (none.1 empty))

pub somebody : (set : ℕ) → (((u : ℕ) → In set u → ⊥) → ⊥) → (u : ℕ) × In set u
somebody set some = some_member set (λ (e : set ≡ 0). some (λ u. nobody_in set u e))

module _ (sets : List ℕ) (set : ℕ) where
  -- Itself, where it depends on a member of the set.
  abbrev pub Depending : ℕ → ℕ → Type 0
  Depending a b = (b ≡ a) × ((c : ℕ) × In set c × EdgeIn sets a c)

  module _ (next found on both : ℕ) (e : on ≡ get_or sets next 0) (meet : Members both (λ h. has on h
      && has set h)) where
    pub depends_on_one : (own more : ℕ) → (both ≡ 0 → ⊥) → Members own (λ h. eqb h next)
        → Members more (λ h. has found h || has own h)
        → Holds more (λ b. In found b ⊎ Depending next b)
    depends_on_one own more some single union b =
        let (c, m) = some_member both some in
        let (d, s) = (in_meet both on set meet c).0 m in (
          λ u. ⊎_elim inl
              (λ (o : In own b). inr ((in_single own next single b).0 o, (c, s, subst (λ (x : ℕ). In x c) e d)))
              ((in_union more found own union b).0 u),
          λ u. (in_union more found own union b).1
              (⊎_elim inl (λ (p : Depending next b). inr ((in_single own next single b).1 p.0)) u),
        )

    pub depends_on_none : both ≡ 0 → Holds found (λ b. In found b ⊎ Depending next b)
    depends_on_none none b = (
      inl,
      ⊎_elim (λ f. f) (λ (p : Depending next b). let (q, (c, s, d)) = p in
          absurd (nobody_in both c none ((in_meet both on set meet c).1 (subst (λ (x : ℕ). In x c) (sym e) d, s)))),
    )

  pub near_predecessors : (among found : ℕ) → Holds found (λ b. (a : ℕ) × In among a × Depending a b)
      → Holds found (Near (Reversed (EdgeIn sets)) among set)
  near_predecessors among found collected b = (
    λ m. let (a, s, (q, d)) = (collected b).0 m in
        (subst (In among) (sym q) s, subst (λ (x : ℕ). (c : ℕ) × In set c × EdgeIn sets x c) (sym q) d),
    λ p. (collected b).1 (b, p.0, (refl, p.1)),
  )

  pub near_successors : (among found r : ℕ) → Holds found (λ b. (a : ℕ) × In set a × EdgeIn sets a b)
      → Members r (λ h. has found h && has among h)
      → Holds r (Near (EdgeIn sets) among set)
  near_successors among found r collected meet b = (
    λ m. let (f, s) = (in_meet r found among meet b).0 m in (s, (collected b).0 f),
    λ p. (in_meet r found among meet b).1 ((collected b).1 p.1, p.0),
  )

-- All on whom one depends are added.
pub dependencies_added : (sets : List ℕ) (next found on more : ℕ) → on ≡ get_or sets next 0
    → Members more (λ h. has found h || has on h)
    → Holds more (λ b. In found b ⊎ EdgeIn sets next b)
dependencies_added sets next found on more e union =
    subst (λ (x : ℕ). Holds more (λ b. In found b ⊎ In x b)) e (in_union more found on union)
