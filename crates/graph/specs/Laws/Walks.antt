-- Walks over a set's members: each is shown to be such, or what they contribute is collected.
use Rattle.std.specs.Prelude.{ℕ, ◌≡◌, refl, not, ◌&&◌, ◌⊎◌, eqb}
use Rattle.std.proofs.Common.{sym, subst, inl, inr, ⊎_elim}
use Rattle.operations.proofs.Laws.Cases.{same}
use Rattle.bitset.specs.Bitset.{has, Members, In, Holds}
use Rattle.bitset.specs.Laws.{nobody_in, in_rest, holds_none}

-- ---- A walk over the members of a set, of which each is shown to be such

module _ (P : ℕ → Type 0) (set : ℕ) where
  pub record Walk (left : ℕ) : Type 0 where
    pub within : (t : ℕ) → In left t → In set t
    pub passed : (t : ℕ) → In set t → (In left t → ⊥) → P t

  pub walk_turned : (left next rest : ℕ) → Walk left → P next
      → Members rest (λ h. has left h && not (eqb h next)) → Walk rest
  walk_turned left next rest w p without =
      record {
        within = λ t m. w.within t ((in_rest rest left next without t).0 m).0;
        passed =
            λ (t : ℕ) (m : In set t) (out : In rest t → ⊥).
            same t next (λ (e : t ≡ next). subst P (sym e) p)
            (λ (other : t ≡ next → ⊥). w.passed t m (λ l. out ((in_rest rest left next without t).1 (l, other))));
      }

  pub walk_ended : (left : ℕ) → Walk left → left ≡ 0 → (t : ℕ) → In set t → P t
  walk_ended left w none t m = w.passed t m (nobody_in left t none)

-- ---- A walk that collects what the members of a set contribute

module _ (Gives : ℕ → ℕ → Type 0) (set : ℕ) where
  pub record Collecting (left found : ℕ) : Type 0 where
    pub within : (a : ℕ) → In left a → In set a
    pub members : Holds found (λ b. (a : ℕ) × In set a × (In left a → ⊥) × Gives a b)

  pub collect_begun : Collecting set 0
  collect_begun =
      record {
        within = λ a m. m;
        members = holds_none _ (λ b p. p.2 p.1);
      }

  pub collect_turned : (left next found more rest : ℕ) → Collecting left found → In left next
      → Holds more (λ b. In found b ⊎ Gives next b)
      → Members rest (λ h. has left h && not (eqb h next)) → Collecting rest more
  collect_turned left next found more rest c m union without =
      record {
        within = λ a l. c.within a ((in_rest rest left next without a).0 l).0;
        members = λ b. (
          λ u. ⊎_elim
              (λ (f : In found b). let (a, s, out, g) = (c.members b).0 f in
              (a, s, (λ l. out ((in_rest rest left next without a).0 l).0), g))
              (λ (g : Gives next b).
              (next, c.within next m, (λ l. ((in_rest rest left next without next).0 l).1 refl), g))
              ((union b).0 u),
          λ (p : (a : ℕ) × In set a × (In rest a → ⊥) × Gives a b). let (a, s, out, g) = p in
              (union b).1 (same a next
              (λ (e : a ≡ next). inr (subst (λ (x : ℕ). Gives x b) e g))
              (λ (other : a ≡ next → ⊥). inl ((c.members b).1
              (a, s, (λ l. out ((in_rest rest left next without a).1 (l, other))), g)))),
        );
      }

  pub collect_ended : (left found : ℕ) → Collecting left found → left ≡ 0
      → Holds found (λ b. (a : ℕ) × In set a × Gives a b)
  collect_ended left found c none b = (
    λ m. let (a, s, out, g) = (c.members b).0 m in (a, s, g),
    λ p. (c.members b).1 (p.0, p.1, nobody_in left p.0 none, p.2),
  )
