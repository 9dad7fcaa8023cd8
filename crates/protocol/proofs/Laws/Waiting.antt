-- Which entries of an object's log make a request wait, and for whom.
use Rattle.std.specs.Prelude.{ℕ, ◌<◌, ◌≡◌, refl, Bool, true, false, cond, not, ◌||◌, ◌↔◌, ◌⊎◌, List, [], ◌∷◌, ◌++◌, eqb}
use Rattle.std.proofs.Common.{sym, ap, ◌∙◌, subst, true≢false, inl, inr, ⊎_elim, eq-eqb, ne_eqb}
use Rattle.std.proofs.Math.Path.{subst⁻¹}
use mathlib.Mathlib.Data.Bool.Basic.{or-eq-false-eq-eq-false-and-eq-false}
use Rattle.std.proofs.lemmas.Bool.{eqb-false, not-true}
use Rattle.operations.specs.Operations.{Operation, Answer, All}
use Rattle.operations.specs.PairRules.{recoverable}
use Rattle.operations.specs.Log.{Entry, one, others}
use Rattle.operations.proofs.Laws.Cases.{split, all_map}
use Rattle.bitset.specs.Bitset.{In, Holds, including}
use Rattle.bitset.specs.Laws.{holds_none, holds_same, holds_including, holds_unique, holds_empty, nobody_in}
use Rattle.store.specs.Store.{Logged, Live, on_object}
use Rattle.store.specs.Dependency.{Any}
use Rattle.store.specs.Layout.{decode, base}
use Rattle.store.specs.Soundness.{Sound}
use Rattle.store.specs.Steps.{without}
use Rattle.store.proofs.Laws.Any.{any_some, any_map, any_filter}
use Rattle.store.proofs.Laws.Changes.{on_picked}
use Rattle.store.proofs.Laws.Reading.{live_below}
use Rattle.protocol.specs.Calls.{owners}
use Rattle.protocol.specs.Terms.{Passes, Bars, Owner, Among, without_all}

-- A set is one that holds such members exactly where it has them itself.
pub held_exactly : (P : ℕ → Type 0) (set held : ℕ) → Holds held P → (set ≡ held) ↔ Holds set P
held_exactly P set held h = (λ e. subst⁻¹ (λ (x : ℕ). Holds x P) e h, λ g. holds_unique set held P g h)

module _ (t : ℕ) (requested : Operation) where
  abbrev lets : Entry Operation Answer → Bool
  lets e = eqb e.transaction t || recoverable requested e.operation

  passes : (e : Entry Operation Answer) → (lets e ≡ true) ↔ Passes t requested e
  passes e = (
    λ h other. let own = ne_eqb e.transaction t other in rw own at h,
    λ p. split (eqb e.transaction t) (λ (own : eqb e.transaction t ≡ true). rw own refl)
        (λ (own : eqb e.transaction t ≡ false). rw own (p (eqb-false e.transaction t own))),
  )

  -- An entry that does not let the request pass is another's, and bars it.
  bars : (e : Entry Operation Answer) → lets e ≡ false → (e.transaction ≡ t → ⊥) × Bars t requested e.transaction e
  bars e h =
      let n = (or-eq-false-eq-eq-false-and-eq-false (eqb e.transaction t) _).0 h in
      (eqb-false e.transaction t n.0, (refl, n.1))

  -- One that does adds no owner, another its own.
  told : (e : Entry Operation Answer) (l : List (Entry Operation Answer)) (passed : Bool) → lets e ≡ passed
      → owners t requested (e ∷ l)
      ≡ cond passed (owners t requested l) (including e.transaction (owners t requested l))
  told e l passed =
      ap (λ (b : Bool). cond b (owners t requested l) (including e.transaction (owners t requested l)))

  -- The set's members are the owners.
  pub owned : (l : List (Entry Operation Answer)) → Holds (owners t requested l) (Owner t requested l)
  owned [] = holds_none (Owner t requested []) (λ u p. p.1)
  owned (e ∷ l) =
      split (lets e)
      (λ (h : lets e ≡ true).
      subst⁻¹ (λ (s : ℕ). Holds s (Owner t requested (e ∷ l))) (told e l true h)
      (holds_same (Owner t requested l) (Owner t requested (e ∷ l)) (owners t requested l) (owned l) (λ u. (
        λ p. (p.0, inr p.1),
        λ p. (
          p.0,
          ⊎_elim (λ q. absurd (true≢false (sym ((passes e).0 h (λ z. p.0 (sym q.0 ∙ z))) ∙ q.1))) (λ q. q) p.1,
        ),
      ))))
      (λ (h : lets e ≡ false).
      let b = bars e h in
      subst⁻¹ (λ (s : ℕ). Holds s (Owner t requested (e ∷ l))) (told e l false h)
      (holds_same (λ u. (u ≡ e.transaction) ⊎ Owner t requested l u) (Owner t requested (e ∷ l))
      (including e.transaction (owners t requested l))
      (holds_including (Owner t requested l) e.transaction (owners t requested l) (owned l)) (λ u. (
        ⊎_elim (λ own. (λ z. b.0 (sym own ∙ z), inl (sym own, b.1.1))) (λ p. (p.0, inr p.1)),
        λ p. ⊎_elim (λ q. inl (sym q.0)) (λ q. inr (p.0, q)) p.1,
      ))))

  -- An entry of its own, put last, adds none.
  pub own_last : (l : List (Entry Operation Answer)) (e : Entry Operation Answer) → e.transaction ≡ t
      → owners t requested (l ++ (e ∷ [])) ≡ owners t requested l
  own_last [] e own = told e [] true (rw (eq-eqb e.transaction t own) refl)
  own_last (x ∷ l) e own =
      ap (λ (set : ℕ). cond (lets x) set (including x.transaction set)) (own_last l e own)

  pub none_owned : (l : List (Entry Operation Answer)) → (owners t requested l ≡ 0) ↔ All (Passes t requested) l
  none_owned [] = (λ e. tt, λ a. refl)
  none_owned (e ∷ l) =
      split (lets e)
      (λ (h : lets e ≡ true). (
        λ n. ((passes e).0 h, (none_owned l).0 (sym (told e l true h) ∙ n)),
        λ a. told e l true h ∙ (none_owned l).1 a.1,
      ))
      (λ (h : lets e ≡ false). (
        λ n. let b = bars e h in
            absurd (nobody_in (owners t requested (e ∷ l)) e.transaction n
            ((owned (e ∷ l) e.transaction).1 (b.0, inl b.1))),
        λ a. absurd (true≢false (sym ((passes e).1 a.0) ∙ h)),
      ))

  -- No other set has them as its members.
  pub owned_exactly : (l : List (Entry Operation Answer)) (s : ℕ)
      → (s ≡ owners t requested l) ↔ Holds s (Owner t requested l)
  owned_exactly l s = held_exactly (Owner t requested l) s (owners t requested l) (owned l)

  module _ (o : ℕ) where
    barring_below : (log : List Logged) → All (λ (l : Logged). l.entry.transaction < 64) log
        → (u : ℕ) → Any (Bars t requested u) (on_object o log) → u < 64
    barring_below [] a u p = absurd p
    barring_below (l ∷ log) a u p =
        split (eqb l.object o)
        (λ (on : eqb l.object o ≡ true).
        let either : Bars t requested u l.entry ⊎ Any (Bars t requested u) (on_object o log) = rw on at p in
        ⊎_elim (λ q. subst (λ (n : ℕ). n < 64) q.0 a.0) (barring_below log a.1 u) either)
        (λ (on : eqb l.object o ≡ false). barring_below log a.1 u (rw on at p))

    -- On a sound book an owner is live, so it is below 64.
    pub owner_below : (w : List ℕ) → Sound base w → (u : ℕ) → Owner t requested (on_object o (decode base w).log) u
        → u < 64
    owner_below w sound u p =
        barring_below (decode base w).log
        (all_map {P = λ (l : Logged). Live (decode base w) l.entry.transaction}
        (λ l. live_below base w l.entry.transaction) (decode base w).log sound.store.unsettled.live) u p.1

    -- Whose entry bars the request when some have gone is none of them, and barred it before.
    barred_left : (gone : List ℕ) (log : List Logged) (u : ℕ) → Owner t requested (on_object o (without_all gone log)) u
        → Owner t requested (on_object o log) u × (Among u gone → ⊥)
    barred_left [] log u p = (p, λ a. a)
    barred_left (x ∷ gone) log u p =
        let later = barred_left gone (without x log) u p in
        let Stays : Entry Operation Answer → Type 0 =
        λ e. Bars t requested u e × (not (eqb e.transaction x) ≡ true) in
        let stays : Any Stays (on_object o log) =
        any_filter (Bars t requested u) (λ e. not (eqb e.transaction x)) (on_object o log)
        (subst (Any (Bars t requested u)) (on_picked (others (one x)) o log) later.0.1) in
        let some-entry = any_some Stays (on_object o log) stays in (
          (later.0.0, any_map Stays (Bars t requested u) (λ e q. q.0) (on_object o log) stays),
          ⊎_elim (λ (e : x ≡ u). eqb-false some-entry.0.transaction x (not-true _ some-entry.1.1)
              (some-entry.1.0.0 ∙ sym e)) later.1,
        )

    -- Once all whom it waits for have gone, it waits for nobody.
    pub none_awaited : (gone : List ℕ) (log : List Logged)
        → ((u : ℕ) → In (owners t requested (on_object o log)) u → Among u gone)
        → owners t requested (on_object o (without_all gone log)) ≡ 0
    none_awaited gone log all =
        let later : List (Entry Operation Answer) = on_object o (without_all gone log) in
        (holds_empty (Owner t requested later) (owners t requested later) (owned later)).1 (λ u p.
        let q = barred_left gone log u p in
        q.1 (all u ((owned (on_object o log) u).1 q.0)))
