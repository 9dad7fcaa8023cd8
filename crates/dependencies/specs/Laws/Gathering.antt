-- The sets of those that each transaction depends on, and the owners that bar recoverability, entry by entry.
use Rattle.std.specs.Prelude.{ℕ, ◌+◌, ◌<◌, ◌≡◌, refl, true, ◌||◌, ◌↔◌, ◌⊎◌, List, eqb, length, get_or, set, replicate}
use Rattle.std.proofs.Common.{sym, ap, subst, inl, inr, ⊎_elim, eqb-true, eq-eqb}
use Rattle.operations.specs.PairRules.{recoverable, commutes}
use Rattle.bitset.specs.Bitset.{has, Members, Holds, Represents}
use Rattle.bitset.specs.Laws.{holds_none, holds_same, holds_join, holds_empty}
use Rattle.store.specs.Layout.{word, base, decode}
use Rattle.store.specs.Soundness.{EntriesFit, EntriesRecoverable}
use Rattle.store.specs.Dependency.{DependsOn}
use Rattle.representatives.specs.Representatives.{entry_transaction}
use Rattle.dependencies.specs.Dependencies.{Bars, BarsBelow, Unrecoverable}
use Rattle.dependencies.specs.Laws.Sets.{some_none, some_more, represents_same, blank_row, represents_join}
use Rattle.dependencies.specs.Laws.Entries.{recoverable_none, depends_bars}

module _ (w : List ℕ) where
  pub dependencies_none : (sets : List ℕ) → sets ≡ replicate 64 0 → Represents sets (BarsBelow commutes w 0)
  dependencies_none sets empty =
      subst (λ (l : List ℕ). Represents l (BarsBelow commutes w 0)) (sym empty)
      (blank_row 64 (BarsBelow commutes w 0) (λ a b. some_none (λ i. (entry_transaction w i ≡ a)
      × Bars commutes w i b)))

  pub unrecoverable_none : Holds 0 (Unrecoverable w 0)
  unrecoverable_none =
      holds_none (Unrecoverable w 0)
      (λ b u. some_none (λ i. (entry_transaction w i ≡ u.0) × Bars recoverable w i b) u.1)

  pub dependencies_more : (sets : List ℕ) (i t conflicting joined : ℕ) → t ≡ entry_transaction w i → t < length sets
      → Represents sets (BarsBelow commutes w i)
      → Holds conflicting (Bars commutes w i) → Members joined (λ b. has (get_or sets t 0) b || has conflicting b)
      → Represents (set sets t joined) (BarsBelow commutes w (i + 1))
  dependencies_more sets i t conflicting joined own l h c m =
      represents_same (λ a b. BarsBelow commutes w i a b ⊎ ((t ≡ a) × Bars commutes w i b))
      (BarsBelow commutes w (i + 1)) (set sets t joined)
      (represents_join (BarsBelow commutes w i) (Bars commutes w i) sets t conflicting joined h c l m)
      (λ a b. rw own (some_more (λ k. (entry_transaction w k ≡ a) × Bars commutes w k b) i))

  pub unrecoverable_more : (i u v joined : ℕ) → Holds u (Unrecoverable w i) → Holds v (Bars recoverable w i)
      → Members joined (λ b. has u b || has v b) → Holds joined (Unrecoverable w (i + 1))
  unrecoverable_more i u v joined h g m =
      holds_same (λ b. Unrecoverable w i b ⊎ Bars recoverable w i b) (Unrecoverable w (i + 1)) joined
      (holds_join (Unrecoverable w i) (Bars recoverable w i) u v joined h g m)
      (λ b.
      let more : (a : ℕ) → (BarsBelow recoverable w i a b ⊎ ((entry_transaction w i ≡ a) × Bars recoverable w i b))
      ↔ BarsBelow recoverable w (i + 1) a b =
      λ a. some_more (λ k. (entry_transaction w k ≡ a) × Bars recoverable w k b) i in (
        ⊎_elim (λ f. (f.0, (more f.0).0 (inl f.1)))
            (λ f. (entry_transaction w i, (more (entry_transaction w i)).0 (inr (refl, f)))),
        λ f. ⊎_elim (λ x. inl (f.0, x)) (λ x. inr x.1) ((more f.0).1 f.1),
      ))

  module _ (fits : EntriesFit (decode base w)) where
    pub decided : (sets : List ℕ) (u : ℕ) → Represents sets (BarsBelow commutes w (word w 0))
        → Holds u (Unrecoverable w (word w 0))
        → ((eqb u 0 ≡ true) ↔ EntriesRecoverable (decode base w))
        × Represents sets (DependsOn (decode base w).log)
    decided sets u h g =
        let recoverable = recoverable_none w fits in
        let none = holds_empty (Unrecoverable w (word w 0)) u g in (
          (λ e. recoverable.1 (none.0 (eqb-true u 0 e)), λ r. eq-eqb u 0 (none.1 (recoverable.0 r))),
          represents_same (BarsBelow commutes w (word w 0)) (DependsOn (decode base w).log) sets h (depends_bars w),
        )

    pub decided_none : (sets : List ℕ) → sets ≡ replicate 64 0 → word w 0 ≡ 0
        → ((true ≡ true) ↔ EntriesRecoverable (decode base w)) × (length sets ≡ 64)
        × Represents sets (DependsOn (decode base w).log)
    decided_none sets empty e =
        let (recoverable, represented) =
        decided sets 0
        (subst (λ (k : ℕ). Represents sets (BarsBelow commutes w k)) (sym e) (dependencies_none sets empty))
        (subst (λ (k : ℕ). Holds 0 (Unrecoverable w k)) (sym e) unrecoverable_none) in
        (recoverable, ap length empty, represented)
