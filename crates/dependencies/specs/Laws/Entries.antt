-- The definitions of the store, said by index of the log's entries.
use Prim.Native.Nat.{ℕ, zero, suc, ◌<◌}
use Rattle.std.specs.Prelude.{◌≡◌, refl, Bool, true, false, ◌↔◌, List}
use Rattle.std.proofs.Common.{sym, subst₂, ◌∙◌, true≢false, not-suc-le-zero, zero-lt-suc, arith, eq-eqb, eqb-true}
use Rattle.std.proofs.Math.Dec.{eqb}
use Rattle.operations.specs.Operations.{Kind, Operation, Answer, kind_of, All}
use Rattle.operations.specs.Log.{Entry, Recovers, Recoverable}
use Rattle.operations.specs.PairRules.{recoverable, commutes}
use Rattle.operations.proofs.Laws.Cases.{split}
use Rattle.store.specs.Store.{Logged, on_object}
use Rattle.store.specs.Dependency.{Conflict, DependsOn}
use Rattle.store.specs.Layout.{word, tabulate, entry_at, operation_at, base, decode}
use Rattle.store.specs.Soundness.{EntriesFit, EntriesRecoverable}
use Rattle.store.proofs.Laws.Lists.{follows_some, follows_of, PairBelow}
use Rattle.representatives.specs.Representatives.{entry_transaction, entry_object}
use Rattle.representatives.specs.Laws.Reading.{of_kind_lem}
use Rattle.dependencies.specs.Dependencies.{Fails, BarsBelow, Unrecoverable}

-- ---- Entries of one object

module _ (o : ℕ) where
  all_on : (P : Entry Operation Answer → Type 0) (n : ℕ) (f : ℕ → Logged) → All P (on_object o (tabulate n f))
      → (i : ℕ) → i < n → (f i).object ≡ o → P (f i).entry
  unfolding tabulate
  all_on P zero f p i l e = absurd (not-suc-le-zero l)
  all_on P (suc n) f p zero l e = (rw (eq-eqb (f 0).object o e) at p).0
  all_on P (suc n) f p (suc i) l e =
      split (eqb (f 0).object o)
      (λ (t : eqb (f 0).object o ≡ true). all_on P n (λ j. f (suc j)) (rw t at p).1 i (omega arith) e)
      (λ (t : eqb (f 0).object o ≡ false). all_on P n (λ j. f (suc j)) (rw t at p) i (omega arith) e)

  on_all : (P : Entry Operation Answer → Type 0) (n : ℕ) (f : ℕ → Logged)
      → ((i : ℕ) → i < n → (f i).object ≡ o → P (f i).entry)
      → All P (on_object o (tabulate n f))
  unfolding tabulate
  on_all P zero f h = tt
  on_all P (suc n) f h =
      let rest : All P (on_object o (tabulate n (λ j. f (suc j)))) = on_all P n (λ j. f (suc j))
      (λ i l. h (suc i) (omega arith)) in
      split (eqb (f 0).object o)
      (λ (t : eqb (f 0).object o ≡ true). rw t (h 0 (zero-lt-suc n) (eqb-true (f 0).object o t), rest))
      (λ (t : eqb (f 0).object o ≡ false). rw t rest)

  module _ (kind : Kind) where
    recoverable_each : (n : ℕ) (f : ℕ → Logged) → Recoverable recoverable (on_object o (tabulate n f))
        → (j i : ℕ) → j < i → i < n → (f j).object ≡ o → (f i).object ≡ o
        → Recovers recoverable (f j).entry (f i).entry
    unfolding tabulate
    recoverable_each zero f p j i l m d e = absurd (not-suc-le-zero m)
    recoverable_each (suc n) f p j zero l m d e = absurd (not-suc-le-zero l)
    recoverable_each (suc n) f p zero (suc i) l m d e =
        all_on (Recovers recoverable (f 0).entry) n (λ j. f (suc j))
        (rw (eq-eqb (f 0).object o d) at p).0 i (omega arith) e
    recoverable_each (suc n) f p (suc j) (suc i) l m d e =
        split (eqb (f 0).object o)
        (λ (t : eqb (f 0).object o ≡ true).
        recoverable_each n (λ k. f (suc k)) (rw t at p).1 j i (omega arith) (omega arith) d e)
        (λ (t : eqb (f 0).object o ≡ false).
        recoverable_each n (λ k. f (suc k)) (rw t at p) j i (omega arith) (omega arith) d e)

    recoverable_of : (n : ℕ) (f : ℕ → Logged)
        → ((j i : ℕ) → j < i → i < n → (f j).object ≡ o → (f i).object ≡ o
        → Recovers recoverable (f j).entry (f i).entry)
        → Recoverable recoverable (on_object o (tabulate n f))
    unfolding tabulate
    recoverable_of zero f h = tt
    recoverable_of (suc n) f h =
        let rest : Recoverable recoverable (on_object o (tabulate n (λ j. f (suc j)))) =
        recoverable_of n (λ j. f (suc j)) (λ j i l m. h (suc j) (suc i) (omega arith) (omega arith)) in
        split (eqb (f 0).object o)
        (λ (t : eqb (f 0).object o ≡ true).
        rw t (
          on_all (Recovers recoverable (f 0).entry) n (λ j. f (suc j))
              (λ i m e. h 0 (suc i) (zero-lt-suc i) (omega arith) (eqb-true (f 0).object o t) e),
          rest,
        ))
        (λ (t : eqb (f 0).object o ≡ false). rw t rest)

-- ---- The clauses

against : (related : Operation → Operation → Bool) (w : List ℕ) (n j i : ℕ) → j < i → i < n → Fails related w i j
    → BarsBelow related w n (entry_transaction w i) (entry_transaction w j)
against related w n j i l m f = (i, m, (refl, (j, l, (refl, f))))

module _ (w : List ℕ) where
  pub recoverable_none : EntriesFit (decode base w)
      → EntriesRecoverable (decode base w) ↔ ((b : ℕ) → Unrecoverable w (word w 0) b → ⊥)
  recoverable_none fits = (there, back)
    where
      there : EntriesRecoverable (decode base w) → (b : ℕ) → Unrecoverable w (word w 0) b → ⊥
      there h b (a, (i, m, (p, (j, l, (q, f))))) =
          true≢false
          (sym (recoverable_each (entry_object w i) (kind_of (operation_at w i)) (word w 0) (entry_at w)
          (h (entry_object w i) (kind_of (operation_at w i)) (of_kind_lem w fits i m))
          j i l m f.object refl (λ e. f.other (sym e))) ∙ f.fails)

      back : ((b : ℕ) → Unrecoverable w (word w 0) b → ⊥) → EntriesRecoverable (decode base w)
      back h o kind e =
          recoverable_of o kind (word w 0) (entry_at w)
          (λ j i l m d f other.
          split (recoverable (operation_at w i) (operation_at w j))
          (λ (t : recoverable (operation_at w i) (operation_at w j) ≡ true). t)
          (λ (t : recoverable (operation_at w i) (operation_at w j) ≡ false).
          absurd
          (h (entry_transaction w j) (
            entry_transaction w i,
            against recoverable w (word w 0) j i l m
                (record { object = d ∙ sym f; other = λ q. other (sym q); fails = t }),
          ))))

  pub depends_bars : (a b : ℕ) → BarsBelow commutes w (word w 0) a b ↔ DependsOn (decode base w).log a b
  depends_bars a b = (there, λ d. back d.0 (follows_some (Conflict a b) (word w 0) (entry_at w) d.1))
    where
      there : BarsBelow commutes w (word w 0) a b → DependsOn (decode base w).log a b
      there (i, m, (p, (j, l, (q, f)))) = (
        λ e. f.other (q ∙ (sym e ∙ sym p)),
        follows_of (Conflict a b) (word w 0) (entry_at w) j i l m (p, q, sym f.object, f.fails),
      )

      back : (a ≡ b → ⊥) → PairBelow (Conflict a b) (word w 0) (entry_at w) → BarsBelow commutes w (word w 0) a b
      back ne (j, i, l, m, (p, q, o, f)) =
          subst₂ (BarsBelow commutes w (word w 0)) p q
          (against commutes w (word w 0) j i l m
          (record { object = sym o; other = λ e. ne (sym p ∙ (sym e ∙ q)); fails = f }))
