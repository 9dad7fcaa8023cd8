-- What the tests of one entry say, and of all.
use Rattle.std.specs.Prelude.{ℕ, zero, suc, ◌+◌, ◌≤◌, ◌<◌, ◌≡◌, refl, true, ◌↔◌, ◌⊎◌, List, eqb, ltb, leb}
use Rattle.std.proofs.Common.{sym, ap, ◌∙◌, inl, inr, ⊎_elim, arith, eqb-true, eq-eqb, ltb-true, lt-ltb}
use Rattle.std.proofs.Math.Option.{some, none-ne-some}
use Rattle.std.proofs.lemmas.Bool.{lt-leb, le-ltb}
use Rattle.operations.proofs.Laws.Cases.{yes, no}
use Rattle.operations.specs.Operations.{Kind, kind_number, Operation, on_stack, on_set, on_table, kind_of, key_of}
use Rattle.operations.specs.Operations.{reduce_key}
use Rattle.operations.specs.Operations.{StoredKey}
use Rattle.operations.specs.PairRules.{kind_numbered}
use Rattle.operations.proofs.Laws.Numbers.{kind_numbered_lem}
use Rattle.operations.proofs.Laws.Storing.{reduced_below}
use Rattle.store.specs.Store.{Object, Live, object_of, Logged}
use Rattle.store.specs.Layout.{base, decode, word, kind_word, read_kind, object_start}
use Rattle.store.specs.Layout.{entry_start, entry_at, operation_at, AsStored}
use Rattle.store.proofs.Laws.Lists.{all_each, all_of}
use Rattle.store.proofs.Laws.Objects.{kind_read}
use Rattle.store.proofs.Laws.Reading.{live_below, object_read, kind_below}
use Rattle.entry_log.specs.Log.{EntryLive, EntryOfKind, EntryKeyReduced, EntryAdmitted, LogFits}
use Rattle.entry_log.specs.Laws.Checks.{Each}

-- ---- Kinds

kind_written : (n : ℕ) (k : Kind) → read_kind n ≡ some k → n ≡ kind_word (some k)
kind_written zero k e = absurd (none-ne-some k e)
kind_written (suc zero) k e = ap kind_word e
kind_written (suc (suc zero)) k e = ap kind_word e
kind_written (suc (suc (suc zero))) k e = ap kind_word e
kind_written (suc (suc (suc (suc n)))) k e = absurd (none-ne-some k e)

object_kind : (w : List ℕ) (o : ℕ) (k : Kind)
    → ((o < 16) × (word w (object_start o) ≡ kind_word (some k))) ↔ ((object_of (decode base w) o).kind ≡ some k)
object_kind w o k = (
  λ p. ap (λ (x : Object). x.kind) (object_read base w o p.0) ∙ ap read_kind p.1 ∙ kind_read (some k),
  λ e.
      let l : o < 16 = kind_below base w o k e in
      (l, kind_written (word w (object_start o)) k (sym (ap (λ (x : Object). x.kind) (object_read base w o l)) ∙ e)),
)

-- ---- Keys

stored_key : (o : Operation) → ((kind_word (some (kind_of o)) ≡ 1) ⊎ (key_of o < 16_777_216)) ↔ StoredKey reduce_key o
stored_key (on_stack o) = (λ p. tt, λ s. inl refl)
stored_key (on_set o) =
    (⊎_elim (λ e. absurd (omega arith)) (λ l. (reduced_below _).0 l), λ s. inr ((reduced_below _).1 s))
stored_key (on_table o) =
    (⊎_elim (λ e. absurd (omega arith)) (λ l. (reduced_below _).0 l), λ s. inr ((reduced_below _).1 s))

-- ---- One entry

module _ (w : List ℕ) (i : ℕ) where
  pub live_past : (t : ℕ) → t ≡ word w (entry_start i) → 64 ≤ t → (leb t 63 ≡ true) ↔ EntryLive w i
  live_past t e l = no (lt-leb t 63 l) (λ live. omega (arith, live_below base w (word w (entry_start i)) live))

  pub kind_past : (o : ℕ) → o ≡ word w (entry_start i + 1) → 16 ≤ o → (ltb o 16 ≡ true) ↔ EntryOfKind w i
  kind_past o e l =
      no (le-ltb o 16 l)
      (λ k. omega (arith, kind_below base w (word w (entry_start i + 1)) (kind_of (operation_at w i)) k))

  module _ (stored : AsStored w i) (n kind : ℕ) (number : n ≡ word w (entry_start i + 2))
      (by : kind ≡ kind_number (kind_numbered n)) where
    kind_stored : kind ≡ kind_word (some (kind_of (operation_at w i)))
    kind_stored =
        by ∙ ap (λ (m : ℕ). kind_number (kind_numbered m)) (number ∙ sym stored.0)
        ∙ ap kind_number (kind_numbered_lem (operation_at w i))

    pub kind_tested : (o x : ℕ) → o ≡ word w (entry_start i + 1) → o < 16 → x ≡ word w (object_start o)
        → (eqb x kind ≡ true) ↔ EntryOfKind w i
    kind_tested o x e m r =
        let h = object_kind w o (kind_of (operation_at w i)) in
        rw (← e)
        (λ q. h.0 (m, sym r ∙ eqb-true x kind q ∙ kind_stored), λ p. eq-eqb x kind (r ∙ (h.1 p).1 ∙ sym kind_stored))

    pub no_key : kind ≡ 1 → (true ≡ true) ↔ EntryKeyReduced w i
    no_key e = yes refl ((stored_key (operation_at w i)).0 (inl (sym kind_stored ∙ e)))

    pub key_tested : (k : ℕ) → k ≡ word w (entry_start i + 3) → (kind ≡ 1 → ⊥)
        → (ltb k 16_777_216 ≡ true) ↔ EntryKeyReduced w i
    key_tested k e other =
        let o = operation_at w i in
        let same : k ≡ key_of o = e ∙ sym stored.1 in (
          λ q. (stored_key o).0 (inr (rw same at (ltb-true k 16_777_216 q))),
          λ s.
              ⊎_elim (λ q. absurd (other (kind_stored ∙ q))) (λ m. lt-ltb k 16_777_216 (rw same m))
              ((stored_key o).1 s),
        )

-- ---- All entries

pub each_fits : (w : List ℕ) (n : ℕ) → n ≡ word w 0 → Each (EntryAdmitted w) n ↔ LogFits w
each_fits w n counted =
    let s = decode base w in
    let Alive : Logged → Type 0 = λ (l : Logged). Live s l.entry.transaction in
    let Kinded : Logged → Type 0 = λ (l : Logged). (object_of s l.object).kind ≡ some (kind_of l.entry.operation) in
    let Keyed : Logged → Type 0 = λ (l : Logged). StoredKey reduce_key l.entry.operation in
    rw counted (
      λ each.
          record {
            as_stored = λ i l. (each i l).0;
            live = all_of Alive (word w 0) (entry_at w) (λ i l. (each i l).1);
            fits = all_of Kinded (word w 0) (entry_at w) (λ i l. (each i l).2);
            reduced = all_of Keyed (word w 0) (entry_at w) (λ i l. (each i l).3);
          },
      λ p i l. (
        p.as_stored i l,
        all_each Alive (word w 0) (entry_at w) p.live i l,
        all_each Kinded (word w 0) (entry_at w) p.fits i l,
        all_each Keyed (word w 0) (entry_at w) p.reduced i l,
      ),
    )
