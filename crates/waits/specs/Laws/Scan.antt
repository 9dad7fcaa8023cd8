-- The scan of the log for whom a request waits.
use Rattle.std.specs.Prelude.{ℕ, ◌+◌, ◌≤◌, ◌<◌, ◌≡◌, refl, Bool, true, false, cond, ◌||◌, List, ◌∷◌, eqb}
use Rattle.std.proofs.Common.{sym, ap, ap₂, ◌∙◌, arith, eq-eqb, ne_eqb}
use Rattle.std.proofs.Math.Bool.{or-false, or_assoc}
use Rattle.std.proofs.Math.Option.{some, some-injective}
use Rattle.operations.specs.Operations as model
use Rattle.operations.specs.declared.Operation.{Operation}
use Rattle.operations.specs.PairRules.{recoverable}
use Rattle.operations.proofs.Laws.Cases.{split}
use Rattle.operations.specs.Log.{Entry}
use Rattle.bitset.specs.Bitset.{has, Members, including}
use Rattle.bitset.specs.Laws.{included, no_member, same_members}
use Rattle.store.specs.Store.{Logged, Live, object_of, on_object}
use Rattle.store.specs.Layout.{word, decode, entry_start, entry_at, operation_at, base}
use Rattle.store.proofs.Laws.Lists.{all_each}
use Rattle.store.proofs.Laws.Entries.{entries_from, log_here, entries_end}
use Rattle.store.proofs.Laws.Reading.{live_below}
use Rattle.entry_log.specs.Log.{StoredAs}
use Rattle.protocol.specs.Calls.{owners}
use Rattle.waits.specs.Waits.{Asked}
use Rattle.waits.specs.Laws.Rules.{one_named, Pair}

-- Scanned up to entry i: all whom the request waits for are in the set, or owners of entries from there on.
pub record Scanning (w : List ℕ) (t object : ℕ) (requested : Operation) (set i : ℕ) : Type 0 where
  pub within : i ≤ word w 0
  pub left : (o : model.Operation) → StoredAs requested o
      → Members (owners t o (entries_from w object 0)) (λ h. has set h || has (owners t o (entries_from w object i)) h)

pub scan_start : (w : List ℕ) (t object : ℕ) (requested : Operation) → Scanning w t object requested 0 0
scan_start w t object requested =
    record {
      within = omega arith;
      left = λ o s h. sym (ap (λ (b : Bool). b || has (owners t o (entries_from w object 0)) h) (no_member h));
    }

pub scan_end : (w : List ℕ) (t object : ℕ) (requested : Operation) (set i : ℕ)
    → Scanning w t object requested set i → word w 0 ≤ i
    → (o : model.Operation) → StoredAs requested o → set ≡ owners t o (on_object object (decode base w).log)
scan_end w t object requested set i s l o a =
    same_members set (owners t o (entries_from w object 0)) (λ h.
    sym (s.left o a h
    ∙ ap (λ (es : List (Entry model.Operation model.Answer)). has set h || has (owners t o es) h)
    (entries_end w i object l)
    ∙ ap (λ (b : Bool). has set h || b) (no_member h) ∙ or-false (has set h)))

-- ---- At an entry

pub record AtEntry (w : List ℕ) (t object : ℕ) (requested : Operation) (set i owner on : ℕ) : Type 0 where
  pub asked : Asked w object requested
  pub state : Scanning w t object requested set i
  pub inside : i < word w 0
  pub owned : owner ≡ word w (entry_start i)
  pub placed : on ≡ word w (entry_start i + 1)

-- What the code has read there.
pub at_entry : {w : List ℕ} {t object : ℕ} {requested : Operation} {set i entries owner on : ℕ}
    → Asked w object requested → Scanning w t object requested set i → (i ≡ entries → ⊥) → entries ≡ word w 0
    → owner ≡ word w (entry_start i) → on ≡ word w (entry_start i + 1) → AtEntry w t object requested set i owner on
at_entry asked state other counted owned placed =
    record {
      asked = asked;
      state = state;
      inside = omega (arith, state.within);
      owned = owned;
      placed = placed;
    }

module _ {w : List ℕ} {t object : ℕ} {requested : Operation} {set i owner on : ℕ}
    (at : AtEntry w t object requested set i owner on) where
  -- The owners from here on, and past the entry.
  abbrev here : model.Operation → ℕ
  here o = owners t o (entries_from w object i)

  abbrev past : model.Operation → ℕ
  past o = owners t o (entries_from w object (i + 1))

  -- The entry is passed or adds its owner, by the tests of its object and of its owner.
  told : (o : model.Operation) (of own : Bool) → eqb on object ≡ of
      → (eqb owner t || recoverable o (operation_at w i)) ≡ own
      → here o ≡ cond of (cond own (past o) (including owner (past o))) (past o)
  told o of own h b =
      ap (λ l. owners t o (on_object object l)) (log_here w i at.inside)
      ∙ ap (λ (c : Bool). owners t o
      (cond c ((entry_at w i).entry ∷ entries_from w object (i + 1)) (entries_from w object (i + 1))))
      (ap (λ (m : ℕ). eqb m object) (sym at.placed) ∙ h)
      ∙ by of
    where
      by : (c : Bool) → owners t o
          (cond c ((entry_at w i).entry ∷ entries_from w object (i + 1)) (entries_from w object (i + 1)))
          ≡ cond c (cond own (past o) (including owner (past o))) (past o)
      by true =
          ap₂ (λ (c : Bool) (m : ℕ). cond c (past o) (including m (past o)))
          (ap (λ (m : ℕ). eqb m t || recoverable o (operation_at w i)) (sym at.owned) ∙ b) (sym at.owned)
      by false = refl

  passed : ((o : model.Operation) → StoredAs requested o → here o ≡ past o)
      → Scanning w t object requested set (i + 1)
  passed e =
      record {
        within = omega (arith, at.inside);
        left = λ o s h. at.state.left o s h ∙ ap (λ (x : ℕ). has set h || has x h) (e o s);
      }

  -- Its own entries and those of other objects don't count.
  pub pass_own : owner ≡ t → Scanning w t object requested set (i + 1)
  pass_own e =
      passed (λ o s.
      let own : (eqb owner t || recoverable o (operation_at w i)) ≡ true =
      ap (λ (b : Bool). b || recoverable o (operation_at w i)) (eq-eqb owner t e) in
      split (eqb on object) (λ (h : eqb on object ≡ true). told o true true h own)
      (λ (h : eqb on object ≡ false). told o false true h own))

  pub pass_other : (on ≡ object → ⊥) → Scanning w t object requested set (i + 1)
  pass_other n = passed (λ o s. told o false (eqb owner t || recoverable o (operation_at w i))
      (ne_eqb on object n) refl)

  -- Who owns an entry is live, and so below 64.
  pub owner_below : owner < 64
  owner_below =
      let live = all_each (λ (l : Logged). Live (decode base w) l.entry.transaction) (word w 0) (entry_at w)
      at.asked.live i at.inside in
      omega (arith, at.owned, live_below base w (word w (entry_start i)) live)

  module _ (n : owner ≡ t → ⊥) (e : on ≡ object) where
    pub pass_recoverable : ((o : model.Operation) → StoredAs requested o → recoverable o (operation_at w i) ≡ true)
        → Scanning w t object requested set (i + 1)
    pass_recoverable r = passed (λ o s. told o true true (eq-eqb on object e) (ap₂ ◌||◌ (ne_eqb owner t n) (r o s)))

    -- An entry that forces the wait adds its owner.
    pub add_owner : ((o : model.Operation) → StoredAs requested o → recoverable o (operation_at w i) ≡ false)
        → (one more : ℕ) → Members one (λ h. eqb h owner) → Members more (λ h. has set h || has one h)
        → Scanning w t object requested more (i + 1)
    add_owner r one more single union =
        record {
          within = omega (arith, at.inside);
          left = λ o s h.
              at.state.left o s h
              ∙ ap (λ (x : ℕ). has set h || has x h)
              (told o true false (eq-eqb on object e) (ap₂ ◌||◌ (ne_eqb owner t n) (r o s)))
              ∙ ap (λ (b : Bool). has set h || b)
              (included owner (past o) h ∙ ap (λ (b : Bool). b || has (past o) h) (sym (single h)))
              ∙ sym (or_assoc (has set h) (has one h) (has (past o) h))
              ∙ ap (λ (b : Bool). b || has (past o) h) (sym (union h));
        }

  -- The two operations are of the object's kind.
  pub paired : on ≡ object → (logged : Operation)
      → (logged.number ≡ word w (entry_start i + 2)) × (logged.key ≡ word w (entry_start i + 3))
      × (logged.value ≡ word w (entry_start i + 4))
      → (o : model.Operation) → StoredAs requested o → Pair requested logged o (operation_at w i)
  paired e logged words o s =
      let st = at.asked.packed.log.as_stored i at.inside in
      let (p, q, asked) = at.asked.kinded in
      let fits = all_each (λ (l : Logged).
      (object_of (decode base w) l.object).kind ≡ some (model.kind_of l.entry.operation)) (word w 0) (entry_at w)
      at.asked.fits i at.inside in
      record {
        requested_as = s;
        logged_as = (words.0 ∙ sym st.0, words.1 ∙ sym st.1, words.2 ∙ sym st.2);
        alike = some-injective (model.kind_of (operation_at w i)) (model.kind_of o)
            (sym (ap (λ (m : ℕ). (object_of (decode base w) m).kind) (sym e ∙ at.placed) ∙ fits) ∙ asked
            ∙ ap (λ (r : model.Operation). some (model.kind_of r)) (one_named requested p o q s));
      }
