-- A transaction ends, by abort or by commit: what is left is sound but for those that may now be ready, and a book can
-- hold it.
use Rattle.std.specs.Prelude.{ℕ, ◌+◌, ◌≤◌, ◌<◌, ◌≡◌, refl, Bool, true, false, ◌↔◌, List, [], ◌∷◌, eqb, length, get_or}
use Rattle.std.proofs.Common.{sym, ap, ◌∙◌, subst, le_refl, arith, eqb-true}
use Rattle.std.proofs.Math.Option.{some, some-injective}
use Rattle.std.proofs.Math.ListN.{get_or-eq_default}
use Rattle.operations.specs.Operations.{Kind, Stack, Row, Answer, Operation, kind_of, reduce_key, next, WellFormed, All}
use Rattle.operations.specs.Operations.{answer}
use Rattle.operations.specs.Operations.{StoredKey}
use Rattle.operations.specs.Log.{Entry, Recovers, Recoverable, Answered, only, one, others}
use Rattle.operations.proofs.Laws.ObjectTypes.{ObjectType, EntryFits}
use Rattle.operations.specs.Log.{after}
use Rattle.operations.proofs.Theorems.{dropping, committing}
use Rattle.operations.proofs.Laws.Cases.{split, same, all_filter}
use Rattle.operations.proofs.Laws.Objects.{object, valid_next}
use Rattle.operations.proofs.Laws.Tables.{differ}
use Rattle.store.specs.Store.{Status, absent, active, pseudo_committed, Object, no_object, Logged, Store, status_of}
use Rattle.store.specs.Store.{object_of, Live, Active, PseudoCommitted, on_object}
use Rattle.store.specs.Dependency.{DependsOn, Ready}
use Rattle.store.specs.Layout.{Representable, additions, base}
use Rattle.store.specs.Soundness.{EntriesLive, EntriesFit, OnceEach, WithoutGaps, Acyclic, Unsettled}
use Rattle.store.specs.Steps.{without, dropped, with_status, lowered}
use Rattle.store.proofs.Theorems.{depends_on_nobody}
use Rattle.store.proofs.Laws.Statuses.{absent_inactive, absent_unranked, active_unranked, kind_within}
use Rattle.store.proofs.Laws.Capacity.{grows, additions_first}
use Rattle.store.proofs.Laws.Changes.{status_other, status_removed, status_closed, on_picked, representable_status}
use Rattle.store.proofs.Laws.Changes.{representable_closed, representable_dropped}
use Rattle.store.proofs.Laws.Edges.{depends_without}
use Rattle.store.proofs.Laws.Ways.{way_monotone}
use Rattle.store.proofs.Laws.Words.{below}
use Rattle.protocol.specs.Ending.{carried_out, ended, commit}
use Rattle.protocol.proofs.Laws.Ranks.{SameOrder, closed_any, ended_order, ended_once, ended_gapless}
use Rattle.protocol.proofs.Laws.Carrying.{carried_status, carried_log, carried_kind, carried_objects, carried_rows}
use Rattle.protocol.proofs.Laws.Carrying.{carried_representable}
use mathlib.Core.Logic.Iff

-- ---- Some of one object's entries

module _ (picked : ℕ → Bool) where
  abbrev Entries : Type 0
  Entries = List (Entry Operation Answer)

  module _ (reduce : ℕ → ℕ) (kind : Kind) where
    abbrev X : ObjectType
    X = object reduce kind

    recoverable_only : (l : Entries) → Recoverable X.recoverable l → Recoverable X.recoverable (only picked l)
    recoverable_only [] r = tt
    recoverable_only (e ∷ l) r =
        let rest = recoverable_only l r.1 in
        split (picked e.transaction) (λ (k : picked e.transaction ≡ true).
        rw k (all_filter {Q = Recovers X.recoverable e} (λ x h q. h) l r.0, rest))
        (λ (k : picked e.transaction ≡ false). rw k rest)

  -- Additions are those of the picked and those of the others.
  pub additions_parted : (l : Entries) → additions (only picked l) + additions (only (others picked) l) ≡ additions l
  additions_parted [] = refl
  additions_parted (e ∷ l) =
      let whole = additions_first e l in
      let rest = additions_parted l in
      split (picked e.transaction) (λ (k : picked e.transaction ≡ true).
      rw k (omega (arith, additions_first e (only picked l), whole, rest)))
      (λ (k : picked e.transaction ≡ false). rw k
      (omega (arith, additions_first e (only (others picked) l), whole, rest)))

module _ (reduce : ℕ → ℕ) (kind : Kind) where
  after_formed : (l : List (Entry Operation Answer)) (rs : List Row) → All (EntryFits (object reduce kind)) l
      → WellFormed reduce kind rs
      → WellFormed reduce kind (after next l rs)
  after_formed [] rs f v = v
  after_formed (e ∷ l) rs f v =
      after_formed l (next e.operation rs) f.1 (valid_next reduce kind e.operation rs f.0 v)

  pub after_grows : (l : List (Entry Operation Answer)) (rs : List Row)
      → length (after next l rs) ≤ length rs + additions l
  after_grows [] rs = omega arith
  after_grows (e ∷ l) rs =
      omega (arith, grows e.operation rs, after_grows l (next e.operation rs), additions_first e l)

abbrev FitsObject : Store → Logged → Type 0
FitsObject s l = (object_of s l.object).kind ≡ some (kind_of l.entry.operation)

-- An object's entries fit its kind.
module _ (s : Store) (o : ℕ) (kind : Kind) (e : (object_of s o).kind ≡ some kind) where
  pub entries_fit : (log : List Logged) → All (FitsObject s) log
      → All (λ (l : Logged). StoredKey reduce_key l.entry.operation) log
      → All (EntryFits (object reduce_key kind)) (on_object o log)
  entries_fit [] f r = tt
  entries_fit (l ∷ log) f r =
      split (eqb l.object o) (λ (b : eqb l.object o ≡ true).
      rw b ((its_kind (eqb-true l.object o b), r.0), entries_fit log f.1 r.1))
      (λ (b : eqb l.object o ≡ false). rw b (entries_fit log f.1 r.1))
    where
      its_kind : l.object ≡ o → kind_of l.entry.operation ≡ kind
      its_kind q = some-injective _ _ (sym f.0 ∙ ap (λ (x : ℕ). (object_of s x).kind) q ∙ e)

-- ---- What is left of objects, log and statuses

module _ (s : Store) (t : ℕ) where
  abbrev removed : Store
  removed = with_status t absent (dropped t s)

  pub ended_objects : (ended t s).objects ≡ s.objects
  ended_objects = closed_any (λ (x : Store). x.objects ≡ s.objects) removed refl (λ out. refl) (status_of s t)

  ended_log : (ended t s).log ≡ without t s.log
  ended_log = closed_any (λ (x : Store). x.log ≡ without t s.log) removed refl (λ out. refl) (status_of s t)

  pub ended_representable : Representable base s → Representable base (ended t s)
  ended_representable r =
      let fits = representable_status (dropped t s) (representable_dropped s r t) t absent in
      closed_any (Representable base) removed fits (representable_closed removed fits) (status_of s t)

  -- What is said of a status whatever its rank, and not of an absent one, is said of those that it was said of and that
  -- have not ended.
  module _ (P : Status → Type 0) (any-rank : (out : ℕ) (x : Status) → P (lowered out x) ↔ P x) (present : P absent → ⊥)
      (u : ℕ) where
    others_status : P (status_of removed u) ↔ ((u ≡ t → ⊥) × P (status_of s u))
    others_status = (
      λ p. same u t
          (λ (e : u ≡ t). absurd (present (subst P (ap (status_of removed) e ∙ status_removed (dropped t s) t) p)))
          (λ (other : u ≡ t → ⊥). (other, subst P (status_other (dropped t s) t absent u other) p)),
      λ p. subst P (sym (status_other (dropped t s) t absent u p.0)) p.1,
    )

    ended_status : P (status_of (ended t s) u) ↔ ((u ≡ t → ⊥) × P (status_of s u))
    ended_status =
        Iff.trans
        (closed_any (λ (x : Store). P (status_of x u) ↔ P (status_of removed u)) removed Iff.rfl
        (λ out. subst (λ (x : Status). P x ↔ P (status_of removed u)) (sym (status_closed removed out u))
        (any-rank out (status_of removed u))) (status_of s t))
        others_status

-- ---- What a commit leaves

module _ (s : Store) (t : ℕ) where
  -- The store once its entries are carried in.
  abbrev carried_in : Store
  carried_in = carried_out t s.log s

  pub commit_rows : (kind : Kind) (o : ℕ) → o < length s.objects
      → (object_of (commit t s) o).rows
      ≡ after next (only (one t) (on_object o s.log)) (object_of s o).rows
  commit_rows kind o within =
      ap (λ (xs : List Object). (get_or xs o no_object).rows) (ended_objects carried_in t)
      ∙ carried_rows reduce_key kind t o s.log s within

  -- Rows of any kind grow so.
  commit_grown : (o : ℕ)
      → length (object_of (commit t s) o).rows
      ≤ length (object_of s o).rows + additions (only (one t) (on_object o s.log))
  commit_grown o =
      below o (length s.objects)
      (λ (within : o < length s.objects).
      rw (commit_rows Stack o within)
      (after_grows reduce_key Stack (only (one t) (on_object o s.log)) (object_of s o).rows))
      (λ (past : length s.objects ≤ o).
      let none : object_of carried_in o ≡ no_object =
      get_or-eq_default carried_in.objects no_object (omega (arith, carried_objects t s.log s)) in
      rw (ended_objects carried_in t, none) (omega arith))

  pub commit_representable : Representable base s → Unsettled base s → Representable base (commit t s)
  commit_representable r u = ended_representable carried_in t (carried_representable s t r u.fits u.room)

-- ---- What either leaves

lowered_live : (out : ℕ) (x : Status) → (lowered out x ≡ absent → ⊥) ↔ (x ≡ absent → ⊥)
lowered_live out absent = Iff.rfl
lowered_live out active = Iff.rfl
lowered_live out (pseudo_committed rank) = (λ n e. absent_unranked rank (sym e), λ n e. absent_unranked _ (sym e))

lowered_active : (out : ℕ) (x : Status) → (lowered out x ≡ active) ↔ (x ≡ active)
lowered_active out absent = Iff.rfl
lowered_active out active = Iff.rfl
lowered_active out (pseudo_committed rank) =
    (λ e. absurd (active_unranked _ (sym e)), λ e. absurd (active_unranked _ (sym e)))

abbrev Ranked : Status → Type 0
Ranked x = (rank : ℕ) × (x ≡ pseudo_committed rank)

lowered_ranked : (out : ℕ) (x : Status) → Ranked (lowered out x) ↔ Ranked x
lowered_ranked out absent = Iff.rfl
lowered_ranked out active = Iff.rfl
lowered_ranked out (pseudo_committed rank) = (λ p. (rank, refl), λ p. (_, refl))

-- A store that the transaction leaves when it ends, by abort or by commit: without its entries, and the others live,
-- active or pseudo-committed as before.
pub record Left (s : Store) (t : ℕ) (x : Store) : Type 0 where
  pub log : x.log ≡ without t s.log
  pub kinds : (o : ℕ) → (object_of x o).kind ≡ (object_of s o).kind
  pub live : (u : ℕ) → Live x u ↔ ((u ≡ t → ⊥) × Live s u)
  pub active : (u : ℕ) → Active x u ↔ ((u ≡ t → ⊥) × Active s u)
  pub pseudo_committed : (u : ℕ) → PseudoCommitted x u ↔ ((u ≡ t → ⊥) × PseudoCommitted s u)

module _ (s : Store) (t : ℕ) where
  pub ended_left : Left s t (ended t s)
  ended_left =
      record {
        log = ended_log s t;
        kinds = λ o. ap (λ (xs : List Object). (get_or xs o no_object).kind) (ended_objects s t);
        live = ended_status s t (λ (x : Status). x ≡ absent → ⊥) lowered_live (λ n. n refl);
        active = ended_status s t (λ (x : Status). x ≡ active) lowered_active absent_inactive;
        pseudo_committed = ended_status s t Ranked lowered_ranked (λ p. absent_unranked p.0 p.1);
      }

pub commit_left : (s : Store) (t : ℕ) → Left s t (commit t s)
commit_left s t =
    let l = ended_left (carried_in s t) t in
    record {
      log = l.log ∙ ap (without t) (carried_log t s.log s);
      kinds = λ o. l.kinds o ∙ carried_kind t s.log s o;
      live = λ u. as_before (λ (x : Status). x ≡ absent → ⊥) u (l.live u);
      active = λ u. as_before (λ (x : Status). x ≡ active) u (l.active u);
      pseudo_committed = λ u. as_before Ranked u (l.pseudo_committed u);
    }
  where
    as_before : (P : Status → Type 0) (u : ℕ) → P (status_of (commit t s) u)
        ↔ ((u ≡ t → ⊥) × P (status_of (carried_in s t) u))
        → P (status_of (commit t s) u) ↔ ((u ≡ t → ⊥) × P (status_of s u))
    as_before P u =
        subst (λ (x : Status). P (status_of (commit t s) u) ↔ ((u ≡ t → ⊥) × P x)) (carried_status t s.log s u)

module _ (s : Store) (t : ℕ) (once : OnceEach s) where
  carried_once : OnceEach (carried_in s t)
  carried_once a b rank e f =
      let status = carried_status t s.log s in
      once a b rank (sym (status a) ∙ e) (sym (status b) ∙ f)

  pub commit_order : SameOrder s (commit t s)
  commit_order u v p q i j e f =
      let status = carried_status t s.log s in
      ended_order (carried_in s t) t carried_once u v p q i j (status u ∙ e) (status v ∙ f)

-- ---- Soundness of what is left

module _ (s : Store) (t : ℕ) (x : Store) (left : Left s t x) where
  pub depends_left : (a b : ℕ) → DependsOn x.log a b ↔ (DependsOn s.log a b × (a ≡ t → ⊥) × (b ≡ t → ⊥))
  depends_left a b = rw left.log (depends_without t a b s.log)

module _ (s : Store) (t : ℕ) (x : Store) (left : Left s t x) (u : Unsettled base s) where
  on_left : (o : ℕ) → on_object o x.log ≡ only (others (one t)) (on_object o s.log)
  on_left o = ap (on_object o) left.log ∙ on_picked (others (one t)) o s.log

  left_live : EntriesLive x
  left_live =
      rw left.log
      (all_filter {Q = λ (l : Logged). Live x l.entry.transaction}
      (λ (l : Logged) (h : Live s l.entry.transaction) k.
      (left.live l.entry.transaction).1 (differ l.entry.transaction t k, h)) s.log u.live)

  left_fits : EntriesFit x
  left_fits =
      rw left.log (all_filter {Q = FitsObject x} (λ (l : Logged) (e : FitsObject s l) k. left.kinds l.object ∙ e)
      s.log u.fits)

  left_acyclic : Acyclic x
  left_acyclic h p way =
      let before : (c : ℕ) → PseudoCommitted x c → PseudoCommitted s c = λ c q. ((left.pseudo_committed c).0 q).1 in
      u.acyclic h (before h p)
      (way_monotone (DependsOn x.log) (DependsOn s.log) (PseudoCommitted x) (PseudoCommitted s)
      (λ a b d. ((depends_left s t x left a b).0 d).0) before
      64 64 (le_refl 64) h h way)

  -- Where its rows are formed, give those left their answers, and grew by no more than the transaction added, the store
  -- is sound but for the ready.
  left_unsettled : ((o : ℕ) (kind : Kind) → (object_of s o).kind ≡ some kind
      → WellFormed reduce_key kind (object_of x o).rows
      × Answered next answer (only (others (one t)) (on_object o s.log)) (object_of x o).rows)
      → ((o : ℕ) → length (object_of x o).rows
      ≤ length (object_of s o).rows + additions (only (one t) (on_object o s.log)))
      → OnceEach x → WithoutGaps x → Unsettled base x
  left_unsettled objects grown once gapless =
      record {
        rows = λ o kind e. (objects o kind (sym (left.kinds o) ∙ e)).0;
        live = left_live;
        fits = left_fits;
        reduced = rw left.log (all_filter {Q = λ (l : Logged). StoredKey reduce_key l.entry.operation}
            (λ l r k. r) s.log u.reduced);
        recoverable =
            λ o kind e.
            rw (on_left o) (recoverable_only (others (one t)) reduce_key kind (on_object o s.log)
            (u.recoverable o kind (sym (left.kinds o) ∙ e)));
        answered = λ o kind e. rw (on_left o) (objects o kind (sym (left.kinds o) ∙ e)).1;
        room = λ o. rw (on_left o) (omega (arith, u.room o, grown o, additions_parted (one t) (on_object o s.log)));
        once = once;
        gapless = gapless;
        acyclic = left_acyclic;
      }

module _ (s : Store) (t : ℕ) (u : Unsettled base s) where
  fitting : (o : ℕ) (kind : Kind) → (object_of s o).kind ≡ some kind
      → All (EntryFits (object reduce_key kind)) (on_object o s.log)
  fitting o kind e = entries_fit s o kind e s.log u.fits u.reduced

  -- It aborts: those left are recoverable against its entries, and so keep their answers.
  pub ended_unsettled : Unsettled base (ended t s)
  ended_unsettled =
      left_unsettled s t (ended t s) (ended_left s t) u
      (λ o kind e. rw (ended_objects s t) (
        u.rows o kind e,
        dropping reduce_key kind (on_object o s.log) (object_of s o).rows (u.rows o kind e) (fitting o kind e)
            (others (one t)) (u.recoverable o kind e)
            (u.answered o kind e),
      ))
      (λ o. rw (ended_objects s t) (omega arith)) (ended_once s t u.once) (ended_gapless s t u.once u.gapless)

  -- It commits, and depends on nobody: its entries commute with those of others before them, and can be served first.
  pub commit_unsettled : Ready s.log t → Unsettled base (commit t s)
  commit_unsettled ready =
      left_unsettled s t (commit t s) (commit_left s t) u
      (λ o kind e. rw (commit_rows s t kind o (kind_within s o kind e)) (
        after_formed reduce_key kind (only (one t) (on_object o s.log)) (object_of s o).rows
            (all_filter {Q = EntryFits (object reduce_key kind)} (λ x fits k. fits) (on_object o s.log)
            (fitting o kind e)) (u.rows o kind e),
        (committing reduce_key kind (on_object o s.log) (object_of s o).rows (u.rows o kind e) (fitting o kind e)
            (one t)
            ((depends_on_nobody reduce_key kind t s.log).0 ready o) (u.answered o kind e)).2,
      ))
      (commit_grown s t) (ended_once (carried_in s t) t (carried_once s t u.once))
      (ended_gapless (carried_in s t) t (carried_once s t u.once) gapless)
    where
      gapless : WithoutGaps (carried_in s t)
      gapless h rank lower e l =
          let status = carried_status t s.log s in
          let w = u.gapless h rank lower (sym (status h) ∙ e) l in
          (w.0, status w.0 ∙ w.1)
