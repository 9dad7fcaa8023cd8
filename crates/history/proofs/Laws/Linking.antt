-- What links the history with the store, and that it stays so as transactions end.
use Rattle.std.specs.Prelude.{ℕ, ◌≡◌, ◌↔◌, List, [], ◌∷◌, ◌++◌, get_or}
use Rattle.std.proofs.Common.{sym, ap, ◌∙◌, inl, inr, ⊎_elim, append-nil, eq-eqb, ne_eqb}
use Rattle.std.proofs.Math.Option.{some}
use Rattle.operations.specs.Operations.{Kind, All, kind_of, reduce_key, answer, next}
use Rattle.operations.specs.Log.{filter, only, one, others, Answered}
use Rattle.operations.proofs.Theorems.{committing}
use Rattle.operations.proofs.Laws.Cases.{same, all_map, all_append, all_filter}
use Rattle.operations.proofs.Laws.Objects.{object}
use Rattle.store.specs.Store.{Object, no_object, Logged, Store, object_of, Live, on_object, operations_of}
use Rattle.store.specs.Dependency.{Ready}
use Rattle.store.specs.Layout.{word, read_kind, Representable, base}
use Rattle.store.specs.Soundness.{EntriesFit, Unsettled}
use Rattle.store.proofs.Theorems.{depends_on_nobody}
use Rattle.store.proofs.Laws.Changes.{on_picked}
use Rattle.store.proofs.Laws.Statuses.{kind_within}
use Rattle.protocol.specs.Ending.{ended, commit, Settlement, settled_all}
use Rattle.protocol.specs.Terms.{Among}
use Rattle.protocol.proofs.Laws.Ending.{Left, ended_left, commit_left, ended_objects, commit_rows, entries_fit}
use Rattle.protocol.proofs.Laws.Settling.{all_settle}
use Rattle.history.specs.History.{History, serial, empty_objects, reached, committed_contents, answers, given}
use Rattle.history.specs.History.{Unaltered, struck, committed_next, committed_in_order}
use Rattle.history.proofs.Laws.Serving.{reached_rows, reached_append, answers_both, serial_append, answers_given}

-- The kind that the object was set up with.
abbrev pub HasKind : List ℕ → ℕ → Kind → Type 0
HasKind kinds o kind = read_kind (word kinds o) ≡ some kind

-- The operation is one of its object's kind.
abbrev pub FitsKind : List ℕ → Logged → Type 0
FitsKind kinds l = HasKind kinds l.object (kind_of l.entry.operation)

-- The answered operations of live transactions are the log; the committed ones, served alone, get their answers and
-- reach the rows.
pub record Linked (kinds : List ℕ) (h : History) (s : Store) : Type 0 where
  pub kind : (o : ℕ) → (object_of s o).kind ≡ read_kind (word kinds o)
  pub live : (t : ℕ) → Among t h.live ↔ Live s t
  pub log : h.answered ≡ s.log
  pub fits : All (FitsKind kinds) (serial h.committed)
  pub answered : Unaltered (serial h.committed)
  pub rows : (o : ℕ) (kind : Kind) → HasKind kinds o kind → (object_of s o).rows ≡ committed_contents h o

-- All but one are left.
among_others : (t u : ℕ) (l : List ℕ) → Among u (filter (others (one t)) l) ↔ ((u ≡ t → ⊥) × Among u l)
among_others t u [] = (λ a. absurd a, λ a. absurd a.1)
among_others t u (x ∷ l) =
    let rest = among_others t u l in
    same x t
    (λ (e : x ≡ t). rw (eq-eqb x t e) (
      λ a. ((rest.0 a).0, inr (rest.0 a).1),
      λ a. ⊎_elim (λ q. absurd (a.0 (sym q ∙ e))) (λ b. rest.1 (a.0, b)) a.1,
    ))
    (λ (other : x ≡ t → ⊥). rw (ne_eqb x t other) (
      ⊎_elim (λ q. (λ e. other (q ∙ e), inl q)) (λ a. ((rest.0 a).0, inr (rest.0 a).1)),
      λ a. ⊎_elim inl (λ b. inr (rest.1 (a.0, b))) a.1,
    ))

module _ (kinds : List ℕ) (h : History) (s : Store) (linked : Linked kinds h s) where
  -- What a transaction leaves when it ends, by abort or by commit.
  module _ (t : ℕ) (x : Store) (left : Left s t x) where
    kind_left : (o : ℕ) → (object_of x o).kind ≡ read_kind (word kinds o)
    kind_left o = left.kinds o ∙ linked.kind o

    live_left : (u : ℕ) → Among u (struck t h).live ↔ Live x u
    live_left u =
        let rest = among_others t u h.live in (
          λ a. (left.live u).1 ((rest.0 a).0, (linked.live u).0 (rest.0 a).1),
          λ a. let b = (left.live u).0 a in rest.1 (b.0, (linked.live u).1 b.1),
        )

    log_left : (struck t h).answered ≡ x.log
    log_left = ap (operations_of (others (one t))) linked.log ∙ sym left.log

  pub linked_struck : (t : ℕ) → Linked kinds (struck t h) (ended t s)
  linked_struck t =
      let left = ended_left s t in
      record {
        kind = kind_left t (ended t s) left;
        live = live_left t (ended t s) left;
        log = log_left t (ended t s) left;
        fits = linked.fits;
        answered = linked.answered;
        rows = λ o kind k. ap (λ (xs : List Object). (get_or xs o no_object).rows) (ended_objects s t)
            ∙ linked.rows o kind k;
      }

  -- The answered operations of live transactions are of their objects' kinds too.
  pub answered_fits : EntriesFit s → All (FitsKind kinds) h.answered
  answered_fits f =
      rw linked.log (all_map {Q = FitsKind kinds} (λ (l : Logged) e. sym (linked.kind l.object) ∙ e) s.log f)

  -- The committed operations, and those of one more that commits.
  abbrev before : List Logged
  before = serial h.committed

  module _ (t : ℕ) where
    abbrev own : List Logged
    own = operations_of (one t) h.answered

    serial_next : serial (committed_next t h).committed ≡ before ++ own
    serial_next =
        serial_append h.committed (record { transaction = t; operations = own } ∷ [])
        ∙ ap (λ (l : List Logged). before ++ l) (append-nil own)

    own_fits : EntriesFit s → All (FitsKind kinds) own
    own_fits f = all_filter {Q = FitsKind kinds} (λ l fits k. fits) h.answered (answered_fits f)

    own_on : (o : ℕ) → on_object o own ≡ only (one t) (on_object o s.log)
    own_on o = rw (sym linked.log) (on_picked (one t) o h.answered)

    -- It depends on nobody, so that its operations get their answers right after the committed ones.
    own_answered : Unsettled base s → Ready s.log t → answers own (committed_contents h) ≡ given own
    own_answered u ready =
        answers_given reduce_key (HasKind kinds) own (committed_contents h) (own_fits u.fits) on_each
      where
        on_each : (o : ℕ) (kind : Kind) → HasKind kinds o kind
            → Answered next answer (on_object o own) (committed_contents h o)
        on_each o kind k =
            let e : (object_of s o).kind ≡ some kind = linked.kind o ∙ k in
            rw (own_on o, sym (linked.rows o kind k))
            (committing reduce_key kind (on_object o s.log) (object_of s o).rows (u.rows o kind e)
            (entries_fit s o kind e s.log u.fits u.reduced)
            (one t) ((depends_on_nobody reduce_key kind t s.log).0 ready o) (u.answered o kind e)).1

    own_reached : (o : ℕ) (kind : Kind) → HasKind kinds o kind
        → (object_of (commit t s) o).rows ≡ reached (before ++ own) empty_objects o
    own_reached o kind k =
        rw (
          commit_rows s t kind o (kind_within s o kind (linked.kind o ∙ k)),
          reached_append before own empty_objects,
          reached_rows reduce_key kind own (committed_contents h) o,
          own_on o,
          linked.rows o kind k,
        )

  pub linked_committed : (t : ℕ) → Unsettled base s → Ready s.log t → Linked kinds (committed_next t h) (commit t s)
  linked_committed t u ready =
      let left = commit_left s t in
      record {
        kind = kind_left t (commit t s) left;
        live = live_left t (commit t s) left;
        log = log_left t (commit t s) left;
        fits = rw (serial_next t) (all_append (FitsKind kinds) before (own t) linked.fits (own_fits t u.fits));
        answered = rw (serial_next t)
            (answers_both before (own t) empty_objects linked.answered (own_answered t u ready));
        rows = λ o kind k. rw (serial_next t) (own_reached t o kind k);
      }

module _ (kinds : List ℕ) (h : History) (s : Store) (linked : Linked kinds h s) where
  pub linked_settled : Representable base s → Unsettled base s
      → Linked kinds (committed_in_order (settled_all s).committed h) (settled_all s).store
  linked_settled r u =
      all_settle (λ (x : Store) (y : Settlement). (g : History) → Linked kinds g x
      → Linked kinds (committed_in_order y.committed g) y.store)
      (λ x p v e g l. l)
      (λ x t v w y later g l. later (committed_next t g) (linked_committed kinds g x l t v w.ready)) s r u h linked
