-- Set up, begin, an operation entered and a transaction pseudo-committed each leave a sound store.
use Rattle.std.specs.Prelude.{ℕ, zero, suc, ◌+◌, ◌≤◌, ◌<◌, ◌≡◌, refl, Bool, true, false, cond, ◌↔◌, ◌⊎◌, List, [], ◌∷◌}
use Rattle.std.specs.Prelude.{◌++◌, map, length, get_or, set, replicate}
use Rattle.std.proofs.Common.{sym, ap, ◌∙◌, subst, inl, inr, ⊎_elim, append-nil, arith, eq-eqb, ne_eqb}
use Rattle.std.proofs.Math.Option.{some, some-injective}
use Rattle.std.proofs.lemmas.List.{length-replicate, get_or-replicate, length-map}
use Rattle.std.proofs.Math.ListN.{get_or-map, get_or-eq_default}
use Rattle.operations.specs.PairRules.{recoverable}
use Rattle.operations.specs.Operations.{adds}
use Rattle.operations.specs.Operations.{Kind, Operation, Answer, kind_of, reduce_key, All, StoredKey, answer, next}
use Rattle.operations.specs.Log.{Entry, after, Recovers, Recoverable, Answered}
use Rattle.operations.proofs.Laws.ObjectTypes.{ObjectType, Log}
use Rattle.operations.proofs.Laws.Cases.{split, same, all_map, all_append}
use Rattle.operations.proofs.Laws.Objects.{object}
use Rattle.store.specs.Store.{Status, absent, active, pseudo_committed, Object, Logged, Store, status_of, object_of}
use Rattle.store.specs.Store.{Live}
use Rattle.store.specs.Store.{Active, PseudoCommitted, pseudo_committed_count, on_object}
use Rattle.store.specs.Dependency.{Conflict, DependsOn, Ready, Leads, OnCycle}
use Rattle.store.specs.Layout.{read_kind, ObjectFits, Representable, additions, base}
use Rattle.store.specs.Soundness.{OnceEach, WithoutGaps, Acyclic, Dependent, Unsettled, SoundStore}
use Rattle.store.specs.Steps.{with_status}
use Rattle.store.proofs.Theorems.{cycle_any_length}
use Rattle.store.proofs.Laws.Words.{below}
use Rattle.store.proofs.Laws.Dependencies.{depended_on}
use Rattle.store.proofs.Laws.Any.{any_some}
use Rattle.store.proofs.Laws.Ways.{widened, joined, first_arrival}
use Rattle.store.proofs.Laws.Statuses.{absent_unranked, active_unranked, same_rank, active_live, pseudo_committed_live}
use Rattle.store.proofs.Laws.Statuses.{active_apart, live_within}
use Rattle.store.proofs.Laws.Capacity.{additions_first}
use Rattle.store.proofs.Laws.Empty.{Empty, empty_sound, base_room}
use Rattle.store.proofs.Laws.Graph.{depends_on_some}
use Rattle.store.proofs.Laws.Changes.{status_own, status_other, on_append}
use Rattle.store.proofs.Laws.Edges.{depends_appended}
use Rattle.protocol.specs.Calls.{empty, owners, answer_to, entered}
use Rattle.protocol.proofs.Laws.Ranks.{ranks_counted}
use Rattle.protocol.specs.Terms.{Passes}
use Rattle.protocol.proofs.Laws.Waiting.{none_owned}
use Rattle.protocol.proofs.Laws.Detours.{way_kept, detour}

-- ---- Set up

module _ (kinds : List ℕ) where
  abbrev read : ℕ → Object
  read k = record { kind = read_kind k; rows = [] }

  pub nothing : Empty (empty kinds)
  nothing =
      record {
        log = refl;
        statuses = λ t.
            below t 64 (get_or-replicate 64 t absent absent)
            (λ (past : 64 ≤ t). get_or-eq_default (replicate 64 absent) absent {n = t}
            (omega (arith, length-replicate 64 absent)));
        rows = λ o. ap (λ (x : Object). x.rows) (get_or-map read kinds o 0);
      }

  fits : (ks : List ℕ) → All ObjectFits (map read ks)
  fits [] = tt
  fits (k ∷ ks) = (record { rows = omega arith; none = λ e. refl }, fits ks)

  pub emptied_sound : length kinds ≡ 16 → SoundStore base (empty kinds) × Representable base (empty kinds)
  emptied_sound sixteen = (
    empty_sound (empty kinds) nothing base (base_room (empty kinds) nothing),
    record {
      statuses = length-replicate 64 absent;
      objects = length-map kinds read ∙ sixteen;
      fit = fits kinds;
      entries = omega arith;
    },
  )

-- ---- A status that changes

-- The new one is there, or what was there before.
set_either : {A : Type 0} (xs : List A) (i : ℕ) (x d : A) (j : ℕ)
    → (get_or (set xs i x) j d ≡ x) ⊎ (get_or (set xs i x) j d ≡ get_or xs j d)
set_either [] i x d j = inr refl
set_either (y ∷ xs) zero x d zero = inl refl
set_either (y ∷ xs) zero x d (suc j) = inr refl
set_either (y ∷ xs) (suc i) x d zero = inr refl
set_either (y ∷ xs) (suc i) x d (suc j) = set_either xs i x d j

-- Objects and log stay, and with them all that is said of them alone.
status_sound : (s : Store) (t : ℕ) (status : Status) → Unsettled base s
    → ((u : ℕ) → Live s u → Live (with_status t status s) u)
    → OnceEach (with_status t status s) → WithoutGaps (with_status t status s) → Acyclic (with_status t status s)
    → Dependent (with_status t status s)
    → SoundStore base (with_status t status s)
status_sound s t status h live once gapless acyclic dependent =
    record {
      unsettled = record {
        rows = h.rows;
        live =
            all_map {Q = λ (l : Logged). Live (with_status t status s) l.entry.transaction}
            (λ (l : Logged) alive. live l.entry.transaction alive)
            s.log h.live;
        fits = h.fits;
        reduced = h.reduced;
        recoverable = h.recoverable;
        answered = h.answered;
        room = h.room;
        once = once;
        gapless = gapless;
        acyclic = acyclic;
      };
      dependent = dependent;
    }

-- ---- Begin

module _ (s : Store) (t : ℕ) (h : SoundStore base s) (new : status_of s t ≡ absent) where
  abbrev begun : Store
  begun = with_status t active s

  rank_before : (u rank : ℕ) → status_of begun u ≡ pseudo_committed rank → status_of s u ≡ pseudo_committed rank
  rank_before u rank e =
      ⊎_elim (λ a. absurd (active_unranked rank (sym a ∙ e))) (λ a. sym a ∙ e)
      (set_either s.statuses t active absent u)

  begun_other : (u : ℕ) → Live s u → status_of begun u ≡ status_of s u
  begun_other u live = status_other s t active u (λ (e : u ≡ t). live (ap (status_of s) e ∙ new))

  begun_live : (u : ℕ) → Live s u → Live begun u
  begun_live u live e = live (sym (begun_other u live) ∙ e)

  pub begun_sound : SoundStore base begun
  begun_sound =
      status_sound s t active h.unsettled begun_live
      (λ a u rank e f. h.unsettled.once a u rank (rank_before a rank e) (rank_before u rank f))
      (λ a rank lower e l.
      let w = h.unsettled.gapless a rank lower (rank_before a rank e) l in
      (w.0, begun_other w.0 (pseudo_committed_live s w.0 (lower, w.1)) ∙ w.1))
      (λ a p w.
      h.unsettled.acyclic a (p.0, rank_before a p.0 p.1)
      (widened (DependsOn s.log) (PseudoCommitted begun) (PseudoCommitted s)
      (λ c q. (q.0, rank_before c q.0 q.1)) 64 a a w))
      (λ a p. let d = h.dependent a (p.0, rank_before a p.0 p.1) in (d.0, begun_live d.0 d.1, d.2))

-- ---- An operation entered

module _ (X : ObjectType) where
  open X use {State, Operation, Answer, next, answer}

  recoverable_last : (l : Log X) (x : Entry Operation Answer) → Recoverable X.recoverable l
      → All (λ e. Recovers X.recoverable e x) l
      → Recoverable X.recoverable (l ++ (x ∷ []))
  recoverable_last [] x r a = (tt, tt)
  recoverable_last (e ∷ l) x r a =
      (all_append (Recovers X.recoverable e) l (x ∷ []) r.0 (a.0, tt), recoverable_last l x r.1 a.1)

  answered_last : (l : Log X) (x : Entry Operation Answer) (s : State) → Answered X.next X.answer l s
      → answer x.operation (after X.next l s) ≡ x.answer
      → Answered X.next X.answer (l ++ (x ∷ [])) s
  answered_last [] x s a e = (e, tt)
  answered_last (y ∷ l) x s a e = (a.0, answered_last l x (next y.operation s) a.1 e)

-- Where nothing forces a wait, the request is recoverable against every entry of another.
all_recovered : (x : Entry Operation Answer) (l : List (Entry Operation Answer))
    → owners x.transaction x.operation l ≡ 0
    → All (λ e. Recovers recoverable e x) l
all_recovered x l n =
    all_map {P = Passes x.transaction x.operation} {Q = λ e. Recovers recoverable e x}
    (λ e p other. p (λ q. other (sym q))) l
    ((none_owned x.transaction x.operation l).0 n)

pub additions_last : (l : List (Entry Operation Answer)) (x : Entry Operation Answer)
    → additions (l ++ (x ∷ [])) ≡ additions l + additions (x ∷ [])
additions_last [] x = omega arith
additions_last (e ∷ l) x = omega (arith, additions_first e (l ++ (x ∷ [])), additions_first e l, additions_last l x)

-- On its own object an entry put last is the last, on others nothing changes.
pub on_last : (P : List (Entry Operation Answer) → Type 0) (o : ℕ) (log : List Logged) (x : Logged)
    → (x.object ≡ o → P (on_object o log ++ (x.entry ∷ []))) → P (on_object o log) → P (on_object o (log ++ (x ∷ [])))
on_last P o log x own other =
    let only : List (Entry Operation Answer) = x.entry ∷ [] in
    subst P (sym (on_append o log (x ∷ [])))
    (same x.object o
    (λ (e : x.object ≡ o). rw (eq-eqb x.object o e) (own e))
    (λ (n : x.object ≡ o → ⊥). rw (ne_eqb x.object o n, append-nil (on_object o log)) other))

module _ (s : Store) (t o : ℕ) (requested : Operation) (h : SoundStore base s) (is_active_lem : Active s t)
    (kinded : (object_of s o).kind ≡ some (kind_of requested)) where
  abbrev last : Logged
  last =
      record {
        object = o;
        entry = record { transaction = t; operation = requested; answer = answer_to requested s o };
      }

  -- An entry that adds counts one.
  abbrev one : Bool → ℕ
  one b = cond b 1 0

  abbrev longer : Store
  longer = entered t o requested s

  -- An object's kind is its last entry's.
  own_kind : (P : ℕ → Kind → Type 0) → P o (kind_of requested) → (p : ℕ) (kind : Kind) → o ≡ p
      → (object_of s p).kind ≡ some kind → P p kind
  own_kind P own p kind e k =
      let alike : kind_of requested ≡ kind =
      some-injective (kind_of requested) kind (sym kinded ∙ ap (λ (x : ℕ). (object_of s x).kind) e ∙ k) in
      subst (P p) alike (subst (λ (x : ℕ). P x (kind_of requested)) e own)

  -- Only the active one's dependencies are new.
  depends_before : (a b : ℕ) → PseudoCommitted s a → DependsOn longer.log a b → DependsOn s.log a b
  depends_before a b p d =
      ⊎_elim (λ e. e)
      (λ e.
      let own : t ≡ a = (any_some (λ (l : Logged). Conflict a b l last) s.log e.1).1.0 in
      absurd (active_apart s t a is_active_lem p (sym own)))
      ((depends_appended a b last s.log).0 d)

  pub entered_sound : StoredKey reduce_key requested → (adds requested ≡ true → base.used s o < 64)
      → owners t requested (on_object o s.log) ≡ 0
      → SoundStore base longer
  entered_sound stored room free =
      let own : List (Entry Operation Answer) = on_object o s.log in
      let u = h.unsettled in
      record {
        unsettled = record {
          rows = u.rows;
          live = all_append (λ (l : Logged). Live longer l.entry.transaction) s.log (last ∷ []) u.live
              (active_live s t is_active_lem, tt);
          fits = all_append (λ (l : Logged). (object_of s l.object).kind ≡ some (kind_of l.entry.operation))
              s.log (last ∷ []) u.fits (kinded, tt);
          reduced = all_append (λ (l : Logged). StoredKey reduce_key l.entry.operation) s.log (last ∷ [])
              u.reduced (stored, tt);
          recoverable = λ p kind k.
              on_last (Recoverable recoverable) p s.log last
              (λ (e : o ≡ p).
              own_kind (λ x j. Recoverable recoverable (on_object x s.log ++ (last.entry ∷ [])))
              (recoverable_last (object reduce_key (kind_of requested)) own last.entry
              (u.recoverable o (kind_of requested) kinded)
              (all_recovered last.entry own free)) p kind e k)
              (u.recoverable p kind k);
          answered = λ p kind k.
              on_last (λ (l : List (Entry Operation Answer)). Answered next answer l (object_of s p).rows) p
              s.log last
              (λ (e : o ≡ p).
              own_kind (λ x j. Answered next answer (on_object x s.log ++ (last.entry ∷ []))
              (object_of s x).rows)
              (answered_last (object reduce_key (kind_of requested)) own last.entry (object_of s o).rows
              (u.answered o (kind_of requested) kinded) refl)
              p kind e k)
              (u.answered p kind k);
          room = λ p.
              on_last (λ (l : List (Entry Operation Answer)). length (object_of s p).rows + additions l ≤ 64) p s.log
              last
              (λ (e : o ≡ p).
              subst (λ (x : ℕ).
              length (object_of s x).rows + additions (on_object x s.log ++ (last.entry ∷ [])) ≤ 64) e
              (split (adds requested)
              (λ (b : adds requested ≡ true). omega (arith, additions_last own last.entry, room b, ap one b))
              (λ (b : adds requested ≡ false). omega (arith, additions_last own last.entry, u.room o, ap one b))))
              (u.room p);
          once = u.once;
          gapless = u.gapless;
          acyclic = λ a p w. u.acyclic a p (way_kept (DependsOn longer.log) (DependsOn s.log) (PseudoCommitted s)
              depends_before 64 a a p w);
        };
        dependent = λ a p. let d = h.dependent a p in
            (d.0, d.1, (depends_appended a d.0 last s.log).1 (inl d.2));
      }

-- ---- Finish

module _ (s : Store) (t : ℕ) (r : Representable base s) (h : SoundStore base s) (is_active_lem : Active s t) where
  abbrev count : ℕ
  count = pseudo_committed_count s

  abbrev finished : Store
  finished = with_status t (pseudo_committed count) s

  within : t < length s.statuses
  within = live_within s t (active_live s t is_active_lem)

  new_rank : status_of finished t ≡ pseudo_committed count
  new_rank = status_own s t (pseudo_committed count) within

  finished_other : (u : ℕ) → (u ≡ t → ⊥) → status_of finished u ≡ status_of s u
  finished_other = status_other s t (pseudo_committed count)

  finished_live : (u : ℕ) → Live s u → Live finished u
  finished_live u live e =
      same u t (λ (p : u ≡ t). absent_unranked count (sym e ∙ ap (status_of finished) p ∙ new_rank))
      (λ (n : u ≡ t → ⊥). live (sym (finished_other u n) ∙ e))

  -- The new rank is the next, and the others are as before.
  rank_after : (u rank : ℕ) → status_of finished u ≡ pseudo_committed rank
      → ((u ≡ t) × (count ≡ rank)) ⊎ ((u ≡ t → ⊥) × (status_of s u ≡ pseudo_committed rank))
  rank_after u rank e =
      same u t
      (λ (p : u ≡ t). inl (p, same_rank count rank (sym new_rank ∙ ap (status_of finished) (sym p) ∙ e)))
      (λ (n : u ≡ t → ⊥). inr (n, sym (finished_other u n) ∙ e))

  rank_kept : (u rank : ℕ) → status_of s u ≡ pseudo_committed rank → status_of finished u ≡ pseudo_committed rank
  rank_kept u rank e =
      finished_other u (active_apart s t u is_active_lem (rank, e)) ∙ e

  counted : (rank : ℕ) → (rank < count) ↔ ((u : ℕ) × (status_of s u ≡ pseudo_committed rank))
  counted = ranks_counted s h.unsettled.once h.unsettled.gapless

  finished_once : OnceEach finished
  finished_once a u rank e f =
      ⊎_elim
      (λ x.
      ⊎_elim (λ y. x.0 ∙ sym y.0) (λ y. absurd (omega (arith, x.1, (counted rank).1 (u, y.1))))
      (rank_after u rank f))
      (λ x.
      ⊎_elim (λ y. absurd (omega (arith, y.1, (counted rank).1 (a, x.1))))
      (λ y. h.unsettled.once a u rank x.1 y.1) (rank_after u rank f))
      (rank_after a rank e)

  finished_gapless : WithoutGaps finished
  finished_gapless a rank lower e l =
      let less : lower < count =
      ⊎_elim (λ x. omega (arith, x.1, l)) (λ x. omega (arith, (counted rank).1 (a, x.1), l)) (rank_after a rank e) in
      let w = (counted lower).0 less in
      (w.0, rank_kept w.0 lower w.1)

  before : (u : ℕ) → PseudoCommitted finished u → (u ≡ t → ⊥) → PseudoCommitted s u
  before u p n = (p.0, sym (finished_other u n) ∙ p.1)

  -- A cycle leaves out the new one, so was there before, or leads round from it.
  finished_acyclic : (OnCycle s t → ⊥) → Acyclic finished
  finished_acyclic off a p w =
      let Edge : ℕ → ℕ → Type 0 = DependsOn s.log in
      let Now : ℕ → Type 0 = PseudoCommitted finished in
      ⊎_elim
      (λ (v : OnCycle s a). same a t (λ (e : a ≡ t). off (subst (OnCycle s) e v))
      (λ (n : a ≡ t → ⊥). h.unsettled.acyclic a (before a p n) v))
      (λ (v : Leads Edge Now a t × Leads Edge Now t a).
      let round : Leads Edge Now t t = joined Edge Now v.1.0 t a t v.1.1 p v.0 in
      off ((cycle_any_length s r.statuses t (omega (arith, within, r.statuses))).1
      (round.0, first_arrival Edge Now (PseudoCommitted s) t before round.0 t round.1)))
      (detour Edge Now (PseudoCommitted s) t before 64 a a w)

  finished_dependent : (Ready s.log t → ⊥) → Dependent finished
  finished_dependent depends a p =
      same a t
      (λ (e : a ≡ t).
      let d = depends_on_some s.log t depends in
      let live = depended_on (Live s) t d.0 s.log h.unsettled.live d.1 in
      (d.0, finished_live d.0 live, subst (λ (x : ℕ). DependsOn s.log x d.0) (sym e) d.1))
      (λ (n : a ≡ t → ⊥). let d = h.dependent a (before a p n) in (d.0, finished_live d.0 d.1, d.2))

  pub pseudo_committed_sound : (OnCycle s t → ⊥) → (Ready s.log t → ⊥) → SoundStore base finished
  pseudo_committed_sound off depends =
      status_sound s t (pseudo_committed count) h.unsettled finished_live finished_once finished_gapless
      (finished_acyclic off) (finished_dependent depends)
