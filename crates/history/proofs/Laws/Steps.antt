-- Every call keeps history and book linked.
use Rattle.std.specs.Prelude.{ℕ, zero, suc, ◌≤◌, ◌<◌, ◌≡◌, refl, Bool, true, false, cond, ◌↔◌, ◌⊎◌, List, [], ◌∷◌, ◌++◌}
use Rattle.std.specs.Prelude.{eqb, length, take}
use Rattle.std.proofs.Common.{sym, ap, ◌∙◌, subst, inl, inr, ⊎_elim, arith}
use Rattle.std.proofs.lemmas.Bool.{eqb-false}
use Rattle.std.proofs.Math.ListN.{get_or-map}
use Rattle.std.proofs.Math.Seq.{take-append_seam}
use Rattle.operations.specs.Operations.{Kind, Answer, All, reduce_key}
use Rattle.operations.proofs.Laws.Cases.{split, same}
use Rattle.store.specs.Store.{Status, absent, active, pseudo_committed, Object, Logged, Store, status_of, Live, Active}
use Rattle.store.specs.Store.{pseudo_committed_count}
use Rattle.store.specs.Layout.{decode, encode, word, Representable, base}
use Rattle.store.specs.Soundness.{Unsettled, Sound}
use Rattle.store.proofs.Decisions.{whether_sound}
use Rattle.store.specs.Steps.{with_log, with_status}
use Rattle.store.proofs.Theorems.{representable, decoded}
use Rattle.store.proofs.Laws.Objects.{kind_named}
use Rattle.store.proofs.Laws.Any.{any_append}
use Rattle.store.proofs.Laws.Changes.{status_own, status_other, representable_status}
use Rattle.store.proofs.Laws.Statuses.{absent_inactive, absent_unranked, active_live, live_within}
use Rattle.protocol.specs.Replies.{ok, refused, Served}
use Rattle.protocol.specs.Ending.{ended, commit, settled_all}
use Rattle.protocol.specs.Calls.{operations_in, unsound, own_reasons, first, empty, finish_active, set_up_reason}
use Rattle.protocol.specs.Call.{Call, set_up, begin, operate, batch, finish, cancel, contents, answered_operations}
use Rattle.protocol.specs.Call.{desk, reason_of}
use Rattle.protocol.specs.Terms.{Among}
use Rattle.protocol.proofs.Theorems.{refused_exactly, refused_untouched, set_up_leaves, set_up_sound, begin_leaves}
use Rattle.protocol.proofs.Theorems.{contents_leaves, operate_one, batch_waits_exactly, batch_either, batch_replayed}
use Rattle.protocol.proofs.Theorems.{sound_kept}
use Rattle.protocol.proofs.Laws.Keeping as keeping
use Rattle.protocol.proofs.Laws.Ending.{ended_representable, ended_unsettled, commit_representable, commit_unsettled}
use Rattle.protocol.proofs.Laws.Settling.{settled_kept}
use Rattle.protocol.proofs.Laws.Protocol.{clash, finish_by, finishing, cancelling}
use Rattle.protocol.proofs.Laws.Leaving.{refused_or_accepted, no_reason}
use Rattle.protocol.proofs.Laws.Reasons.{first_other, limiting, each_numbers, found_sound, set_up_accepted}
use Rattle.protocol.proofs.Laws.Reasons.{begin_accepted, end_accepted}
use Rattle.history.specs.History.{Event, trace, book_after, SetUpRefused, History, new_history, begun, put_last}
use Rattle.history.specs.History.{entered, struck, committed_next, committed_in_order, noted, noted_all, history}
use Rattle.history.proofs.Laws.Linking.{HasKind, Linked, linked_struck, linked_committed, linked_settled}

-- A sound book, linked with the history.
pub record InStep (kinds : List ℕ) (h : History) (w : List ℕ) : Type 0 where
  pub sound : Sound base w
  pub linked : Linked kinds h (decode base w)

-- ---- Refusals

-- The first reason that applies is not number n: neither a later one nor this one, which has another number or does not
-- apply.
module _ (n : ℕ) (applies : Bool) (number later : ℕ) where
  another_number : eqb number n ≡ false → eqb later n ≡ false → eqb (cond applies number later) n ≡ false
  another_number differs rest =
      split applies (λ (e : applies ≡ true). rw e differs) (λ (e : applies ≡ false). rw e rest)

  not_applying : applies ≡ false → eqb later n ≡ false → eqb (cond applies number later) n ≡ false
  not_applying e rest = rw e rest

-- No sound book is refused as unsound.
never_unsound : (call : Call) (w : List ℕ) → Sound base w → (desk call w).outcome.reply ≡ refused 4 → ⊥
never_unsound call w sound e = eqb-false (reason_of call w) 4 (never call) ((refused_exactly call w 4).0 e).0
  where
    found : unsound whether_sound w ≡ false
    found = found_sound base whether_sound w sound

    never : (call : Call) → eqb (reason_of call w) 4 ≡ false
    never (set_up kinds) = search another_number
    never (begin t) = search (another_number, not_applying, found)
    never (operate t o number k v) = search (another_number, not_applying, found) depth 10
    never (batch t operations) =
        let s = decode base w in
        let qs = operations_in operations in
        let other : eqb (first (own_reasons s qs ++ limiting base t s qs)) 4 ≡ false =
        first_other 4 (own_reasons s qs ++ limiting base t s qs)
        (each_numbers base t (λ number. eqb number 4 ≡ false) refl refl refl refl s qs) refl in
        search (another_number, not_applying, found, other) depth 10
    never (finish t list) = search (another_number, not_applying, found)
    never (cancel t list) = search (another_number, not_applying, found)
    never (contents o) = search (another_number, not_applying, found)

pub trace_sound : (calls : List Call) (w : List ℕ) → Sound base w
    → All (λ (e : Event). e.outcome.reply ≡ refused 4 → ⊥) (trace desk calls w)
trace_sound [] w sound = tt
trace_sound (call ∷ calls) w sound =
    (never_unsound call w sound, trace_sound calls (desk call w).book (sound_kept call w sound))

-- ---- Set up

empty_linked : (kinds : List ℕ) → Linked kinds new_history (empty kinds)
empty_linked kinds =
    let none = keeping.nothing kinds in
    record {
      kind = λ o. ap (λ (x : Object). x.kind) (get_or-map _ kinds o 0);
      live = λ t. (λ a. absurd a, λ live. absurd (live (none.statuses t)));
      log = refl;
      fits = tt;
      answered = refl;
      rows = λ o kind e. none.rows o;
    }

set_up_accepts : (w kinds : List ℕ) → (desk (set_up kinds) w).outcome.reply ≡ ok → set_up_reason base w kinds ≡ 0
set_up_accepts w kinds accepted = no_reason (set_up kinds) w (λ n e. clash cc)

pub set_up_follows : (w kinds : List ℕ) → (desk (set_up kinds) w).outcome.reply ≡ ok
    → InStep kinds new_history (desk (set_up kinds) w).book
set_up_follows w kinds accepted =
    let e = set_up_accepts w kinds accepted in
    record {
      sound = set_up_sound w kinds e;
      linked = subst (Linked kinds new_history) (sym (set_up_leaves w kinds e).1) (empty_linked kinds);
    }

known_kind : (kinds : List ℕ) → All (λ k. k ≤ 3) kinds → (o : ℕ) → (word kinds o ≡ 0 → ⊥)
    → (kind : Kind) × HasKind kinds o kind
known_kind [] known o positive = absurd (positive refl)
known_kind (k ∷ kinds) known zero positive = kind_named k known.0 positive
known_kind (k ∷ kinds) known (suc o) positive = known_kind kinds known.1 o positive

-- An object whose kind isn't 0 has one.
pub set_up_kind : (w kinds : List ℕ) → (desk (set_up kinds) w).outcome.reply ≡ ok → (o : ℕ) → (word kinds o ≡ 0 → ⊥)
    → (kind : Kind) × HasKind kinds o kind
set_up_kind w kinds accepted = known_kind kinds (set_up_accepted base w kinds (set_up_accepts w kinds accepted)).known

-- ---- Changes of the store

-- Besides those that were, the one whose status is set is live.
live_besides : (s : Store) (t : ℕ) (status : Status) → t < length s.statuses → (status ≡ absent → ⊥) → (u : ℕ)
    → Live (with_status t status s) u ↔ (Live s u ⊎ (t ≡ u))
live_besides s t status within present u =
    same t u
    (λ (e : t ≡ u).
    (λ a. inr e, λ p f. present (sym (status_own s t status within) ∙ ap (status_of (with_status t status s)) e ∙ f)))
    (λ (n : t ≡ u → ⊥). let o = status_other s t status u (λ e. n (sym e)) in
    (λ live. inl (λ f. live (o ∙ f)), ⊎_elim (λ live f. live (sym o ∙ f)) (λ e. absurd (n e))))

-- Linked once all that can have committed: the list names them at its front, and the book holds what they leave.
abbrev LinkedOnceSettled : List ℕ → History → Store → List ℕ → Type 0
LinkedOnceSettled kinds h s rest =
    let named = (settled_all s).committed in
    Linked kinds (committed_in_order (take (length named) (named ++ rest)) h)
    (decode base (encode base (settled_all s).store))

module _ (kinds : List ℕ) (h : History) (s : Store) (linked : Linked kinds h s) where
  -- A status changes.
  status_linked : (t : ℕ) (status : Status) (live : List ℕ) → ((u : ℕ) → Among u live ↔ Live (with_status t status s) u)
      → Linked kinds (record { committed = h.committed; live = live; answered = h.answered }) (with_status t status s)
  status_linked t status live same_live =
      record {
        kind = linked.kind;
        live = same_live;
        log = linked.log;
        fits = linked.fits;
        answered = linked.answered;
        rows = linked.rows;
      }

  begun_linked : (t : ℕ) → t < length s.statuses → Linked kinds (begun (begin t) h) (with_status t active s)
  begun_linked t within = status_linked t active (h.live ++ (t ∷ [])) listed
    where
      listed : (u : ℕ) → Among u (h.live ++ (t ∷ [])) ↔ Live (with_status t active s) u
      listed u =
          let besides = live_besides s t active within (λ e. absent_inactive (sym e)) u in
          let parts = any_append (λ (x : ℕ). x ≡ u) h.live (t ∷ []) in (
            λ a. besides.1 (⊎_elim (λ b. inl ((linked.live u).0 b)) (⊎_elim inr (λ b. absurd b)) (parts.0 a)),
            λ live. parts.1 (⊎_elim (λ b. inl ((linked.live u).1 b)) (λ e. inr (inl e)) (besides.0 live)),
          )

  finished_linked : (t rank : ℕ) → Active s t → Linked kinds h (with_status t (pseudo_committed rank) s)
  finished_linked t rank is_active_lem =
      let alive = active_live s t is_active_lem in
      let besides = live_besides s t (pseudo_committed rank) (live_within s t alive)
      (λ e. absent_unranked rank (sym e)) in
      status_linked t (pseudo_committed rank) h.live
      (λ u. (
        λ a. (besides u).1 (inl ((linked.live u).0 a)),
        λ live. (linked.live u).1 (⊎_elim (λ l. l) (λ e. subst (Live s) e alive) ((besides u).0 live)),
      ))

  put_last_linked : (operations : List Logged)
      → Linked kinds (put_last operations h) (with_log (s.log ++ operations) s)
  put_last_linked operations =
      record {
        kind = linked.kind;
        live = linked.live;
        log = ap (λ (log : List Logged). log ++ operations) linked.log;
        fits = linked.fits;
        answered = linked.answered;
        rows = linked.rows;
      }

  settled_linked : Representable base s → Unsettled base s → (rest : List ℕ) → LinkedOnceSettled kinds h s rest
  settled_linked r u rest =
      rw (decoded (settled_all s).store (settled_kept s r u).1, take-append_seam (settled_all s).committed rest)
      (linked_settled kinds h s linked r u)

-- ---- Calls

module _ (kinds : List ℕ) (h : History) (w : List ℕ) (f : InStep kinds h w) where
  abbrev s : Store
  s = decode base w

  fits : Representable base s
  fits = representable w f.sound.packed

  before : Unsettled base s
  before = f.sound.store.unsettled

  -- What the plain desk notes of the call is linked with what the call leaves.
  abbrev Links : Call → Served → Type 0
  Links call r = Linked kinds (noted reduce_key call r.outcome.reply r.outcome.list h) (decode base r.book)

  refused_links : (call : Call) (n : ℕ) → (desk call w).outcome.reply ≡ refused n → Links call (desk call w)
  refused_links call n e = rw (e, (refused_untouched call w n e).0) f.linked

  begin_links : (t : ℕ) → reason_of (begin t) w ≡ 0 → Links (begin t) (desk (begin t) w)
  begin_links t e =
      let left = begin_leaves w t e in
      rw (left.0, left.1) (begun_linked kinds h s f.linked t
      (omega (arith, (begin_accepted base whether_sound w t e).below, fits.statuses)))

  -- Of a call that is a batch of one or of several, where an answer puts their operations last.
  batch_links : (call : Call) (t : ℕ) (operations : List ℕ)
      → ((given : List Answer)
      → entered reduce_key call given h ≡ put_last (answered_operations reduce_key t
      (operations_in operations) given) h)
      → reason_of (batch t operations) w ≡ 0 → Links call (desk (batch t operations) w)
  batch_links call t operations enters e =
      ⊎_elim (λ a. rw (a.1, enters a.0, (batch_replayed w t operations e a.0 a.1).1)
      (put_last_linked kinds h s f.linked _))
      (λ b. rw (b.2, (batch_waits_exactly w t operations e b.0 b.1).1 b.2) f.linked)
      (batch_either w t operations e)

  ended_links : (t : ℕ) (rest : List ℕ) → LinkedOnceSettled kinds (struck t h) (ended t s) rest
  ended_links t =
      settled_linked kinds (struck t h) (ended t s) (linked_struck kinds h s f.linked t)
      (ended_representable s t fits) (ended_unsettled s t before)

  active_links : (t : ℕ) (list : List ℕ) → Active s t → Links (finish t list) (finish_active base s t list)
  active_links t list is_active_lem =
      let rank = pseudo_committed_count s in
      finish_by s t list (Links (finish t list)) (λ c. ended_links t _)
      (λ c.
      settled_linked kinds (committed_next t h) (commit t s) (linked_committed kinds h s f.linked t before c.1)
      (commit_representable s t fits before) (commit_unsettled s t before c.1) _)
      (λ c.
      rw (decoded (with_status t (pseudo_committed rank) s) (representable_status s fits t (pseudo_committed rank)))
      (finished_linked kinds h s f.linked t rank is_active_lem))

  finish_links : (t : ℕ) (list : List ℕ) → reason_of (finish t list) w ≡ 0
      → Links (finish t list) (desk (finish t list) w)
  finish_links t list e =
      rw (finishing w t list e) (active_links t list (end_accepted base whether_sound w t list e).active)

  cancel_links : (t : ℕ) (list : List ℕ) → reason_of (cancel t list) w ≡ 0
      → Links (cancel t list) (desk (cancel t list) w)
  cancel_links t list e = rw (cancelling w t list e) (ended_links t _)

  contents_links : (o : ℕ) → reason_of (contents o) w ≡ 0 → Links (contents o) (desk (contents o) w)
  contents_links o e = let left = contents_leaves w o e in rw (left.0, left.1) f.linked

  links : (call : Call) → SetUpRefused (record { call = call; outcome = (desk call w).outcome }) → reason_of call w ≡ 0
      → Links call (desk call w)
  links (set_up kinds) refusedSetUp e = let r = refusedSetUp kinds refl in refused_links (set_up kinds) r.0 r.1
  links (begin t) refusedSetUp e = begin_links t e
  links (operate t o number k v) refusedSetUp e =
      subst (Links (operate t o number k v)) (sym (operate_one w t o number k v))
      (batch_links (operate t o number k v) t (o ∷ number ∷ k ∷ v ∷ []) (λ given. refl) e)
  links (batch t operations) refusedSetUp e = batch_links (batch t operations) t operations (λ given. refl) e
  links (finish t list) refusedSetUp e = finish_links t list e
  links (cancel t list) refusedSetUp e = cancel_links t list e
  links (contents o) refusedSetUp e = contents_links o e

call_follows : (kinds : List ℕ) (h : History) (call : Call) (w : List ℕ) → InStep kinds h w
    → let r = desk call w in
    SetUpRefused (record { call = call; outcome = r.outcome })
    → InStep kinds (noted reduce_key call r.outcome.reply r.outcome.list h) r.book
call_follows kinds h call w f refusedSetUp =
    record {
      sound = sound_kept call w f.sound;
      linked = ⊎_elim (λ r. refused_links kinds h w f call r.0 r.1) (links kinds h w f call refusedSetUp)
          (refused_or_accepted call w);
    }

calls_follow : (kinds : List ℕ) (h : History) (calls : List Call) (w : List ℕ) → InStep kinds h w
    → All SetUpRefused (trace desk calls w)
    → InStep kinds (noted_all reduce_key (trace desk calls w) h) (book_after desk calls w)
calls_follow kinds h [] w f refusedSetUps = f
calls_follow kinds h (call ∷ calls) w f refusedSetUps =
    calls_follow kinds (noted reduce_key call (desk call w).outcome.reply (desk call w).outcome.list h) calls
    (desk call w).book
    (call_follows kinds h call w f refusedSetUps.0) refusedSetUps.1

pub history_follows : (w kinds : List ℕ) → (desk (set_up kinds) w).outcome.reply ≡ ok → (calls : List Call)
    → let start = (desk (set_up kinds) w).book in
    All SetUpRefused (trace desk calls start)
    → InStep kinds (history reduce_key (trace desk calls start)) (book_after desk calls start)
history_follows w kinds accepted calls =
    calls_follow kinds new_history calls (desk (set_up kinds) w).book (set_up_follows w kinds accepted)
