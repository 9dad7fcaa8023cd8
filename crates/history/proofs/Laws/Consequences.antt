-- What holds of a history and a book that follows it: answers, contents, and what a cancel leaves.
use Rattle.std.specs.Prelude.{ℕ, ◌≡◌, refl, Bool, true, false, List, [], ◌∷◌, ◌++◌, take}
use Rattle.std.proofs.Common.{sym, ap, ap₂, ◌∙◌, inr, ⊎_elim, arith}
use Rattle.std.proofs.Math.Option.{Option, some}
use Rattle.operations.specs.Operations.{Kind, All, reduce_key, answer, next}
use Rattle.operations.specs.Log.{Answered, one}
use Rattle.operations.proofs.Theorems.{dropping}
use Rattle.operations.proofs.Laws.Cases.{all_map, all_append, all_filter}
use Rattle.store.specs.Store.{Logged, Store, object_of, on_object, operations_of}
use Rattle.store.specs.Layout.{decode, word, read_kind, base}
use Rattle.store.specs.Soundness.{Sound}
use Rattle.store.proofs.Decisions.{whether_sound}
use Rattle.store.proofs.Laws.Changes.{on_picked, on_append}
use Rattle.store.proofs.Laws.Statuses.{active_apart}
use Rattle.protocol.specs.Replies.{cancelled, refused, outcome, Served}
use Rattle.protocol.specs.Calls as calls
use Rattle.protocol.specs.Call.{cancel, contents, desk, reason_of}
use Rattle.protocol.specs.Terms.{Among, in_order}
use Rattle.protocol.proofs.Theorems.{refused_exactly, refused_untouched, commits_exactly, commits_carry, kinds_stay}
use Rattle.protocol.proofs.Theorems.{sound_kept}
use Rattle.protocol.proofs.Laws.Ending.{entries_fit}
use Rattle.protocol.proofs.Laws.Leaving.{contents_served, no_reason}
use Rattle.protocol.proofs.Laws.Protocol.{clash}
use Rattle.protocol.proofs.Laws.Reasons.{of_length, found_sound, end_accepted, contents_accepts}
use Rattle.history.specs.History.{History, serial, Contents, empty_objects, reached, committed_contents, answers}
use Rattle.history.specs.History.{given, written, Unaltered, of_each}
use Rattle.history.proofs.Laws.Serving.{reached_rows, answers_both, answers_given}
use Rattle.history.proofs.Laws.Linking.{HasKind, FitsKind, answered_fits}
use Rattle.history.proofs.Laws.Steps.{InStep}

-- ---- Contents

-- Contents hands back the rows of an object that has a kind.
contents_written : (w : List ℕ) (o : ℕ) (kind : Kind) → Sound base w → (object_of (decode base w) o).kind ≡ some kind
    → (desk (contents o) w).outcome ≡ written (object_of (decode base w) o).rows
contents_written w o kind sound e =
    ap (λ (r : Served). r.outcome)
    (contents_served w o
    (contents_accepts base whether_sound w o (record { words = sound.packed.words; sound = sound; kind = (kind, e) })))

-- ---- The operations of each of several transactions

on_each : (o : ℕ) (ts : List ℕ) (ls : List Logged) → on_object o (of_each ts ls) ≡ in_order ts (on_object o ls)
on_each o [] ls = refl
on_each o (t ∷ ts) ls =
    on_append o (operations_of (one t) ls) (of_each ts ls) ∙ ap₂ ◌++◌ (on_picked (one t) o ls) (on_each o ts ls)

module _ (kinds : List ℕ) (h : History) (w : List ℕ) (f : InStep kinds h w) where
  abbrev s : Store
  s = decode base w

  -- The contents that the committed transactions reach.
  abbrev rows : Contents
  rows = committed_contents h

  live_fit : All (FitsKind kinds) h.answered
  live_fit = answered_fits kinds h s f.linked f.sound.store.unsettled.fits

  pub answered_live : All (λ (l : Logged). Among l.entry.transaction h.live) h.answered
  answered_live =
      rw f.linked.log
      (all_map {Q = λ (l : Logged). Among l.entry.transaction h.live}
      (λ (l : Logged). (f.linked.live l.entry.transaction).1) s.log
      f.sound.store.unsettled.live)

  pub all_fit : All (FitsKind kinds) (serial h.committed ++ h.answered)
  all_fit = all_append (FitsKind kinds) (serial h.committed) h.answered f.linked.fits live_fit

  -- The operations of some live transactions, served after the committed ones, get their answers,
  picked_answered : (picked : ℕ → Bool) → let l = operations_of picked h.answered in answers l rows ≡ given l
  picked_answered picked =
      answers_given reduce_key (HasKind kinds) (operations_of picked h.answered) rows
      (all_filter {Q = FitsKind kinds} (λ l fits k. fits) h.answered live_fit) on_object_lem
    where
      on_object_lem : (o : ℕ) (kind : Kind) → HasKind kinds o kind
          → Answered next answer (on_object o (operations_of picked h.answered)) (rows o)
      on_object_lem o kind k =
          let e : (object_of s o).kind ≡ some kind = f.linked.kind o ∙ k in
          let sound = f.sound.store.unsettled in
          rw (on_picked picked o h.answered, f.linked.log, sym (f.linked.rows o kind k))
          (dropping reduce_key kind (on_object o s.log) (object_of s o).rows (sound.rows o kind e)
          (entries_fit s o kind e s.log sound.fits sound.reduced)
          picked (sound.recoverable o kind e) (sound.answered o kind e))

  -- and so do the committed ones with these, served from empty objects.
  pub all_answered : (picked : ℕ → Bool) → Unaltered (serial h.committed ++ operations_of picked h.answered)
  all_answered picked =
      answers_both (serial h.committed) (operations_of picked h.answered) empty_objects
      f.linked.answered (picked_answered picked)

  pub contents_read : (o : ℕ) → (kind : Kind) × HasKind kinds o kind → (desk (contents o) w).outcome ≡ written (rows o)
  contents_read o (kind, k) =
      contents_written w o kind f.sound (f.linked.kind o ∙ k) ∙ ap written (f.linked.rows o kind k)

  pub contents_refused : (o : ℕ) → word kinds o ≡ 0 → (desk (contents o) w).outcome ≡ outcome (refused 8) [] []
  contents_refused o none =
      let right : calls.wrong_length w ≡ false = of_length w f.sound.packed.words in
      let kindless : calls.without_kind s o ≡ true =
      ap (λ (x : Option Kind). calls.is_none x) (f.linked.kind o ∙ ap read_kind none) in
      let reason : reason_of (contents o) w ≡ 8 =
      rw (right, found_sound base whether_sound w f.sound, kindless) refl in
      let reply = (refused_exactly (contents o) w 8).1 (reason, λ e. omega (arith, e)) in
      let rest = refused_untouched (contents o) w 8 reply in
      λ i. outcome (reply i) (rest.1 i) (rest.2 i)

  -- ---- Cancel

  module _ (t : ℕ) (list : List ℕ) (n : ℕ) (said : (desk (cancel t list) w).outcome.reply ≡ cancelled n) where
    abbrev after : Served
    after = desk (cancel t list) w

    abbrev named : List ℕ
    named = take n after.outcome.list

    accepted : reason_of (cancel t list) w ≡ 0
    accepted = no_reason (cancel t list) w (λ m e. clash cc)

    pub cancelled_read : (o : ℕ) → (kind : Kind) × HasKind kinds o kind
        → (desk (contents o) after.book).outcome ≡ written (reached (of_each named h.answered) rows o)
    cancelled_read o (kind, k) =
        let e = f.linked.kind o ∙ k in
        contents_written after.book o kind (sound_kept (cancel t list) w f.sound)
        (kinds_stay w t list accepted after (inr refl) n (inr (inr said)) o ∙ e)
        ∙ ap written carried
      where
        carried : (object_of (decode base after.book) o).rows ≡ reached (of_each named h.answered) rows o
        carried =
            rw (
              reached_rows reduce_key kind (of_each named h.answered) rows o,
              on_each o named h.answered,
              f.linked.log,
              sym (f.linked.rows o kind k),
            )
            (commits_carry w t list accepted after (inr refl) n (inr (inr said)) o kind (f.linked.kind o ∙ k))

    pub cancelled_unlisted : Among t named → ⊥
    cancelled_unlisted a =
        ⊎_elim (λ p. let q = p.1 in clash cc)
        (λ p. active_apart s t t (end_accepted base whether_sound w t list accepted).active p.0 refl)
        ((commits_exactly w t list accepted after (inr refl) n (inr (inr said)) t).0 a)
