-- A call, asked for again by the letter and arguments of its record, gets the same record and leaves the same book; a
-- call that has no record leaves the book as it was.
use Rattle.std.specs.Prelude.{ℕ, ◌%◌, ◌≤◌, ◌<◌, ◌≡◌, refl, true, false, ◌⊎◌, List, [], ◌∷◌, ◌++◌, length, take, drop}
use Rattle.std.proofs.Common.{sym, ap, ap₂, ◌∙◌, inl, inr, ⊎_elim, append-nil, arith, eqb-true, le-ltb}
use Rattle.std.proofs.Math.Bool.{decide}
use Rattle.std.proofs.Math.Option.{Option, none, some, some-injective, none-ne-some}
use Rattle.std.proofs.Math.Seq.{take-append_seam}
use Rattle.operations.specs.Operations.{All}
use Rattle.operations.proofs.Laws.Cases.{split}
use Rattle.store.specs.Store.{Store}
use Rattle.store.specs.Layout.{base, encode, decode}
use Rattle.store.proofs.Decisions.{whether_sound, whether_on_cycle, whether_ready}
use Rattle.protocol.specs.Replies as protocol
use Rattle.protocol.specs.Replies.{Served}
use Rattle.protocol.specs.Ending.{Settlement, settled_all, committed_first, commit, ended as Ended}
use Rattle.protocol.specs.Calls.{some_above, too_many, finish_active, end_reason}
use Rattle.protocol.specs.Call.{Call, set_up, begin, operate, batch, finish, cancel, contents, desk, reason_of}
use Rattle.protocol.proofs.Theorems.{refused_untouched, contents_leaves}
use Rattle.protocol.proofs.Laws.Reasons.{set_up_accepted, batch_accepted, end_accepted, end_accepts, too_many_lem}
use Rattle.protocol.proofs.Laws.Protocol.{finishing, cancelling}
use Rattle.protocol.proofs.Laws.Leaving.{no_reason, refused_or_accepted}
use Rattle.lines.specs.Lines.{lent, set_up_of, batch_of, asked}
use Rattle.journal.specs.Records.{Reply, ended, Record, recorded}
use Rattle.journal.specs.Journal.{record_with, record_of_reply, record_of, noted}
use Rattle.recording.specs.Recording.{letter_of, arguments_asked, given_to}
use Rattle.recording.specs.Laws.Given.{desk_gives}
use Rattle.dispatch.specs.Served.{LineServed, serving}
use Rattle.resuming.specs.Resuming.{served_again}

-- ---- A call's record

-- It has the call's letter and arguments, and contents, which has no letter, has none.
record Names (call : Call) (r : Record) : Type 0 where
  letter : r.letter ≡ letter_of call
  arguments : r.arguments ≡ arguments_asked call
  lettered : letter_of call ≡ 0 → ⊥

module _ (call : Call) (lettered : letter_of call ≡ 0 → ⊥) where
  names : (reply : Reply) (r : Record) → some (recorded (letter_of call) (arguments_asked call) reply) ≡ some r
      → Names call r
  names reply r e =
      let its = some-injective (recorded (letter_of call) (arguments_asked call) reply) r e in
      record {
        letter = ap (λ (x : Record). x.letter) (sym its);
        arguments = ap (λ (x : Record). x.arguments) (sym its);
        lettered = lettered;
      }

named : (call : Call) (reply : Reply) (r : Record) → record_with call reply ≡ some r → Names call r
named (set_up kinds) reply r e = names (set_up kinds) (λ e. omega arith) reply r e
named (begin t) reply r e = names (begin t) (λ e. omega arith) reply r e
named (operate t o number k v) reply r e = names (operate t o number k v) (λ e. omega arith) reply r e
named (batch t operations) reply r e = names (batch t operations) (λ e. omega arith) reply r e
named (finish t list) reply r e = names (finish t list) (λ e. omega arith) reply r e
named (cancel t list) reply r e = names (cancel t list) (λ e. omega arith) reply r e
named (contents o) reply r e = absurd (none-ne-some r e)

record_named : (call : Call) (reply : protocol.Reply) (list : List ℕ) (r : Record)
    → record_of_reply call reply list ≡ some r
    → Names call r
record_named call protocol.ok list r e = named call _ r e
record_named call (protocol.answered answers) list r e = named call _ r e
record_named call (protocol.wait owners count) list r e = named call _ r e
record_named call protocol.finished list r e = named call _ r e
record_named call (protocol.committed count) list r e = named call _ r e
record_named call (protocol.circle count) list r e = named call _ r e
record_named call (protocol.cancelled count) list r e = named call _ r e
record_named call (protocol.counted rows) list r e = absurd (none-ne-some r e)
record_named call (protocol.refused reason) list r e = absurd (none-ne-some r e)

-- A call that has one was accepted.
recorded_accepted : (call : Call) (w : List ℕ) (r : Record) → record_of call (desk call w).outcome ≡ some r
    → reason_of call w ≡ 0
recorded_accepted call w r e =
    no_reason call w
    (λ n refused.
    none-ne-some r
    (sym (ap (λ (reply : protocol.Reply). record_of_reply call reply (desk call w).outcome.list) refused) ∙ e))

-- ---- Asked for again

-- The call as a script's line asks for it: the list is the one that the script lends.
abbrev as_line : Call → Call
as_line (set_up kinds) = set_up kinds
as_line (begin t) = begin t
as_line (operate t o number k v) = operate t o number k v
as_line (batch t operations) = batch t operations
as_line (finish t list) = finish t lent
as_line (cancel t list) = cancel t lent
as_line (contents o) = contents o

low_kinds : (kinds : List ℕ) → All (λ k. k ≤ 3) kinds → some_above 255 kinds ≡ false
low_kinds [] known = refl
low_kinds (k ∷ kinds) known = rw (le-ltb 255 k (omega (arith, known.0)), low_kinds kinds known.1)

set_up_asked : (kinds : List ℕ) → length kinds ≡ 16 → All (λ k. k ≤ 3) kinds → set_up_of kinds ≡ some (set_up kinds)
set_up_asked kinds all known = rw (all, low_kinds kinds known, append-nil)

batch_asked : (t : ℕ) (operations : List ℕ) → length operations ≤ 64 → length operations % 4 ≡ 0
    → batch_of (t ∷ operations) ≡ some (batch t operations)
batch_asked t operations few whole =
    split (too_many operations)
    (λ (many : too_many operations ≡ true).
    absurd (⊎_elim (λ (long : 64 < length operations). omega arith) (λ part. part whole)
    ((too_many_lem operations).0 many)))
    (λ (not-many : too_many operations ≡ false). rw not-many)

-- The letter and arguments of an accepted call ask for it.
asked_again : (call : Call) (w : List ℕ) → reason_of call w ≡ 0 → (letter_of call ≡ 0 → ⊥)
    → asked (letter_of call) (arguments_asked call) ≡ some (as_line call)
asked_again (set_up kinds) w accepted lettered =
    let so = set_up_accepted base w kinds accepted in set_up_asked kinds so.sixteen so.known
asked_again (begin t) w accepted lettered = refl
asked_again (operate t o number k v) w accepted lettered = refl
asked_again (batch t operations) w accepted lettered =
    let so = batch_accepted base whether_sound w t operations accepted in
    batch_asked t operations so.few so.whole
asked_again (finish t list) w accepted lettered = refl
asked_again (cancel t list) w accepted lettered = refl
asked_again (contents o) w accepted lettered = absurd (lettered refl)

-- What a call leaves: its record and the book.
abbrev left : Call → Served → Option Record × List ℕ
left call s = (record_of call s.outcome, s.book)

-- Those that committed stand at the front of any list.
front_same : (committed list other : List ℕ) → let n = length committed in
    take n (committed ++ drop n list) ≡ take n (committed ++ drop n other)
front_same committed list other =
    take-append_seam committed (drop (length committed) list)
    ∙ sym (take-append_seam committed (drop (length committed) other))

module _ (t : ℕ) (list other : List ℕ) where
  -- So it is of a call that ends with this reply code.
  concluded_left : (letter replyCode : ℕ) (r : Settlement) → let n = length r.committed in
      let its : List ℕ → Option Record × List ℕ = λ l.
      (some (recorded letter (t ∷ []) (ended replyCode (take n (r.committed ++ drop n l)))), encode base r.store) in
      its list ≡ its other
  concluded_left letter replyCode r =
      ap (λ (l : List ℕ). (some (recorded letter (t ∷ []) (ended replyCode l)), encode base r.store))
      (front_same r.committed list other)

  finish_left : (s : Store)
      → left (finish t list) (finish_active base s t list) ≡ left (finish t other) (finish_active base s t other)
  finish_left s =
      split (decide (whether_on_cycle s t))
      (λ (cycle : decide (whether_on_cycle s t) ≡ true). rw cycle (concluded_left 70 4 (settled_all (Ended t s))))
      (λ (free : decide (whether_on_cycle s t) ≡ false).
      split (decide (whether_ready s.log t))
      (λ (ready : decide (whether_ready s.log t) ≡ true).
      rw (free, ready) (concluded_left 70 3 (committed_first t (settled_all (commit t s)))))
      (λ (dependent : decide (whether_ready s.log t) ≡ false). rw (free, dependent)))

-- An accepted call leaves the same with the script's list.
end_accepted_again : (w : List ℕ) (t : ℕ) (list : List ℕ) → end_reason base whether_sound w t list ≡ 0
    → end_reason base whether_sound w t lent ≡ 0
end_accepted_again w t list accepted =
    let so = end_accepted base whether_sound w t list accepted in
    end_accepts base whether_sound w t lent
    (record { words = so.words; fits = omega arith; sound = so.sound; below = so.below; active = so.active })

same_left : (call : Call) (w : List ℕ) → reason_of call w ≡ 0
    → left (as_line call) (desk (as_line call) w) ≡ left call (desk call w)
same_left (set_up kinds) w accepted = refl
same_left (begin t) w accepted = refl
same_left (operate t o number k v) w accepted = refl
same_left (batch t operations) w accepted = refl
same_left (finish t list) w accepted =
    ap (left (finish t lent)) (finishing w t lent (end_accepted_again w t list accepted))
    ∙ finish_left t lent list (decode base w)
    ∙ ap (left (finish t list)) (sym (finishing w t list accepted))
same_left (cancel t list) w accepted =
    ap (left (cancel t lent)) (cancelling w t lent (end_accepted_again w t list accepted))
    ∙ concluded_left t lent list 67 5 (settled_all (Ended t (decode base w)))
    ∙ ap (left (cancel t list)) (sym (cancelling w t list accepted))
same_left (contents o) w accepted = refl

-- A recorded call is served again as it was.
pub record Again (call : Call) (w : List ℕ) (r : Record) : Type 0 where
  pub records : (served_again r w).records ≡ r ∷ []
  pub book : (served_again r w).book ≡ (desk call w).book

pub again : (call : Call) (w : List ℕ) (r : Record) → record_of call (desk call w).outcome ≡ some r → Again call w r
again call w r e =
    let accepted = recorded_accepted call w r e in
    let its = record_named call (desk call w).outcome.reply (desk call w).outcome.list r e in
    let asks : asked r.letter r.arguments ≡ some (as_line call) =
    ap₂ asked its.letter its.arguments ∙ asked_again call w accepted its.lettered in
    let so : served_again r w ≡ serving (some (as_line call)) w = ap (λ (c : Option Call). serving c w) asks in
    let same = same_left call w accepted in
    record {
      records =
          ap (λ (s : LineServed). s.records) so
          ∙ ap (λ (l : Option Record × List ℕ). noted l.0 []) same
          ∙ ap (λ (o : Option Record). noted o []) e;
      book = ap (λ (s : LineServed). s.book) so ∙ ap (λ (l : Option Record × List ℕ). l.1) same;
    }

-- ---- No record

no_letter : (call : Call) (reply : Reply) → record_with call reply ≡ none → letter_of call ≡ 0
no_letter (set_up kinds) reply e = absurd (none-ne-some _ (sym e))
no_letter (begin t) reply e = absurd (none-ne-some _ (sym e))
no_letter (operate t o number k v) reply e = absurd (none-ne-some _ (sym e))
no_letter (batch t operations) reply e = absurd (none-ne-some _ (sym e))
no_letter (finish t list) reply e = absurd (none-ne-some _ (sym e))
no_letter (cancel t list) reply e = absurd (none-ne-some _ (sym e))
no_letter (contents o) reply e = refl

-- It is refused, or is contents.
unrecorded : (call : Call) (reply : protocol.Reply) (list : List ℕ) → given_to call reply ≡ true
    → record_of_reply call reply list ≡ none
    → (letter_of call ≡ 0) ⊎ ((n : ℕ) × (reply ≡ protocol.refused n))
unrecorded call protocol.ok list given e = inl (no_letter call _ e)
unrecorded call (protocol.answered answers) list given e = inl (no_letter call _ e)
unrecorded call (protocol.wait owners count) list given e = inl (no_letter call _ e)
unrecorded call protocol.finished list given e = inl (no_letter call _ e)
unrecorded call (protocol.committed count) list given e = inl (no_letter call _ e)
unrecorded call (protocol.circle count) list given e = inl (no_letter call _ e)
unrecorded call (protocol.cancelled count) list given e = inl (no_letter call _ e)
unrecorded call (protocol.counted rows) list given e = inl (eqb-true (letter_of call) 0 given)
unrecorded call (protocol.refused reason) list given e = inr (reason, refl)

contents_kept : (o : ℕ) (w : List ℕ) → (desk (contents o) w).book ≡ w
contents_kept o w =
    ⊎_elim (λ (n, refused). (refused_untouched (contents o) w n refused).0)
    (λ accepted. (contents_leaves w o accepted).1) (refused_or_accepted (contents o) w)

letterless_kept : (call : Call) (w : List ℕ) → letter_of call ≡ 0 → (desk call w).book ≡ w
letterless_kept (set_up kinds) w e = absurd (omega arith)
letterless_kept (begin t) w e = absurd (omega arith)
letterless_kept (operate t o number k v) w e = absurd (omega arith)
letterless_kept (batch t operations) w e = absurd (omega arith)
letterless_kept (finish t list) w e = absurd (omega arith)
letterless_kept (cancel t list) w e = absurd (omega arith)
letterless_kept (contents o) w e = contents_kept o w

pub unrecorded_kept : (call : Call) (w : List ℕ) → record_of call (desk call w).outcome ≡ none → (desk call w).book ≡ w
unrecorded_kept call w e =
    ⊎_elim (letterless_kept call w) (λ (n, refused). (refused_untouched call w n refused).0)
    (unrecorded call (desk call w).outcome.reply (desk call w).outcome.list (desk_gives call w) e)
