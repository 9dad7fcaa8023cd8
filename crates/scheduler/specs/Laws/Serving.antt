-- What a call leaves, from the reason that the code finds: refused where there is one, and else served.
use Rattle.std.specs.Prelude.{ℕ, zero, suc, ◌+◌, ◌*◌, ◌/◌, ◌≡◌, refl, length, take, drop}
use Rattle.std.proofs.Common.{sym, ◌∙◌, subst}
use Rattle.std.proofs.Math.Path.{ap, ap₂}
use mathlib.Core.List.{List, [], ◌∷◌, map}
use Rattle.std.proofs.Math.Seq.{take-append_seam}
use Rattle.replay.specs.Laws.Lists.{map_take}
use Rattle.operations.specs.Operations.{Operation, Answer}
use Rattle.operations.specs.declared.Answer as answers
use Rattle.operations.specs.Stored.{answer_of}
use Rattle.store.specs.Store.{active, object_of, on_object}
use Rattle.store.specs.Layout.{base, encode, decode, object_start, joined, row_words}
use Rattle.store.proofs.Decisions.{whether_sound}
use Rattle.store.specs.Steps.{with_status}
use Rattle.bitset.specs.Bitset.{size}
use Rattle.protocol.specs.Replies.{ok, answered, wait, counted, refused, outcome, Served, served}
use Rattle.protocol.specs.Calls.{LentOperation}
use Rattle.protocol.specs.Calls as calls
use Rattle.protocol.proofs.Laws.Leaving.{counted_part}
use Rattle.protocol.specs.ReplyOf.{batched_of, filled, Filled}
use Rattle.protocol.specs.declared.Batched.{Batched}
use Rattle.protocol.specs.declared.Reply.TheVariants.{Answers, Wait, Refused}
use Rattle.protocol.proofs.Laws.Reasons.{unless_accepted, said_no}
use Rattle.protocol.proofs.Laws.Batches.{answers_counted}
use Rattle.protocol.proofs.Laws.Lent.{lent_count}
use Rattle.std.proofs.Common.{true, false, true≢false, Result, Ok, Err}
use Rattle.std.specs.Result.{is_err}
use Rattle.protocol.specs.Refusals.{refusal_number, reason_of}
use Rattle.protocol.specs.declared.Refusal.{Refusal}
use Rattle.refusals.specs.Laws.{number_named}
use Rattle.scheduler.specs.Unanswered.{unanswered}

module _ (n : ℕ) (w list : List ℕ) (s : Served) where
  accepted : 0 ≡ n → s ≡ calls.unless n w list s
  accepted none = sym (unless_accepted n w list s (sym none))

  refuses : (reason : Refusal) → refusal_number reason ≡ n
      → served w (outcome (refused (refusal_number reason)) list []) ≡ calls.unless n w list s
  refuses reason found = said_no n (refusal_number reason) found w list s (number_named reason)

-- ---- Set up and begin

module _ (w kinds : List ℕ) where
  pub set_up_refused : (reason : Refusal) → refusal_number reason ≡ calls.set_up_reason base w kinds
      → served w (outcome (refused (refusal_number reason)) [] []) ≡ calls.set_up base w kinds
  unfolding calls.set_up
  set_up_refused = refuses _ w [] _

  pub set_up_done : 0 ≡ calls.set_up_reason base w kinds → (after : List ℕ) → after ≡ encode base (calls.empty kinds)
      → served after (outcome ok [] []) ≡ calls.set_up base w kinds
  unfolding calls.set_up
  set_up_done none after written =
      ap (λ (x : List ℕ). served x (outcome ok [] [])) written ∙ accepted _ w [] _ none

module _ (w : List ℕ) (t : ℕ) where
  pub begin_refused : (reason : Refusal) → refusal_number reason ≡ calls.begin_reason base whether_sound w t
      → served w (outcome (refused (refusal_number reason)) [] []) ≡ calls.begin base whether_sound w t
  unfolding calls.begin
  begin_refused = refuses _ w [] _

  pub begin_done : 0 ≡ calls.begin_reason base whether_sound w t → (after : List ℕ)
      → after ≡ encode base (with_status t active (decode base w))
      → served after (outcome ok [] []) ≡ calls.begin base whether_sound w t
  unfolding calls.begin
  begin_done none after written =
      ap (λ (x : List ℕ). served x (outcome ok [] [])) written ∙ accepted _ w [] _ none

-- ---- Operate

module _ (w : List ℕ) (t : ℕ) (qs : List LentOperation) where
  waits : (set : ℕ) → (set ≡ 0 → ⊥)
      → served w (outcome (wait set (size set)) [] []) ≡ calls.respond base w t qs set
  waits zero other = absurd (other refl)
  waits (suc n) other = refl

module _ (w : List ℕ) (t : ℕ) (operations : List ℕ) where
  abbrev qs : List LentOperation
  qs = calls.operations_in operations

  abbrev awaited : ℕ
  awaited = calls.awaited base t (decode base w) qs

  batch_refused : (reason : Refusal) → refusal_number reason ≡ calls.batch_reason base whether_sound w t operations
      → served w (outcome (refused (refusal_number reason)) [] []) ≡ calls.batch base whether_sound w t operations
  unfolding calls.batch
  batch_refused = refuses _ w [] _

  batch_waits : 0 ≡ calls.batch_reason base whether_sound w t operations → (set count : ℕ) → set ≡ awaited
      → (set ≡ 0 → ⊥) → count ≡ size set
      → served w (outcome (wait set count) [] []) ≡ calls.batch base whether_sound w t operations
  unfolding calls.batch
  batch_waits e set count scanned other sized =
      ap (λ (n : ℕ). served w (outcome (wait set n) [] [])) sized
      ∙ waits w t qs set other
      ∙ ap (calls.respond base w t qs) scanned
      ∙ accepted _ w [] _ e

  batch_answers : 0 ≡ calls.batch_reason base whether_sound w t operations → (set : ℕ) → set ≡ awaited → set ≡ 0
      → (given : List Answer) → given ≡ calls.answers_to base t qs (decode base w)
      → (after : List ℕ) → after ≡ encode base (calls.run_all base t qs (decode base w))
      → served after (outcome (answered given) [] []) ≡ calls.batch base whether_sound w t operations
  unfolding calls.batch
  batch_answers e set scanned free given replayed after written =
      ap₂ (λ (x : List ℕ) (l : List Answer). served x (outcome (answered l) [] [])) written replayed
      ∙ ap (calls.respond base w t qs) (sym free ∙ scanned)
      ∙ accepted _ w [] _ e

  -- What the code hands back, with the array.
  abbrev Leaves : List ℕ → Batched → Type 0
  Leaves after b =
      (served after (outcome (batched_of b) [] []) ≡ calls.batch base whether_sound w t operations) × Filled b

  pub leaves_refused : (reason : Refusal) → refusal_number reason ≡ calls.batch_reason base whether_sound w t operations
      → (b : Batched) → b ≡ unanswered (Refused (refusal_number reason)) → Leaves w b
  leaves_refused reason found b made = subst (Leaves w) (sym made) (batch_refused reason found, (refl, refl))

  module _ (e : 0 ≡ calls.batch_reason base whether_sound w t operations) (set : ℕ) (scanned : set ≡ awaited) where
    pub leaves_waiting : (b : Batched) (count : ℕ) → b ≡ unanswered (Wait set count) → (set ≡ 0 → ⊥) → count ≡ size set
        → Leaves w b
    leaves_waiting b count made other sized =
        subst (Leaves w) (sym made) (batch_waits e set count scanned other sized, (refl, refl))

    pub leaves_answered : set ≡ 0 → (given : List answers.Answer) (after : List ℕ)
        → after ≡ encode base (calls.run_all base t qs (decode base w))
        → map answer_of given ≡ filled (calls.answers_to base t qs (decode base w))
        → Leaves after (record { reply = Answers; count = length operations / 4; answers = given })
    leaves_answered free given after written put =
        let replayed = calls.answers_to base t qs (decode base w) in
        let n = length operations / 4 in
        let many : n ≡ length replayed = sym (answers_counted t (decode base w) qs ∙ lent_count operations) in
        let taken : map answer_of (take n given) ≡ replayed =
        map_take answer_of n given ∙ ap (take n) put ∙ ap (λ (m : ℕ). take m (filled replayed)) many
        ∙ take-append_seam replayed _ in (
          batch_answers e set scanned free (map answer_of (take n given)) taken after written,
          (many ∙ ap length (sym taken), put ∙ ap filled (sym taken)),
        )

-- Operate is the batch of one.
module _ (w : List ℕ) (t o number k v : ℕ) where
  abbrev lent : List ℕ
  lent = o ∷ number ∷ k ∷ v ∷ []

  abbrev requested : Operation
  requested = calls.request base number k v

  abbrev owners : ℕ
  owners = calls.owners t requested (on_object o (decode base w).log)

  abbrev Accepted : Type 0
  Accepted = 0 ≡ calls.operate_reason base whether_sound w t o number k v

  pub operate_refused : (reason : Refusal)
      → refusal_number reason ≡ calls.operate_reason base whether_sound w t o number k v
      → served w (outcome (refused (refusal_number reason)) [] [])
      ≡ calls.operate base whether_sound w t o number k v
  unfolding calls.operate
  operate_refused = batch_refused w t lent

  pub operate_waits : Accepted → (set count : ℕ) → set ≡ owners → (set ≡ 0 → ⊥) → count ≡ size set
      → served w (outcome (wait set count) [] []) ≡ calls.operate base whether_sound w t o number k v
  unfolding calls.operate
  operate_waits = batch_waits w t lent

  pub operate_answers : Accepted → (set : ℕ) → set ≡ owners → set ≡ 0 → (answer : Answer)
      → answer ≡ calls.answer_to requested (decode base w) o
      → (after : List ℕ) → after ≡ encode base (calls.entered t o requested (decode base w))
      → served after (outcome (answered (answer ∷ [])) [] []) ≡ calls.operate base whether_sound w t o number k v
  unfolding calls.operate
  operate_answers e set scanned free answer replayed after written =
      batch_answers w t lent e set scanned free (answer ∷ [])
      (ap (λ (a : Answer). a ∷ []) replayed) after written

-- ---- Contents

module _ (w : List ℕ) (o : ℕ) where
  pub contents_refused : (reason : Refusal) → refusal_number reason ≡ calls.contents_reason base whether_sound w o
      → served w (outcome (refused (refusal_number reason)) [] []) ≡ calls.contents base whether_sound w o
  unfolding calls.contents
  contents_refused = refuses _ w [] _

  pub contents_served : 0 ≡ calls.contents_reason base whether_sound w o
      → let rows = (object_of (decode base w) o).rows in
      served w (outcome (counted (length rows)) [] (joined row_words rows)) ≡ calls.contents base whether_sound w o
  unfolding calls.contents
  contents_served = accepted _ w [] _

-- Where a reason was found nothing is handed back, and where none was the call may be served.
module _ {T : Type 0} (w : List ℕ) (o : ℕ) where
  abbrev Found : Result T Refusal → Type 0
  Found r = reason_of r ≡ calls.contents_reason base whether_sound w o

  pub contents_nothing : (r : Result T Refusal) → Found r → is_err r ≡ true
      → [] ≡ (calls.contents base whether_sound w o).outcome.rows
  contents_nothing (Ok x) found e = absurd (true≢false (sym e))
  contents_nothing (Err reason) found e = ap (λ (s : Served). s.outcome.rows) (contents_refused w o reason found)

  pub contents_free : (r : Result T Refusal) → Found r → is_err r ≡ false
      → 0 ≡ calls.contents_reason base whether_sound w o
  contents_free (Ok x) found e = found
  contents_free (Err reason) found e = absurd (true≢false e)

-- What contents hands back is that part of the book.
pub contents_handed : (w : List ℕ) (o : ℕ) (part : List ℕ) → part ≡ (calls.contents base whether_sound w o).outcome.rows
    → (part ≡ (calls.contents base whether_sound w o).outcome.rows)
    × ((n : ℕ) → (calls.contents base whether_sound w o).outcome.reply ≡ counted n
    → part ≡ take (2 * n) (drop (object_start o + 2) w))
contents_handed w o part e = (e, λ n said. e ∙ counted_part w o n said)
