-- Laws of replies as the C interface writes them.
use Rattle.std.specs.Prelude.{ℕ, zero, suc, ◌+◌, ◌*◌, ◌≤◌, ◌<◌, ◌≡◌, refl, Bool, cond, ◌⊎◌, List, [], ◌∷◌, map, length}
use Rattle.std.specs.Prelude.{take, drop}
use Rattle.std.proofs.Common.{ap, ap₂, sym, ◌∙◌, inl, inr, ⊎_elim, arith, eq-eqb, ne_eqb}
use Rattle.operations.proofs.Laws.Cases.{same}
use Rattle.store.specs.Layout.{base, decode, object_start}
use Rattle.store.proofs.Decisions.{whether_sound}
use Rattle.store.proofs.Laws.Reading.{kind_below}
use Rattle.protocol.specs.Replies.{Reply, refused, outcome, Served, served}
use Rattle.protocol.specs.Calls as calls
use Rattle.protocol.specs.Terms.{ContentsAccepted}
use Rattle.protocol.proofs.Laws.Reasons.{batch_accepted, contents_accepted, said_no}
use Rattle.protocol.proofs.Laws.Batches.{answers_counted}
use Rattle.protocol.proofs.Laws.Lent.{lent_count}
use Rattle.protocol.proofs.Laws.Leaving.{contents_part}
use Rattle.scheduler.specs.Laws.Serving.{contents_served}
use Rattle.codes.specs.Codes.{numbers_of}
use Rattle.codes.specs.declared.Numbers.{Numbers}
use Rattle.protocol.specs.ReplyOf.{reply_with, reply_of, batched_of, answers_in, Filled}
use Rattle.protocol.specs.declared.Batched.{Batched}
use Rattle.protocol.specs.declared.Reply as declared
use Rattle.protocol.specs.declared.Reply.TheVariants as variants
use Rattle.operations.specs.Operations.{Answer}
use Rattle.operations.specs.Stored.{answer_of}
use Rattle.operations.specs.declared.Answer as words
use Rattle.capi.specs.Exported.{batched, exported, written, written_answers, part, Handed}

module _ {A : Type 0} (write : Numbers → A) where
  -- A call's reply is written by its numbers.
  pub exports : {n : Numbers} (book list rows : List ℕ) {r : Reply} {s : Served} → n ≡ numbers_of r
      → served book (outcome r list rows) ≡ s
      → exported book list (write n) ≡ written write s
  exports book list rows numbered left =
      ap (λ (m : Numbers). exported book list (write m)) numbered ∙ ap (written write) left

-- ---- Batch

-- No batch has more than sixteen answers.
few_answers : (w : List ℕ) (t : ℕ) (operations : List ℕ)
    → length (answers_in (calls.batch base whether_sound w t operations).outcome.reply) ≤ 16
unfolding calls.batch
few_answers w t operations = refused_or (calls.batch_reason base whether_sound w t operations) refl
  where
    qs : List calls.LentOperation
    qs = calls.operations_in operations

    waits_or : length qs ≤ 16 → (set : ℕ) → length (answers_in (calls.respond base w t qs set).outcome.reply) ≤ 16
    waits_or few zero = omega (arith, answers_counted t (decode base w) qs, few)
    waits_or few (suc n) = omega arith

    refused_or : (reason : ℕ) → calls.batch_reason base whether_sound w t operations ≡ reason
        → length (answers_in (calls.unless reason w []
        (calls.respond base w t qs (calls.awaited base t (decode base w) qs))).outcome.reply) ≤ 16
    refused_or zero e =
        waits_or (omega (arith, lent_count operations, (batch_accepted base whether_sound w t operations e).few))
        (calls.awaited base t (decode base w) qs)
    refused_or (suc n) e = omega arith

-- The answers that stand beside a reply are none of the numbers that a batch's struct has.
beside : (answers given : List Answer) (reply : declared.Reply)
    → batched answers (numbers_of (reply_of reply)) ≡ batched answers (numbers_of (reply_with given reply))
beside answers given variants.Ok = refl
beside answers given (variants.Answered code value) = refl
beside answers given variants.Answers = refl
beside answers given (variants.Wait owners count) = refl
beside answers given variants.Finished = refl
beside answers given (variants.Committed count) = refl
beside answers given (variants.Circle count) = refl
beside answers given (variants.Cancelled count) = refl
beside answers given (variants.Counted rows) = refl
beside answers given (variants.Refused reason) = refl

-- Only one of the two is counted.
one_counted : (given : List Answer) (reply : declared.Reply)
    → ((numbers_of (reply_of reply)).count ≡ 0) ⊎ (length (answers_in (reply_with given reply)) ≡ 0)
one_counted given variants.Ok = inl refl
one_counted given (variants.Answered code value) = inl refl
one_counted given variants.Answers = inl refl
one_counted given (variants.Wait owners count) = inr refl
one_counted given variants.Finished = inl refl
one_counted given (variants.Committed count) = inr refl
one_counted given (variants.Circle count) = inr refl
one_counted given (variants.Cancelled count) = inr refl
one_counted given (variants.Counted rows) = inl refl
one_counted given (variants.Refused reason) = inl refl

-- What the code hands back counts no more.
pub few_counted : (b : Batched) → Filled b → (w : List ℕ) (t : ℕ) (operations book : List ℕ)
    → served book (outcome (batched_of b) [] []) ≡ calls.batch base whether_sound w t operations → b.count ≤ 16
few_counted b filled w t operations book left =
    let same = ap (λ (s : Served). length (answers_in s.outcome.reply)) left in
    omega (arith, filled.0, same, few_answers w t operations)

worded : (l : List words.Answer) → map (λ a. record { code = a.code; value = a.value }) (map answer_of l) ≡ l
worded [] = refl
worded (a ∷ l) = ap (λ (x : List words.Answer). a ∷ x) (worded l)

module _ (b : Batched) (filled : Filled b) (n : Numbers) (numbered : n ≡ numbers_of (reply_of b.reply)) where
  abbrev given : List Answer
  given = answers_in (batched_of b)

  -- Answers are counted, or owners.
  pub either_counted : (n.count ≡ 0) ⊎ (b.count ≡ 0)
  either_counted =
      ⊎_elim (λ e. inl (ap (λ (m : Numbers). m.count) numbered ∙ e)) (λ e. inr (filled.0 ∙ e))
      (one_counted (map answer_of (take b.count b.answers)) b.reply)

  pub exports_answers : (book : List ℕ) {s : Served} → served book (outcome (batched_of b) [] []) ≡ s
      → exported book [] (record {
        refusal = n.refusal;
        code = n.code;
        owners = n.owners;
        count = n.count + b.count;
        answers = b.answers;
      }) ≡ written_answers s
  exports_answers book left =
      ap₂ (λ (m : ℕ) (l : List words.Answer). exported book [] (record {
        refusal = n.refusal;
        code = n.code;
        owners = n.owners;
        count = n.count + m;
        answers = l;
      })) filled.0
      (sym (worded b.answers) ∙ ap (map (λ a. record { code = a.code; value = a.value })) filled.1)
      ∙ ap (λ (m : Numbers). exported book [] (batched given m)) numbered
      ∙ ap (exported book []) (beside given (map answer_of (take b.count b.answers)) b.reply)
      ∙ ap written_answers left

-- ---- Contents

module _ (w : List ℕ) (o : ℕ) where
  abbrev handed : Served
  handed = calls.contents base whether_sound w o

  abbrev reason : ℕ
  reason = calls.contents_reason base whether_sound w o

  left_refused : (reason ≡ 0 → ⊥) → served w (outcome (refused reason) [] []) ≡ handed
  unfolding calls.contents
  left_refused applies = said_no reason reason refl w [] _ applies

  module _ (n : Numbers) (numbered : n ≡ numbers_of handed.outcome.reply) where
    -- A number of the reply, where it is known what the call left.
    number : (f : Numbers → ℕ) {s : Served} → s ≡ handed → f n ≡ f (numbers_of s.outcome.reply)
    number f left = ap f (numbered ∙ sym (ap (λ (s : Served). numbers_of s.outcome.reply) left))

    no_reason : n.refusal ≡ 0 → reason ≡ 0
    no_reason none =
        same reason 0 (λ e. e)
        (λ applies. absurd (applies
        (sym (number (λ m. m.refusal) (left_refused applies)) ∙ none)))

    is_accepted : n.refusal ≡ 0 → ContentsAccepted base w o
    is_accepted none = contents_accepted base whether_sound w o (no_reason none)

    pub within : n.refusal ≡ 0 → o < 16
    within none = let a = is_accepted none in kind_below base w o a.kind.0 a.kind.1

    -- A part that starts where `part` says.
    starting : (start : ℕ) → start ≡ (part o n).start
        → record { refusal = n.refusal; start = start; rows = n.rows } ≡ part o (numbers_of handed.outcome.reply)
    starting start e =
        ap (λ (at : ℕ). record { refusal = n.refusal; start = at; rows = n.rows }) e ∙ ap (part o) numbered

    pub accepted_part : n.refusal ≡ 0 → (start : ℕ) → start ≡ object_start o + 2
        → Handed w o (record { refusal = n.refusal; start = start; rows = n.rows })
    accepted_part none start at =
        let left = contents_served w o (sym (no_reason none)) in
        let counted = number (λ m. m.rows) left in (
          starting start (at ∙ sym (ap (λ (b : Bool). cond b (object_start o + 2) 0) (eq-eqb n.refusal 0 none))),
          ap₂ (λ (k : ℕ) (start : ℕ). take (2 * k) (drop start w)) counted at
              ∙ sym (contents_part w o (no_reason none)) ∙ ap (λ (s : Served). s.outcome.rows) left,
        )

    pub refused_part : (n.refusal ≡ 0 → ⊥) → Handed w o (record { refusal = n.refusal; start = 0; rows = n.rows })
    refused_part applies =
        let left =
        left_refused (λ none. applies (number (λ m. m.refusal) (contents_served w o (sym none)))) in (
          starting 0 (sym (ap (λ (b : Bool). cond b (object_start o + 2) 0) (ne_eqb n.refusal 0 applies))),
          ap (λ (k : ℕ). take (2 * k) w) (number (λ m. m.rows) left) ∙ ap (λ (s : Served). s.outcome.rows) left,
        )
