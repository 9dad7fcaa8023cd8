-- What a reply puts behind a call, and the records of a call and of a batch.
use Rattle.std.specs.Prelude as code
use Rattle.std.specs.Prelude.{ℕ, ◌≤◌, min, ◌≡◌, refl, true, false, eqb, List, [], ◌∷◌, None, map, length, take}
use Rattle.std.proofs.Common.{sym, ap, ◌∙◌, subst, arith, take_at, length-take-le}
use Rattle.std.proofs.Math.Path.{subst⁻¹}
use Rattle.std.proofs.Math.Seq.{take-nil}
use Rattle.operations.specs.Operations as operations
use Rattle.operations.specs.Stored.{answer_of}
use Rattle.operations.proofs.Laws.Cases.{same}
use Rattle.replay.specs.Laws.Lists.{map_take}
use Rattle.protocol.specs.Replies as protocol
use Rattle.protocol.specs.Replies.{answer_numbers}
use Rattle.protocol.specs.ReplyOf.{reply_with, reply_of, batched_of, answers_in, Filled}
use Rattle.protocol.proofs.Laws.Beside.{take_min, front_numbers}
use Rattle.protocol.specs.declared.Batched.{Batched}
use Rattle.protocol.specs.declared.Reply.{Reply}
use Rattle.protocol.specs.declared.Reply.TheVariants.{Ok, Answered, Answers, Wait, Finished, Committed, Circle}
use Rattle.protocol.specs.declared.Reply.TheVariants.{Cancelled, Counted, Refused}
use Rattle.codes.specs.Codes.{numbers_of}
use Rattle.codes.specs.declared.Numbers.{Numbers}
use Rattle.lines.specs.Coded.{call_of}
use Rattle.lines.specs.declared.Call.{Call}
use Rattle.lines.specs.declared.Call.TheVariants.{SetUp, Begin, Operate, Batch, Finish, Cancel}
use Rattle.journal.specs.Coded.{front}
use Rattle.journal.specs.declared.Record.{Record}
use Rattle.recording.specs.Recording.{letter_of, given_to, Recorded}
use Rattle.recording.specs.Parts.{Begins, Called, NumbersPut, Completed}
use Rattle.recording.specs.Laws.Records.{Tells, Behind, none_made, record_made}

-- No call of the code is contents.
lettered : (call : Call) → eqb (letter_of (call_of call)) 0 ≡ false
lettered (SetUp kinds) = refl
lettered (Begin t) = refl
lettered (Operate t o number k v) = refl
lettered (Batch t operations) = refl
lettered (Finish t) = refl
lettered (Cancel t) = refl

-- ---- A call that has one answer at most

-- An answer names nobody.
answered_none : (reply : protocol.Reply) → (numbers_of reply).code ≡ 1 → (numbers_of reply).count ≡ 0
answered_none protocol.ok e = refl
answered_none (protocol.answered answers) e = refl
answered_none (protocol.wait owners count) e = absurd (omega arith)
answered_none protocol.finished e = refl
answered_none (protocol.committed count) e = absurd (omega arith)
answered_none (protocol.circle count) e = absurd (omega arith)
answered_none (protocol.cancelled count) e = absurd (omega arith)
answered_none (protocol.counted rows) e = refl
answered_none (protocol.refused reason) e = refl

one_answer : (reply : Reply) (behind : List ℕ) → let told = numbers_of (reply_of reply) in
    (told.code ≡ 1 → Begins (told.answer ∷ told.value ∷ []) behind)
    → Begins (answer_numbers (answers_in (reply_of reply))) behind
one_answer Ok behind first = refl
one_answer (Answered code value) behind first = first refl
one_answer Answers behind first = refl
one_answer (Wait owners count) behind first = refl
one_answer Finished behind first = refl
one_answer (Committed count) behind first = refl
one_answer (Circle count) behind first = refl
one_answer (Cancelled count) behind first = refl
one_answer (Counted rows) behind first = refl
one_answer (Refused reason) behind first = refl

module _ (reply : Reply) (list : List ℕ) (count : ℕ)
    (counted : count ≡ min (numbers_of (reply_of reply)).count (length list)) (behind : List ℕ)
    (put : NumbersPut (numbers_of (reply_of reply)) (take count list) behind) where
  abbrev told : Numbers
  told = numbers_of (reply_of reply)

  taken : take count list ≡ take told.count list
  taken = ap (λ (n : ℕ). take n list) counted ∙ take_min told.count list

  one_behind : Behind (reply_of reply) list count behind
  one_behind =
      record {
        answers = one_answer reply behind put.answer;
        named =
            same told.code 1
            (λ (answered : told.code ≡ 1).
            let nobody = answered_none (reply_of reply) answered in
            let none-listed : count ≡ 0 = counted ∙ ap (λ (n : ℕ). min n (length list)) nobody ∙ omega arith in
            (λ j. front (none-listed j) behind) ∙ ap (λ (n : ℕ). take n list) (sym nobody))
            (λ (other : told.code ≡ 1 → ⊥).
            let all : length (take count list) ≡ count = length-take-le count list (omega arith) in
            ap (λ (n : ℕ). front n behind) (sym all) ∙ put.others other ∙ taken);
      }

pub call_recorded : (call : Call) (reply : Reply) (list : List ℕ) → length list ≤ 64
    → given_to (call_of call) (reply_of reply) ≡ true
    → (c : Record) → Called (call_of call) c → (told : Numbers) → told ≡ numbers_of (reply_of reply)
    → (count : ℕ) → count ≡ min told.count (length list)
    → (behind : List ℕ) → NumbersPut told (take count list) behind
    → (r : code.Option Record) → Completed c told count behind r → Recorded (call_of call) (reply_of reply) list r
call_recorded call reply list few given c named told is count counted behind put =
    record_made (call_of call) (lettered call) list few c told count behind named (reply_of reply)
    (record {
      refusal = ap (λ (n : Numbers). n.refusal) is;
      code = ap (λ (n : Numbers). n.code) is;
      owners = ap (λ (n : Numbers). n.owners) is;
    })
    (one_behind reply list count
    (counted ∙ ap (λ (n : Numbers). min n.count (length list)) is) behind
    (subst (λ (n : Numbers). NumbersPut n (take count list) behind) is put))
    given

-- A call that is refused has no record.
pub call_refused : (call : Call) (reply : Reply) (list : List ℕ) (said : Numbers) → said ≡ numbers_of (reply_of reply)
    → (said.refusal ≡ 0 → ⊥) → Recorded (call_of call) (reply_of reply) list None
call_refused call reply list said is refused =
    none_made (call_of call) (reply_of reply) list (λ accepted. refused (ap (λ (n : Numbers). n.refusal) is ∙ accepted))

-- ---- A batch

-- No number that a record has is among the answers beside a reply.
told_beside : (answers : List operations.Answer) (reply : Reply)
    → Tells (reply_with answers reply) (numbers_of (reply_of reply))
told_beside answers Ok = record { refusal = refl; code = refl; owners = refl }
told_beside answers (Answered code value) = record { refusal = refl; code = refl; owners = refl }
told_beside answers Answers = record { refusal = refl; code = refl; owners = refl }
told_beside answers (Wait owners count) = record { refusal = refl; code = refl; owners = refl }
told_beside answers Finished = record { refusal = refl; code = refl; owners = refl }
told_beside answers (Committed count) = record { refusal = refl; code = refl; owners = refl }
told_beside answers (Circle count) = record { refusal = refl; code = refl; owners = refl }
told_beside answers (Cancelled count) = record { refusal = refl; code = refl; owners = refl }
told_beside answers (Counted rows) = record { refusal = refl; code = refl; owners = refl }
told_beside answers (Refused reason) = record { refusal = refl; code = refl; owners = refl }

-- Those at the array's front are the reply's.
front_answers : (b : Batched) → Filled b → map answer_of (take b.count b.answers) ≡ answers_in (batched_of b)
front_answers b (counted, places) =
    map_take answer_of b.count b.answers ∙ ap (take b.count) places
    ∙ take_at (answers_in (batched_of b)) _ b.count (sym counted)

pub batch_recorded : (call : Call) (b : Batched) → Filled b → given_to (call_of call) (batched_of b) ≡ true
    → (c : Record) → Called (call_of call) c → (told : Numbers) → told ≡ numbers_of (reply_of b.reply)
    → (behind : List ℕ) → Begins (front_numbers b.answers b.count) behind
    → (r : code.Option Record) → Completed c told 0 behind r → Recorded (call_of call) (batched_of b) [] r
batch_recorded call b full given c named told is behind put =
    record_made (call_of call) (lettered call) [] (omega arith) c told 0 behind named (batched_of b)
    (subst⁻¹ (Tells (batched_of b)) is (told_beside _ b.reply))
    (record {
      answers = subst (λ (l : List operations.Answer). Begins (answer_numbers l) behind) (front_answers b full) put;
      named = sym (take-nil (numbers_of (batched_of b)).count);
    })
    given

-- A batch that is refused has none.
pub batch_refused : (call : Call) (b : Batched) (said : Numbers) → said ≡ numbers_of (reply_of b.reply)
    → (said.refusal ≡ 0 → ⊥) → Recorded (call_of call) (batched_of b) [] None
batch_refused call b said is refused =
    let tells : Tells (batched_of b) said = subst⁻¹ (Tells (batched_of b)) is (told_beside _ b.reply) in
    none_made (call_of call) (batched_of b) [] (λ accepted. refused (tells.refusal ∙ accepted))
