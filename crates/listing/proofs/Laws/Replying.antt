-- Which reply a record has, and how much room its text takes.
use Rattle.std.specs.Prelude.{ℕ, ◌+◌, ◌*◌, ◌≤◌, ◌≡◌, true, List, ◌++◌, length, take}
use Rattle.std.proofs.Common.{sym, ap, ◌∙◌, subst, arith, ne_eqb}
use Rattle.std.proofs.Math.Path.{subst⁻¹}
use Rattle.operations.proofs.Laws.Cases.{by_key}
use Rattle.replies.specs.Printed.{spaced}
use Rattle.journal.specs.Records.{has_reply, Reply, answered, ended}
use Rattle.journal.specs.Coded.{front, answer_count, reply_of}
use Rattle.journal.specs.declared.Record.{Record}
use Rattle.listing.specs.Listing.{end_word, reply_text}
use Rattle.listing.specs.Room.{most_number, list_word, most_reply}
use Rattle.journal.proofs.Laws.Fronts.{front_taken}

word_length : (replyCode : ℕ) → length (end_word replyCode) ≤ 9
word_length replyCode =
    let Few : ℕ → Type 0 = λ k. length (end_word k) ≤ 9 in
    by_key Few replyCode 2 (omega arith)
    (λ two. by_key Few replyCode 3 (omega arith)
    (λ three. by_key Few replyCode 4 (omega arith)
    (λ four. rw (ne_eqb replyCode 2 two, ne_eqb replyCode 3 three, ne_eqb replyCode 4 four) (omega arith))))

-- ---- Which reply it is

module _ (r : Record) where
  -- The reply's text is this, and room enough for it is so much.
  pub record Says (text : List ℕ) (room : ℕ) : Type 0 where
    pub same : reply_text (reply_of r) ≡ text
    pub short : room ≤ most_reply (reply_of r)

  told : (reply : Reply) {room : ℕ} → reply_of r ≡ reply → room ≤ most_reply reply → Says (reply_text reply) room
  told reply {room} e short =
      record { same = ap reply_text e; short = subst⁻¹ (λ (x : Reply). room ≤ most_reply x) e short }

  -- The word of a reply code, and so many numbers.
  abbrev pub Lists : ℕ → ℕ → Type 0
  Lists replyCode n =
      let list = take n r.numbers in
      Says (list_word replyCode ++ spaced list) (length (list_word replyCode) + most_number * length list)

  module _ (e : has_reply r.letter ≡ true) where
    pub lists_answers : {n : ℕ} → r.code ≡ 1 → n ≡ answer_count r.letter r.operations → n ≤ length r.numbers → Lists 1 n
    lists_answers {n} one all within =
        let its : reply_of r ≡ answered (front (answer_count r.letter r.operations) r.numbers) = rw (e, one) in
        told (answered (take n r.numbers))
        (its ∙ ap (λ (m : ℕ). answered (front m r.numbers)) (sym all) ∙ ap answered (front_taken n r.numbers within))
        (omega arith)

    pub is_ended : (r.code ≡ 0 → ⊥) → (r.code ≡ 1 → ⊥)
        → reply_of r ≡ ended r.code (front r.listed r.numbers)
    is_ended zero one = rw (e, ne_eqb r.code 0 zero, ne_eqb r.code 1 one)

    pub lists_ended : (r.code ≡ 0 → ⊥) → (r.code ≡ 1 → ⊥) → r.listed ≤ length r.numbers → Lists r.code r.listed
    lists_ended zero one within =
        let list = take r.listed r.numbers in
        let word : end_word r.code ≡ list_word r.code = rw (ne_eqb r.code 1 one) in
        subst (λ (x : List ℕ). Says (x ++ spaced list) (length x + most_number * length list)) word
        (told (ended r.code list) (is_ended zero one ∙ ap (ended r.code) (front_taken r.listed r.numbers within))
        (omega (arith, word_length r.code)))
