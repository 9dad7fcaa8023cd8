-- Which numbers a shaped record is written as.
use Rattle.std.specs.Prelude.{ℕ, ◌≤◌, ◌<◌, ◌≡◌, Bool, true, cond, List, ◌∷◌, ◌++◌, length, take, drop}
use Rattle.std.proofs.Common.{sym, ap, ap₂, ◌∙◌, arith, ne_eqb, eq-eqb, lt-ltb}
use Rattle.std.proofs.Math.Bool.{◌&&◌}
use Rattle.bitset.specs.Bitset.{members}
use Rattle.journal.specs.Groups.{groups, grouped, narrow}
use Rattle.journal.specs.Records.{is_batch, has_reply, operations_of, argument_numbers, reply_numbers, shaped}
use Rattle.journal.specs.Coded.{argument_count, answer_count, reply_of, record_of}
use Rattle.journal.specs.declared.Record.{Record}
use Rattle.journal.proofs.Laws.Fronts.{length_front, front_taken}
use Rattle.journal.proofs.Laws.Groups.{grouped_append, narrow_append}
use Rattle.journal.proofs.Laws.Members.{members_few}
use Rattle.journal_writer.specs.Laws.Putting.{members_narrow}
use Rattle.journal_writer.specs.Laws.Replies.{a_wait, an_answer, an_end}
use Rattle.journal_writer.specs.Laws.Shape.{taken, sized, operations_of_lem, few_arguments, few_operations}
use Rattle.journal_writer.specs.Laws.Shape.{few_answers, few_listed}

-- ---- Arguments

module _ (r : Record) (so : shaped (record_of r) ≡ true) (long : length r.arguments ≡ 65) where
  abbrev arguments : List ℕ
  arguments = take (argument_count r.letter r.operations) r.arguments

  there : taken r ≡ arguments
  there = front_taken (argument_count r.letter r.operations) r.arguments (omega (arith, few_arguments r so))

  abbrev split : Bool → List ℕ
  split batch = cond batch (take 1 (taken r) ++ (operations_of r.letter (taken r) ∷ drop 1 (taken r))) (taken r)

  pub other_numbers : (r.letter ≡ 71 → ⊥) → argument_numbers r.letter (taken r) ≡ arguments
  other_numbers e = ap split (ne_eqb r.letter 71 e) ∙ there

  module _ (batch : r.letter ≡ 71) where
    is : is_batch r.letter ≡ true
    is = eq-eqb r.letter 71 batch

    numbers : argument_numbers r.letter (taken r) ≡ take 1 arguments ++ (r.operations ∷ drop 1 arguments)
    numbers =
        let count : operations_of r.letter (taken r) ≡ r.operations =
        operations_of_lem r.letter r.operations (taken r) (sized r) ∙ ap (λ (b : Bool). cond b r.operations 1) is in
        ap split is ∙ ap₂ (λ (n : ℕ) (l : List ℕ). take 1 l ++ (n ∷ drop 1 l)) count there

    pub batch_bytes : grouped (argument_numbers r.letter (taken r))
        ≡ grouped (take 1 arguments) ++ (groups r.operations ++ grouped (drop 1 arguments))
    batch_bytes = ap grouped numbers ∙ grouped_append (take 1 arguments) (r.operations ∷ drop 1 arguments)

    pub batch_small : narrow (take 1 arguments) ≡ true → narrow (drop 1 arguments) ≡ true
        → narrow (argument_numbers r.letter (taken r)) ≡ true
    batch_small first others =
        let count : narrow (r.operations ∷ drop 1 arguments) ≡ true =
        ap₂ ◌&&◌ (lt-ltb r.operations 4_294_967_296 (omega (arith, few_operations r so is))) others in
        ap narrow numbers ∙ narrow_append (take 1 arguments) (r.operations ∷ drop 1 arguments) first count

-- ---- A reply

module _ (r : Record) (so : shaped (record_of r) ≡ true) (long : length r.numbers ≡ 64)
    (replies : has_reply r.letter ≡ true) where
  pub wait_small : r.code ≡ 0 → narrow (reply_numbers (reply_of r)) ≡ true
  wait_small e =
      ap narrow (ap reply_numbers (a_wait r replies e))
      ∙ rw (lt-ltb (length (members r.owners)) 4_294_967_296 (omega (arith, members_few r.owners)))
      (members_narrow r.owners)

  pub answer_numbers : r.code ≡ 1
      → reply_numbers (reply_of r) ≡ r.code ∷ take (answer_count r.letter r.operations) r.numbers
  answer_numbers e =
      ap reply_numbers (an_answer r replies e)
      ∙ ap₂ (λ (n : ℕ) (l : List ℕ). n ∷ l) (sym e)
      (front_taken (answer_count r.letter r.operations) r.numbers (omega (arith, few_answers r so)))

  module _ (more : 2 ≤ r.code) where
    few : r.listed ≤ 64
    few = few_listed r so replies more

    pub list_numbers : reply_numbers (reply_of r) ≡ r.code ∷ r.listed ∷ take r.listed r.numbers
    list_numbers =
        ap reply_numbers (an_end r replies more)
        ∙ ap₂ (λ (n : ℕ) (l : List ℕ). r.code ∷ n ∷ l) (length_front r.listed r.numbers)
        (front_taken r.listed r.numbers (omega (arith, few)))

    pub list_small : r.code < 4_294_967_296 → narrow (take r.listed r.numbers) ≡ true
        → narrow (reply_numbers (reply_of r)) ≡ true
    list_small fits others =
        ap narrow list_numbers
        ∙ rw (lt-ltb r.code 4_294_967_296 fits, lt-ltb r.listed 4_294_967_296 (omega (arith, few))) others
