-- What a record that a journal has says of its parts.
use Rattle.std.specs.Prelude.{ℕ, ◌+◌, ◌*◌, ◌-◌, ◌/◌, ◌%◌, ◌≤◌, ◌≡◌, Bool, true, false, cond, ◌&&◌, List, eqb, leb}
use Rattle.std.specs.Prelude.{length}
use Rattle.std.proofs.Common.{sym, ap, ◌∙◌, subst, true≢false, arith, eqb-true, leb-true, ne_eqb}
use Rattle.std.proofs.Math.Option.{none}
use Rattle.operations.proofs.Laws.Cases.{split, by_key}
use Rattle.text.proofs.Laws.Tests.{left, right}
use Rattle.journal.specs.Records.{arguments_of, is_batch, has_reply, gives, operations_of}
use Rattle.journal.specs.Records.{arguments_fit, reply_fits, shaped, Reply, nothing, wait, answered, ended}
use Rattle.journal.specs.Coded.{front, argument_count, answer_count, reply_of, record_of}
use Rattle.journal.specs.declared.Record.{Record}
use Rattle.listing.specs.Listing.{most_line}
use Rattle.letters.specs.Letters.{most_arguments}
use Rattle.listing.specs.Room.{most_number, most_reply}
use Rattle.journal.proofs.Laws.Fronts.{length_front}
use Rattle.letters.specs.Laws.{few_answers}
use Rattle.listing.proofs.Laws.Replying.{Lists, lists_answers, is_ended, lists_ended}

-- No call but a batch has more than a set up's kinds.
abbrev most : ℕ → ℕ
most letter = cond (is_batch letter) most_arguments 16

never_more : (letter n : ℕ) → n ≤ most letter → n ≤ most_arguments
never_more letter n few =
    split (is_batch letter) (λ (e : is_batch letter ≡ true). rw e at few)
    (λ (e : is_batch letter ≡ false). let less : n ≤ 16 = rw e at few in omega arith)

-- As many as the letter has, and no more.
exactly : (count n : ℕ) → (leb count n && eqb (n - count) 0) ≡ true → n ≡ count
exactly count n e =
    let enough = leb count n in
    let no_more = eqb (n - count) 0 in
    omega (
      arith,
      leb-true count n (left enough no_more e),
      eqb-true (n - count) 0 (right enough no_more e),
    )

batch_few : (n : ℕ) → (leb 1 n && (eqb ((n - 1) % 4) 0 && leb (n - 1) 64)) ≡ true → n ≤ most_arguments
batch_few n e =
    let whole = eqb ((n - 1) % 4) 0 in
    let few = leb (n - 1) 64 in
    omega (arith, leb-true (n - 1) 64 (right whole few (right (leb 1 n) (whole && few) e)))

arguments_few : (letter : ℕ) (arguments : List ℕ) → arguments_fit letter arguments (arguments_of letter) ≡ true
    → length arguments ≤ most letter
arguments_few letter arguments =
    let n = length arguments in
    let Few : ℕ → Type 0 = λ l. arguments_fit l arguments (arguments_of l) ≡ true → n ≤ most l in
    let one : (n ≡ 1) → n ≤ 16 = λ e. omega arith in
    by_key Few letter 83 (λ e. omega (arith, exactly 16 n e))
    (λ s. by_key Few letter 73 (λ e. omega (arith, exactly 5 n e))
    (λ i. by_key Few letter 71 (batch_few n)
    (λ g. by_key Few letter 66 (λ e. one (exactly 1 n e))
    (λ b. by_key Few letter 70 (λ e. one (exactly 1 n e))
    (λ f. by_key Few letter 67 (λ e. one (exactly 1 n e))
    (λ c e.
    let unknown : arguments_of letter ≡ none =
    rw (
      ne_eqb letter 83 s,
      ne_eqb letter 73 i,
      ne_eqb letter 71 g,
      ne_eqb letter 66 b,
      ne_eqb letter 70 f,
      ne_eqb letter 67 c,
    ) in
    absurd (true≢false (sym e ∙ ap (arguments_fit letter arguments) unknown))))))))

-- ---- The reply

-- A batch is not ended.
batch_goes_on : (replyCode : ℕ) (few : Bool) → (leb 2 replyCode && leb replyCode 1 && few) ≡ true → ⊥
batch_goes_on replyCode few e =
    let low = leb 2 replyCode in
    let high = leb replyCode 1 in
    let both = left (low && high) few e in
    omega (arith, leb-true 2 replyCode (left low high both), leb-true replyCode 1 (right low high both))

-- There is room for it behind the letter and the arguments, with a tab and a line feed.
abbrev Short : List ℕ → Reply → Type 0
Short arguments reply = 3 + most_number * length arguments + most_reply reply ≤ most_line

batch_short : (arguments : List ℕ) (reply : Reply) → length arguments ≤ most_arguments
    → reply_fits 71 arguments reply ≡ true
    → Short arguments reply
batch_short arguments nothing few e = omega arith
batch_short arguments (wait owners) few e = omega arith
batch_short arguments (answered answers) few e =
    omega (arith, eqb-true (length answers) (2 * ((length arguments - 1) / 4)) e)
batch_short arguments (ended replyCode list) few e = absurd (batch_goes_on replyCode (leb (length list) 64) e)

list_few : (letter replyCode : ℕ) (arguments list : List ℕ) → reply_fits letter arguments (ended replyCode list) ≡ true
    → length list ≤ 64
list_few letter replyCode arguments list e =
    leb-true (length list) 64 (right (leb 2 replyCode && gives letter replyCode) (leb (length list) 64) e)

other_short : (letter : ℕ) (arguments : List ℕ) (reply : Reply) → eqb letter 71 ≡ false → length arguments ≤ 16
    → reply_fits letter arguments reply ≡ true
    → Short arguments reply
other_short letter arguments nothing other few e = omega arith
other_short letter arguments (wait owners) other few e = omega arith
other_short letter arguments (answered answers) other few e =
    let count = length answers in
    let operations = operations_of letter arguments in
    let one : operations ≡ 1 = rw other in
    omega (arith, one, eqb-true count (2 * operations) (right (gives letter 1) (eqb count (2 * operations)) e))
other_short letter arguments (ended replyCode list) other few e =
    omega (arith, list_few letter replyCode arguments list e)

reply_short : (letter : ℕ) (arguments : List ℕ) (reply : Reply) → length arguments ≤ most letter
    → reply_fits letter arguments reply ≡ true
    → Short arguments reply
reply_short letter arguments reply few =
    split (eqb letter 71)
    (λ (e : eqb letter 71 ≡ true).
    let batch = eqb-true letter 71 e in
    λ fits. batch_short arguments reply (rw e at few)
    (subst (λ (l : ℕ). reply_fits l arguments reply ≡ true) batch fits))
    (λ (e : eqb letter 71 ≡ false). other_short letter arguments reply e (rw e at few))

-- ---- A record of the code

module _ (r : Record) (so : shaped (record_of r) ≡ true) where
  abbrev count : ℕ
  count = argument_count r.letter r.operations

  abbrev arguments : List ℕ
  arguments = front count r.arguments

  arguments_fit_lem : arguments_fit r.letter arguments (arguments_of r.letter) ≡ true
  arguments_fit_lem = left _ (reply_fits r.letter arguments (reply_of r)) so

  reply_fits_lem : reply_fits r.letter arguments (reply_of r) ≡ true
  reply_fits_lem = right (arguments_fit r.letter arguments (arguments_of r.letter)) _ so

  at_most : length arguments ≤ most r.letter
  at_most = arguments_few r.letter arguments arguments_fit_lem

  pub few_arguments : count ≤ most_arguments
  few_arguments =
      subst (λ (n : ℕ). n ≤ most_arguments) (length_front count r.arguments)
      (never_more r.letter (length arguments) at_most)

  pub short : 3 + most_number * count + most_reply (reply_of r) ≤ most_line
  short =
      subst (λ (n : ℕ). 3 + most_number * n + most_reply (reply_of r) ≤ most_line) (length_front count r.arguments)
      (reply_short r.letter arguments (reply_of r) at_most reply_fits_lem)

  pub few_listed : has_reply r.letter ≡ true → (r.code ≡ 0 → ⊥) → (r.code ≡ 1 → ⊥) → r.listed ≤ 64
  few_listed e zero one =
      let list = front r.listed r.numbers in
      let fits : reply_fits r.letter arguments (ended r.code list) ≡ true =
      subst (λ (reply : Reply). reply_fits r.letter arguments reply ≡ true) (is_ended r e zero one) reply_fits_lem in
      omega (arith, length_front r.listed r.numbers, list_few r.letter r.code arguments list fits)

  -- The list is within its array, and so is printed whole.
  module _ (all : length r.numbers ≡ 64) (e : has_reply r.letter ≡ true) where
    pub answers_listed : {n : ℕ} → r.code ≡ 1 → n ≡ answer_count r.letter r.operations → Lists r 1 n
    answers_listed one counted =
        lists_answers r e one counted (omega (arith, all, counted, few_answers r.letter r.operations few_arguments))

    pub others_listed : (r.code ≡ 0 → ⊥) → (r.code ≡ 1 → ⊥) → Lists r r.code r.listed
    others_listed zero one = lists_ended r e zero one (omega (arith, all, few_listed e zero one))

-- How many numbers a record's parts have.
pub ruleset bounds = (few_arguments, few_listed, few_answers)
