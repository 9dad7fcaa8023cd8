-- What the code tests of a record says whether it is shaped; and what holds of one that is.
use Rattle.std.specs.Prelude.{ℕ, ◌+◌, ◌*◌, ◌-◌, ◌%◌, ◌≤◌, ◌≡◌, refl, Bool, true, false, cond, not, ◌&&◌, ◌||◌, List}
use Rattle.std.specs.Prelude.{eqb, ltb, leb, length}
use Rattle.std.proofs.Common.{sym, ap, ap₂, ◌∙◌, arith, ltb-true, ltb-false, le-leb, leb-true, eq-eqb, eqb-true}
use Rattle.std.proofs.Math.Path.{subst⁻¹}
use Rattle.std.proofs.Math.Bool.{and-true, and-eq-true_iff}
use Rattle.std.proofs.Math.Option.{Option, none, some}
use Rattle.std.proofs.lemmas.Bool.{lt-leb, not-true}
use Rattle.operations.proofs.Laws.Cases.{split, same}
use Rattle.bitset.specs.Bitset.{members}
use Rattle.protocol.specs.Calls.{operation_words, batch_limit}
use Rattle.journal.specs.Records.{arguments_of, is_batch, has_reply, gives, operations_of, arguments_fit, reply_fits}
use Rattle.journal.specs.Records.{shaped, wait, answered, ended}
use Rattle.journal.specs.Coded.{front, or_zero, argument_count, answer_count, reply_of, record_of}
use Rattle.journal.specs.declared.Record.{Record}
use Rattle.journal.proofs.Laws.Fronts.{length_front}
use Rattle.journal.proofs.Laws.Members.{members_few, members_ascending}
use Rattle.journal_writer.specs.Laws.Replies.{no_reply, a_wait, an_answer, an_end}

-- ---- Arguments

batch_fits : (count operations n : ℕ) → n ≡ count + 4 * operations
    → (leb count n && (eqb ((n - count) % 4) 0 && leb (n - count) 64)) ≡ not (ltb 16 operations)
batch_fits count operations n e =
    rw (le-leb count n (omega arith), eq-eqb ((n - count) % 4) 0 (omega arith))
    (split (ltb 16 operations)
    (λ (b : ltb 16 operations ≡ true).
    lt-leb (n - count) 64 (omega (arith, ltb-true 16 operations b)) ∙ sym (ap not b))
    (λ (b : ltb 16 operations ≡ false).
    le-leb (n - count) 64 (omega (arith, ltb-false 16 operations b)) ∙ sym (ap not b)))

single_fits : (count n : ℕ) → n ≡ count + 0 → (leb count n && eqb (n - count) 0) ≡ true
single_fits count n e = rw (le-leb count n (omega arith), eq-eqb (n - count) 0 (omega arith))

-- What the code tests: of the letter and the count of operations,
abbrev known : Option ℕ → Bool
known none = false
known (some count) = true

abbrev few : ℕ → ℕ → Bool
few letter operations = not (is_batch letter && ltb batch_limit operations)

-- and of the reply.
abbrev replied : ℕ → ℕ → ℕ → Bool
replied letter code listed = not (has_reply letter) || (gives letter code && (leb code 1 || leb listed 64))

module _ (letter operations : ℕ) (arguments : List ℕ) where
  abbrev Sized : ℕ → Type 0
  Sized count = length arguments ≡ count + cond (is_batch letter) (operation_words * operations) 0

  arguments_fit_lem : (count : Option ℕ) → Sized (or_zero count)
      → arguments_fit letter arguments count ≡ (known count && few letter operations)
  arguments_fit_lem none sized = refl
  arguments_fit_lem (some count) sized =
      split (is_batch letter) (λ e. rw e (batch_fits count operations (length arguments) (rw e at sized)))
      (λ e. rw e (single_fits count (length arguments) (rw e at sized)))

  -- ---- Replies

  pub operations_of_lem : Sized (or_zero (arguments_of letter))
      → operations_of letter arguments ≡ cond (is_batch letter) operations 1
  operations_of_lem sized =
      split (is_batch letter)
      (λ e. subst⁻¹ (λ (l : ℕ). length arguments ≡ argument_count l operations
      → operations_of l arguments ≡ cond (is_batch l) operations 1) (eqb-true letter 71 e) (λ four. omega arith) sized)
      (λ e. rw e)

  module _ (sized : Sized (or_zero (arguments_of letter))) (owners listed code : ℕ) (numbers : List ℕ) where
    wait_fits : reply_fits letter arguments (wait (members owners)) ≡ (gives letter 0 && true)
    wait_fits =
        ap₂ (λ (a b : Bool). gives letter 0 && a && b) (le-leb (length (members owners)) 64 (members_few owners))
        (members_ascending owners)
        ∙ and-true (gives letter 0 && true)

    answer_fits : reply_fits letter arguments (answered (front (answer_count letter operations) numbers))
        ≡ (gives letter 1 && true)
    answer_fits =
        let same : length (front (answer_count letter operations) numbers) ≡ 2 * operations_of letter arguments =
        length_front (answer_count letter operations) numbers ∙ ap (λ (n : ℕ). 2 * n) (sym (operations_of_lem sized)) in
        ap (λ (b : Bool). gives letter 1 && b) (eq-eqb _ _ same)

    list_fits : 2 ≤ code
        → reply_fits letter arguments (ended code (front listed numbers)) ≡ (gives letter code && leb listed 64)
    list_fits more =
        ap₂ (λ (a : Bool) (n : ℕ). a && gives letter code && leb n 64) (le-leb 2 code more)
        (length_front listed numbers)

-- The most are those of a set up, but for a batch's.
arguments_few : (letter : ℕ) → or_zero (arguments_of letter) ≤ 16
arguments_few letter =
    split (eqb letter 83) (λ s. rw s (omega arith))
    (λ s. split (eqb letter 73) (λ i. rw (s, i) (omega arith))
    (λ i. split (eqb letter 66 || eqb letter 71 || eqb letter 70 || eqb letter 67)
    (λ b. rw (s, i, b) (omega arith)) (λ b. rw (s, i, b) (omega arith))))

by_letter : {letter operations : ℕ} → letter ≡ 71 → operations ≤ 16 → argument_count letter operations ≤ 65
by_letter e few = rw e (omega arith)

-- ---- A record of the code

module _ (r : Record) where
  abbrev pub taken : List ℕ
  taken = front (argument_count r.letter r.operations) r.arguments

  pub sized : length taken ≡ argument_count r.letter r.operations
  sized = length_front (argument_count r.letter r.operations) r.arguments

  abbrev given : ℕ → Bool
  given code = gives r.letter code && (leb code 1 || leb r.listed 64)

  replied_lem : has_reply r.letter ≡ true → replied r.letter r.code r.listed ≡ given r.code
  replied_lem e = ap (λ (b : Bool). not b || given r.code) e

  pub arguments_right : arguments_fit r.letter taken (arguments_of r.letter)
      ≡ (known (arguments_of r.letter) && few r.letter r.operations)
  arguments_right = arguments_fit_lem r.letter r.operations taken (arguments_of r.letter) sized

  pub reply_right : reply_fits r.letter taken (reply_of r) ≡ replied r.letter r.code r.listed
  reply_right =
      split (has_reply r.letter)
      (λ e.
      same r.code 0
      (λ z. ap (reply_fits r.letter taken) (a_wait r e z)
      ∙ wait_fits r.letter r.operations taken sized r.owners r.listed r.code r.numbers
      ∙ ap given (sym z) ∙ sym (replied_lem e))
      (λ nz. same r.code 1
      (λ z. ap (reply_fits r.letter taken) (an_answer r e z)
      ∙ answer_fits r.letter r.operations taken sized r.owners r.listed r.code r.numbers
      ∙ ap given (sym z) ∙ sym (replied_lem e))
      (λ no. ap (reply_fits r.letter taken) (an_end r e (omega arith))
      ∙ list_fits r.letter r.operations taken sized r.owners r.listed r.code r.numbers (omega arith)
      ∙ ap (λ (b : Bool). gives r.letter r.code && (b || leb r.listed 64)) (sym (lt-leb r.code 1 (omega arith)))
      ∙ sym (replied_lem e))))
      (λ e. ap (reply_fits r.letter taken) (no_reply r e) ∙ rw e)

  -- ---- What holds of a shaped one

  module _ (so : shaped (record_of r) ≡ true) where
    both : ((known (arguments_of r.letter) && few r.letter r.operations) ≡ true)
        × (replied r.letter r.code r.listed ≡ true)
    both = (and-eq-true_iff _ (replied r.letter r.code r.listed)).0 (sym (ap₂ ◌&&◌ arguments_right reply_right) ∙ so)

    pub few_operations : is_batch r.letter ≡ true → r.operations ≤ batch_limit
    few_operations e =
        ltb-false batch_limit r.operations
        (not-true (ltb batch_limit r.operations) (sym (ap (λ (b : Bool). not (b && ltb batch_limit r.operations)) e)
        ∙ ((and-eq-true_iff (known (arguments_of r.letter)) _).0 both.0).1))

    pub few_arguments : argument_count r.letter r.operations ≤ 65
    few_arguments =
        split (is_batch r.letter)
        (λ e. by_letter (eqb-true r.letter 71 e) (few_operations e))
        (λ e. omega (
          arith,
          arguments_few r.letter,
          ap (λ (b : Bool). cond b (operation_words * r.operations) 0) e,
        ))

    given_lem : has_reply r.letter ≡ true → (gives r.letter r.code ≡ true) × ((leb r.code 1 || leb r.listed 64) ≡ true)
    given_lem e = (and-eq-true_iff (gives r.letter r.code) _).0 (sym (replied_lem e) ∙ both.1)

    pub gives_code : has_reply r.letter ≡ true → gives r.letter r.code ≡ true
    gives_code e = (given_lem e).0

    pub few_listed : has_reply r.letter ≡ true → 2 ≤ r.code → r.listed ≤ 64
    few_listed e more =
        leb-true r.listed 64
        (sym (ap (λ (b : Bool). b || leb r.listed 64) (lt-leb r.code 1 (omega arith))) ∙ (given_lem e).1)

    pub few_answers : answer_count r.letter r.operations ≤ 32
    few_answers =
        split (is_batch r.letter)
        (λ e. rw e (omega (arith, few_operations e)))
        (λ e. rw e (omega arith))

-- How much a shaped record has at most.
pub ruleset most = (few_arguments, few_answers, few_listed)
