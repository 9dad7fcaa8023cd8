-- Numbers behind a word, one after the other.
use Rattle.std.specs.Prelude.{ℕ, zero, suc, ◌+◌, ◌*◌, ◌^◌, ◌≤◌, ◌<◌, ◌≡◌, refl, true, false, not, ◌&&◌, List, [], ◌∷◌}
use Rattle.std.specs.Prelude.{◌++◌, map, eqb, length, take, get_or}
use Rattle.std.proofs.Common.{sym, ap, ap₂, ◌∙◌, append_assoc, append-nil, add-one, arith, length-append, take-suc}
use Rattle.operations.proofs.Laws.Cases.{split}
use Rattle.bitset.specs.Bitset.{has, Members, Lowest, members_from, members}
use Rattle.bitset.specs.Laws.{lowest_first}
use Rattle.protocol.specs.Replies.{Reply, ok, answered, wait, finished, committed, circle, cancelled, counted, refused}
use Rattle.operations.specs.Stored.{answer_of}
use Rattle.operations.specs.declared.Answer.{Answer}
use Rattle.protocol.specs.Replies.{answer_numbers}
use Rattle.protocol.specs.ReplyOf.{reply_with, reply_of, batched_of}
use Rattle.protocol.specs.declared.Batched.{Batched}
use Rattle.protocol.specs.declared.Reply as code
use Rattle.protocol.specs.declared.Reply.TheVariants.{Answers}
use Rattle.protocol.proofs.Laws.Beside.{front_numbers, numbers_next}
use Rattle.text.specs.Text.{ascii, decimal}
use Rattle.text.proofs.Laws.Decimals.{length_decimal}
use Rattle.replies.specs.Printed.{word_of, spaced, printed}

pub fields_append : (ns ms : List ℕ) → spaced (ns ++ ms) ≡ spaced ns ++ spaced ms
fields_append [] ms = refl
fields_append (n ∷ ns) ms =
    ap (λ (l : List ℕ). 32 ∷ (decimal n ++ l)) (fields_append ns ms)
    ∙ ap (λ (l : List ℕ). 32 ∷ l) (sym (append_assoc (decimal n) (spaced ns) (spaced ms)))

pub field_digits : (n : ℕ) → length (spaced (n ∷ [])) ≡ suc (length (decimal n))
field_digits n = ap (λ (l : List ℕ). suc (length l)) (append-nil (decimal n))

-- A number of k digits and its space.
pub field_length : (k n : ℕ) → 1 ≤ k → n < 10 ^ k → length (spaced (n ∷ [])) ≤ suc k
field_length k n some few = omega (arith, field_digits n, length_decimal k n some few)

-- A number of 32 bits and its space.
pub field_few : (n : ℕ) → n < 4_294_967_296 → length (spaced (n ∷ [])) ≤ 11
field_few n fits = field_length 10 n (omega arith) (omega arith)

-- Numbers behind others.
pub next_put : (text : List ℕ) (ns ms : List ℕ) → (text ++ spaced ns) ++ spaced ms ≡ text ++ spaced (ns ++ ms)
next_put text ns ms =
    append_assoc text (spaced ns) (spaced ms) ∙ ap (λ (l : List ℕ). text ++ l) (sym (fields_append ns ms))

-- What was appended makes a text longer.
pub longer : (after before more : List ℕ) → after ≡ before ++ more → length after ≡ length before + length more
longer after before more e = ap length e ∙ length-append before more

-- The numbers at the front of a list: the first, then the others, until there are none.
pub front_put : (text rest more : List ℕ) (n m x : ℕ) → rest ≡ x ∷ more → m + 1 ≡ n
    → (text ++ spaced (x ∷ [])) ++ spaced (take m more) ≡ text ++ spaced (take n rest)
front_put text rest more n m x first fewer =
    next_put text (x ∷ []) (take m more)
    ∙ ap (λ (l : List ℕ). text ++ spaced l) (ap₂ take (sym (add-one m) ∙ fewer) (sym first))

pub front_end : (n : ℕ) (rest : List ℕ) → (0 < n → length rest ≡ 0) → take n rest ≡ []
front_end zero rest none = refl
front_end (suc n) [] none = refl
front_end (suc n) (x ∷ rest) none = absurd (omega (arith, none (omega arith)))

-- The numbers of a list and the answers of a batch: those passed, and the next.
module _ (text : List ℕ) {before after : List ℕ} where
  pub number_put : (list : List ℕ) (i n : ℕ) → before ≡ text ++ spaced (take i list) → i < length list
      → n ≡ get_or list i 0 → after ≡ before ++ spaced (n ∷ []) → after ≡ text ++ spaced (take (i + 1) list)
  number_put list i n so more byte put =
      put ∙ ap₂ (λ (l : List ℕ) (m : ℕ). l ++ spaced (m ∷ [])) so byte
      ∙ next_put text (take i list) (get_or list i 0 ∷ [])
      ∙ ap (λ (l : List ℕ). text ++ spaced l) (sym (ap (λ (k : ℕ). take k list) (add-one i) ∙ take-suc list i 0 more))

  pub answer_put : (answers : List Answer) (i : ℕ) (d : Answer) → before ≡ text ++ spaced (front_numbers answers i)
      → i < length answers → after ≡ before ++ spaced (answer_numbers (answer_of (get_or answers i d) ∷ []))
      → after ≡ text ++ spaced (front_numbers answers (i + 1))
  answer_put answers i d so more put =
      let next : List ℕ = answer_numbers (answer_of (get_or answers i d) ∷ []) in
      put ∙ ap (λ (l : List ℕ). l ++ spaced next) so ∙ next_put text (front_numbers answers i) next
      ∙ ap (λ (l : List ℕ). text ++ spaced l) (sym (numbers_next answers i d more))

-- ---- The members of a set, the lowest first

-- Each is below 64: a space and two digits at most.
length_from : (n h s : ℕ) → h + n ≤ 64 → length (spaced (members_from n h s)) ≤ 3 * n
unfolding members_from
length_from zero h s few = omega arith
length_from (suc n) h s few =
    let rest : List ℕ = members_from n (suc h) s in
    let later : length (spaced rest) ≤ 3 * n = length_from n (suc h) s (omega arith) in
    let more : length (spaced (h ∷ rest)) ≤ 3 * suc n =
    omega (
      arith,
      later,
      field_length 2 h (omega arith) (omega arith),
      ap length (fields_append (h ∷ []) rest),
      length-append (spaced (h ∷ [])) (spaced rest),
    ) in
    split (has s h) (λ (b : has s h ≡ true). rw b more) (λ (b : has s h ≡ false). rw b (omega (arith, later)))

pub length_members : (s : ℕ) → length (spaced (members s)) ≤ 192
unfolding members
length_members s = length_from 64 0 s (omega arith)

-- The lowest member of those left behind a text, and then the others.
pub first_put : (text : List ℕ) (left t rest : ℕ) → Lowest left t → Members rest (λ h. has left h && not (eqb h t))
    → (text ++ spaced (t ∷ [])) ++ spaced (members rest) ≡ text ++ spaced (members left)
first_put text left t rest lowest others =
    next_put text (t ∷ []) (members rest)
    ∙ ap (λ (l : List ℕ). text ++ spaced l) (sym (lowest_first left rest t lowest others))

pub word_length : (r : Reply) → length (word_of r) ≤ 9
word_length ok = omega arith
word_length (answered answers) = omega arith
word_length (wait owners count) = omega arith
word_length finished = omega arith
word_length (committed count) = omega arith
word_length (circle count) = omega arith
word_length (cancelled count) = omega arith
word_length (counted rows) = omega arith
word_length (refused reason) = omega arith

-- ---- A batch's reply: the word, then the answers

module _ (b : Batched) (told : b.reply ≡ Answers) where
  pub answers_word : printed (reply_of b.reply) [] ≡ ascii "answer"
  unfolding printed
  answers_word = ap (λ (r : code.Reply). printed (reply_of r) []) told

  pub answers_behind : ascii "answer" ++ spaced (front_numbers b.answers b.count) ≡ printed (batched_of b) []
  unfolding printed
  answers_behind =
      ap (λ (r : code.Reply). printed (reply_with (map answer_of (take b.count b.answers)) r) []) (sym told)
