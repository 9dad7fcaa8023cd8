-- A call's part of a record, completed with a reply's, is the record of the call and its reply, and fits.
use Rattle.std.specs.Prelude as code
use Rattle.std.specs.Prelude.{ℕ, suc, ◌-◌, ◌*◌, ◌%◌, ◌≤◌, ◌≡◌, refl, Bool, true, false, cond, not, ◌&&◌, List, eqb, leb}
use Rattle.std.specs.Prelude.{length, take, Some, None}
use Rattle.std.proofs.Common.{sym, ap, ◌∙◌, arith, eqb-true, leb-true, le-leb, eq-eqb, ne_eqb, length-take}
use Rattle.std.proofs.lemmas.Bool.{false≢true, not-true, eqb-false}
use Rattle.std.proofs.Math.Bool.{and-eq-true_iff}
use Rattle.std.proofs.Math.Option.{none, some}
use Rattle.bitset.specs.Bitset.{members}
use Rattle.protocol.specs.Replies as protocol
use Rattle.protocol.specs.Replies.{answer_numbers}
use Rattle.protocol.specs.ReplyOf.{answers_in}
use Rattle.protocol.specs.Call.{Call, set_up, begin, operate, batch, finish, cancel, contents}
use Rattle.protocol.proofs.Laws.Beside.{numbers_counted}
use Rattle.codes.specs.Codes.{numbers_of}
use Rattle.codes.specs.declared.Numbers.{Numbers}
use Rattle.journal.specs.Records.{Reply, nothing, wait, answered, ended, recorded, reply_fits, shaped}
use Rattle.journal.specs.Records.{is_batch, has_reply, gives, operations_of}
use Rattle.journal.specs.Coded.{front, argument_count, answer_count, reply_of, record_of}
use Rattle.journal.specs.Journal.{record_with, record_of_reply}
use Rattle.journal.proofs.Laws.Members.{members_ascending, members_few}
use Rattle.journal.specs.declared.Record.{Record}
use Rattle.recording.specs.Recording.{letter_of, arguments_asked, whole, given_to, Recorded}
use Rattle.recording.specs.Parts.{operations_asked, Begins, Called, With, Completed}

-- ---- A call's letter and arguments

has_reply_lem : (call : Call) (c : ℕ) → gives (letter_of call) c ≡ true → has_reply (letter_of call) ≡ true
has_reply_lem (set_up kinds) c e = absurd (false≢true e)
has_reply_lem (begin t) c e = absurd (false≢true e)
has_reply_lem (operate t o number k v) c e = refl
has_reply_lem (batch t operations) c e = refl
has_reply_lem (finish t list) c e = refl
has_reply_lem (cancel t list) c e = refl
has_reply_lem (contents o) c e = absurd (false≢true e)

recorded_with : (call : Call) (reply : Reply) → whole call ≡ true
    → record_with call reply ≡ some (recorded (letter_of call) (arguments_asked call) reply)
recorded_with (set_up kinds) reply e = refl
recorded_with (begin t) reply e = refl
recorded_with (operate t o number k v) reply e = refl
recorded_with (batch t operations) reply e = refl
recorded_with (finish t list) reply e = refl
recorded_with (cancel t list) reply e = refl
recorded_with (contents o) reply e = absurd (false≢true e)

-- As many arguments are looked at as there are.
arguments_counted : (call : Call) → whole call ≡ true
    → argument_count (letter_of call) (operations_asked call) ≡ length (arguments_asked call)
arguments_counted (set_up kinds) e =
    let tests = (and-eq-true_iff (leb 16 (length kinds)) (eqb (length kinds - 16) 0)).0 e in
    omega (arith, leb-true 16 (length kinds) tests.0, eqb-true (length kinds - 16) 0 tests.1)
arguments_counted (begin t) e = refl
arguments_counted (operate t o number k v) e = refl
arguments_counted (batch t operations) e =
    let n : suc (length operations) - 1 ≡ length operations = omega arith in
    let fits = ((and-eq-true_iff (leb 1 (suc (length operations))) _).0 e).1 in
    let whole = ((and-eq-true_iff (eqb ((suc (length operations) - 1) % 4) 0) _).0 fits).0 in
    omega (arith, n, eqb-true ((suc (length operations) - 1) % 4) 0 whole)
arguments_counted (finish t list) e = refl
arguments_counted (cancel t list) e = refl
arguments_counted (contents o) e = absurd (false≢true e)

-- As many answers are looked at as operations are asked for.
answers_asked : (call : Call)
    → cond (is_batch (letter_of call)) (operations_asked call) 1 ≡ operations_of (letter_of call) (arguments_asked call)
answers_asked (set_up kinds) = refl
answers_asked (begin t) = refl
answers_asked (operate t o number k v) = refl
answers_asked (batch t operations) = omega arith
answers_asked (finish t list) = refl
answers_asked (cancel t list) = refl
answers_asked (contents o) = refl

-- ---- What a reply tells

-- The reply of a record by its numbers.
abbrev coded : (letter operations code owners listed : ℕ) → List ℕ → Reply
coded letter operations code owners listed numbers =
    cond (has_reply letter)
    (cond (eqb code 0) (wait (members owners))
    (cond (eqb code 1) (answered (front (answer_count letter operations) numbers)) (ended code (front listed numbers))))
    nothing

-- The numbers that a record has of a reply.
pub record Tells (reply : protocol.Reply) (told : Numbers) : Type 0 where
  pub refusal : told.refusal ≡ (numbers_of reply).refusal
  pub code : told.code ≡ (numbers_of reply).code
  pub owners : told.owners ≡ (numbers_of reply).owners

-- The numbers behind its code: its answers', and so many of the list as it counts.
pub record Behind (reply : protocol.Reply) (list : List ℕ) (listed : ℕ) (numbers : List ℕ) : Type 0 where
  pub answers : Begins (answer_numbers (answers_in reply)) numbers
  pub named : front listed numbers ≡ take (numbers_of reply).count list

-- A call that is refused has no record.
nothing_recorded : (call : Call) (reply : protocol.Reply) (list : List ℕ) → ((numbers_of reply).refusal ≡ 0 → ⊥)
    → none ≡ record_of_reply call reply list
nothing_recorded call protocol.ok list refused = absurd (refused refl)
nothing_recorded call (protocol.answered answers) list refused = absurd (refused refl)
nothing_recorded call (protocol.wait owners count) list refused = absurd (refused refl)
nothing_recorded call protocol.finished list refused = absurd (refused refl)
nothing_recorded call (protocol.committed count) list refused = absurd (refused refl)
nothing_recorded call (protocol.circle count) list refused = absurd (refused refl)
nothing_recorded call (protocol.cancelled count) list refused = absurd (refused refl)
nothing_recorded call (protocol.counted rows) list refused = refl
nothing_recorded call (protocol.refused reason) list refused = refl

pub none_made : (call : Call) (reply : protocol.Reply) (list : List ℕ) → ((numbers_of reply).refusal ≡ 0 → ⊥)
    → Recorded call reply list None
none_made call reply list refused = record { is = nothing_recorded call reply list refused; shape = tt }

module _ (call : Call) (lettered : eqb (letter_of call) 0 ≡ false) (list : List ℕ) (few : length list ≤ 64)
    (c : Record) (told : Numbers) (count : ℕ) (behind : List ℕ) (r : Record) (done : With c told count behind r)
    (named : Called call c) where
  abbrev letter : ℕ
  letter = letter_of call

  reply_coded : reply_of r ≡ coded letter (operations_asked call) told.code told.owners count behind
  reply_coded =
      λ j. coded ((done.letter ∙ named.letter) j) ((done.operations ∙ named.operations) j) (done.code j)
      (done.owners j) (done.listed j) (done.numbers j)

  content_is : whole call ≡ true → (reply : Reply) → reply_of r ≡ reply
      → record_of r ≡ recorded letter (arguments_asked call) reply
  content_is fits reply e =
      (λ j. recorded ((done.letter ∙ named.letter) j)
      (front (argument_count ((done.letter ∙ named.letter) j) ((done.operations ∙ named.operations) j))
      (done.arguments j)) (e j))
      ∙ ap (λ (n : ℕ). recorded letter (front n c.arguments) reply) (arguments_counted call fits)
      ∙ ap (λ (l : List ℕ). recorded letter l reply) named.arguments

  complete : (reply : protocol.Reply) (said : Reply) → record_of_reply call reply list ≡ record_with call said
      → whole call ≡ true → reply_of r ≡ said → reply_fits letter (arguments_asked call) said ≡ true
      → Recorded call reply list (Some r)
  complete reply said of fits e right =
      let content = content_is fits said e in
      record {
        is = ap some content ∙ sym (recorded_with call said fits) ∙ sym of;
        shape = ap shaped content ∙ (and-eq-true_iff (whole call) _).1 (fits, right);
      }

  -- The reply, by its code.
  replied : (code : ℕ) → told.code ≡ code → gives letter code ≡ true
      → reply_of r
      ≡ cond (eqb code 0) (wait (members told.owners))
      (cond (eqb code 1) (answered (front (answer_count letter (operations_asked call)) behind))
      (ended code (front count behind)))
  replied code is gave = reply_coded ∙ rw (is, has_reply_lem call code gave)

  -- A list ends it.
  ends : (reply : protocol.Reply) (code number : ℕ)
      → record_of_reply call reply list ≡ record_with call (ended code (take number list))
      → told.code ≡ code → leb 2 code ≡ true
      → front count behind ≡ take number list → whole call && gives letter code ≡ true
      → Recorded call reply list (Some r)
  ends reply code number of is high numbers given =
      let (fits, gave) = (and-eq-true_iff (whole call) (gives letter code)).0 given in
      let above = leb-true 2 code high in
      complete reply (ended code (take number list)) of fits
      (replied code is gave ∙ rw (ne_eqb code 0 (λ e. omega arith), ne_eqb code 1 (λ e. omega arith), numbers))
      (λ j. high j && gave j && le-leb (length (take number list)) 64 (omega (arith, length-take number list)) j)

  with_reply : (reply : protocol.Reply) → Tells reply told → Behind reply list count behind
      → given_to call reply ≡ true → Recorded call reply list (Some r)
  with_reply protocol.ok tells numbers given =
      let (fits, without) = (and-eq-true_iff (whole call) (not (has_reply letter))).0 given in
      complete protocol.ok nothing refl fits
      (reply_coded ∙ rw (not-true (has_reply letter) without)) without
  with_reply (protocol.answered answers) tells numbers given =
      let (both, many) = (and-eq-true_iff (whole call && gives letter 1) _).0 given in
      let (fits, gave) = (and-eq-true_iff (whole call) (gives letter 1)).0 both in
      let counted = answers_asked call ∙ sym (eqb-true (length answers) _ many) in
      complete (protocol.answered answers) (answered (answer_numbers answers)) refl fits
      (replied 1 tells.code gave
      ∙ ap (λ (n : ℕ). answered (front n behind)) (ap (λ (n : ℕ). 2 * n) counted ∙ sym (numbers_counted answers))
      ∙ ap answered numbers.answers)
      (rw gave (eq-eqb _ _ (numbers_counted answers ∙ ap (λ (n : ℕ). 2 * n) (eqb-true (length answers) _ many))))
  with_reply (protocol.wait owners number) tells numbers given =
      let (fits, gave) = (and-eq-true_iff (whole call) (gives letter 0)).0 given in
      complete (protocol.wait owners number) (wait (members owners)) refl fits
      (replied 0 tells.code gave ∙ ap (λ (set : ℕ). wait (members set)) tells.owners)
      (rw (gave, le-leb (length (members owners)) 64 (members_few owners), members_ascending owners))
  with_reply protocol.finished tells numbers given =
      ends protocol.finished 2 0 refl tells.code refl numbers.named given
  with_reply (protocol.committed number) tells numbers given =
      ends (protocol.committed number) 3 number refl tells.code refl numbers.named given
  with_reply (protocol.circle number) tells numbers given =
      ends (protocol.circle number) 4 number refl tells.code refl numbers.named given
  with_reply (protocol.cancelled number) tells numbers given =
      ends (protocol.cancelled number) 5 number refl tells.code refl numbers.named given
  with_reply (protocol.counted rows) tells numbers given = absurd (false≢true (sym lettered ∙ given))
  with_reply (protocol.refused reason) tells numbers given =
      absurd (eqb-false reason 0 (not-true (eqb reason 0) given) (sym tells.refusal ∙ done.accepted))

module _ (call : Call) (lettered : eqb (letter_of call) 0 ≡ false) (list : List ℕ) (few : length list ≤ 64)
    (c : Record) (told : Numbers) (count : ℕ) (behind : List ℕ) (named : Called call c) (reply : protocol.Reply)
    (tells : Tells reply told) (numbers : Behind reply list count behind) (given : given_to call reply ≡ true) where
  pub record_made : (r : code.Option Record) → Completed c told count behind r → Recorded call reply list r
  record_made None refused = none_made call reply list (λ accepted. refused (tells.refusal ∙ accepted))
  record_made (Some r) done =
      with_reply call lettered list few c told count behind r done named reply tells numbers given
