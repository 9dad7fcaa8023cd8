-- What is written is read back: numbers, lists, owners, arguments, replies and so records.
use Rattle.std.specs.Prelude.{ℕ, suc, ◌+◌, ◌*◌, ◌-◌, ◌/◌, ◌%◌, ◌≤◌, ◌<◌, ◌≡◌, refl, true, false, ◌&&◌, List, [], ◌∷◌}
use Rattle.std.specs.Prelude.{◌++◌, eqb, ltb, leb, length}
use Rattle.std.proofs.Common.{sym, ap, ◌∙◌, true≢false, append_assoc, arith, ltb-true, leb-true, eqb-true, le-leb}
use Rattle.std.proofs.Common.{ne_eqb}
use Rattle.std.proofs.Math.Bool.{and-eq-true_iff}
use Rattle.std.proofs.Math.Option.{Option, none, some}
use Rattle.std.proofs.lemmas.Bool.{not-true}
use Rattle.operations.proofs.Laws.Cases.{split}
use Rattle.journal.specs.Groups as groups
use Rattle.journal.specs.Groups.{grouped, narrow, Cause, found, number, numbers}
use Rattle.journal.specs.Records.{arguments_of, is_batch, has_reply, gives, operations_of, argument_numbers, ascending}
use Rattle.journal.specs.Records.{Reply, nothing, wait, answered, ended, reply_numbers, arguments_fit, reply_fits}
use Rattle.journal.specs.Records.{Record, numbers_of, bytes_of, shaped, fits}
use Rattle.journal.specs.Reading.{count, owners_from, list_in, operations_in, arguments_in, reply_of, reply_in}
use Rattle.journal.specs.Reading.{record_in}
use Rattle.journal.proofs.Laws.Groups.{grouped_append, narrow_parts, number_back}
use Rattle.journal.proofs.Laws.Letters.{gives_reply}

-- ---- Numbers

narrow_first : (n : ℕ) (ns : List ℕ) → narrow (n ∷ ns) ≡ true → n < 4_294_967_296
narrow_first n ns e = ltb-true n 4_294_967_296 ((and-eq-true_iff (ltb n 4_294_967_296) (narrow ns)).0 e).0

narrow_rest : (n : ℕ) (ns : List ℕ) → narrow (n ∷ ns) ≡ true → narrow ns ≡ true
narrow_rest n ns e = ((and-eq-true_iff (ltb n 4_294_967_296) (narrow ns)).0 e).1

-- The first of several numbers.
first_back : (n : ℕ) (ns rest : List ℕ) → narrow (n ∷ ns) ≡ true
    → number (grouped (n ∷ ns) ++ rest) ≡ found n (grouped ns ++ rest)
first_back n ns rest e =
    rw (append_assoc (groups.groups n) (grouped ns) rest) (number_back n (grouped ns ++ rest) (narrow_first n ns e))

numbers_back : (ns rest : List ℕ) → narrow ns ≡ true → numbers (length ns) (grouped ns ++ rest) ≡ found ns rest
numbers_back [] rest e = refl
numbers_back (n ∷ ns) rest e = rw (first_back n ns rest e, numbers_back ns rest (narrow_rest n ns e))

count_back : (most n : ℕ) (past : Cause) (ns rest : List ℕ) → n ≤ most → narrow (n ∷ ns) ≡ true
    → count most past (grouped (n ∷ ns) ++ rest) ≡ found n (grouped ns ++ rest)
count_back most n past ns rest few e = rw (first_back n ns rest e, le-leb n most few)

owners_back : (least : ℕ) (owners rest : List ℕ) → ascending least owners ≡ true → narrow owners ≡ true
    → owners_from (length owners) least (grouped owners ++ rest) ≡ found owners rest
owners_back least [] rest so e = refl
owners_back least (owner ∷ owners) rest so e =
    let (here, further) = (and-eq-true_iff (leb least owner && ltb owner 64) (ascending (owner + 1) owners)).0 so in
    rw (first_back owner owners rest e, here, owners_back (owner + 1) owners rest further (narrow_rest owner owners e))

-- ---- Arguments

operations_back : (operations rest : List ℕ) → length operations % 4 ≡ 0 → length operations ≤ 64
    → narrow ((length operations / 4) ∷ operations) ≡ true
    → operations_in (grouped ((length operations / 4) ∷ operations) ++ rest) ≡ found operations rest
operations_back operations rest whole few e =
    let n : ℕ = length operations / 4 in
    let four : 4 * n ≡ length operations = omega arith in
    rw (count_back 16 n groups.batch operations rest (omega arith) e, four)
    (numbers_back operations rest (narrow_rest n operations e))

-- Of a batch: its operations are whole ones, at most 16.
pub batch_shape : (t : ℕ) (operations : List ℕ) → arguments_fit 71 (t ∷ operations) (some 1) ≡ true
    → (length operations % 4 ≡ 0) × (length operations ≤ 64)
batch_shape t operations fit =
    let n : ℕ = length operations in
    let few : suc n - 1 ≡ n = omega arith in
    let shape : (leb 1 (suc n) && (eqb (n % 4) 0 && leb n 64)) ≡ true = rw few at fit in
    let both = ((and-eq-true_iff (leb 1 (suc n)) _).0 shape).1 in
    let (whole, small) = (and-eq-true_iff (eqb (n % 4) 0) (leb n 64)).0 both in
    (eqb-true (n % 4) 0 whole, leb-true n 64 small)

batch_back : (arguments rest : List ℕ) → arguments_fit 71 arguments (some 1) ≡ true
    → narrow (argument_numbers 71 arguments) ≡ true
    → arguments_in 71 (some 1) (grouped (argument_numbers 71 arguments) ++ rest) ≡ found arguments rest
batch_back [] rest fit e = absurd (true≢false (sym fit))
batch_back (t ∷ operations) rest fit e =
    let n : ℕ = length operations in
    let few : suc n - 1 ≡ n = omega arith in
    let (whole, small) = batch_shape t operations fit in
    let said : narrow (t ∷ (n / 4) ∷ operations) ≡ true = rw few at e in
    rw (
      few,
      first_back t ((n / 4) ∷ operations) rest said,
      operations_back operations rest whole small (narrow_rest t ((n / 4) ∷ operations) said),
    )

-- Of any other call: as many as its letter has.
pub plain_count : (letter n : ℕ) (arguments : List ℕ) → is_batch letter ≡ false
    → arguments_fit letter arguments (some n) ≡ true → n ≡ length arguments
plain_count letter n arguments plain fit =
    let both = (and-eq-true_iff (leb n (length arguments)) (eqb (length arguments - n) 0)).0 (rw plain at fit) in
    omega (arith, leb-true n (length arguments) both.0, eqb-true (length arguments - n) 0 both.1)

plain_back : (letter n : ℕ) (arguments rest : List ℕ) → is_batch letter ≡ false
    → arguments_fit letter arguments (some n) ≡ true → narrow arguments ≡ true
    → arguments_in letter (some n) (grouped arguments ++ rest) ≡ found arguments rest
plain_back letter n arguments rest plain fit e =
    rw (plain_count letter n arguments plain fit, numbers_back arguments rest e, plain)

pub plain_numbers : (letter : ℕ) (arguments : List ℕ) → is_batch letter ≡ false
    → argument_numbers letter arguments ≡ arguments
plain_numbers letter arguments plain = rw plain

arguments_back : (letter : ℕ) (known : Option ℕ) (arguments rest : List ℕ) → arguments_of letter ≡ known
    → arguments_fit letter arguments known ≡ true → narrow (argument_numbers letter arguments) ≡ true
    → arguments_in letter known (grouped (argument_numbers letter arguments) ++ rest) ≡ found arguments rest
arguments_back letter none arguments rest is fit e = absurd (true≢false (sym fit))
arguments_back letter (some n) arguments rest is fit e =
    split (is_batch letter)
    (λ (batch : is_batch letter ≡ true).
    let g : letter ≡ 71 = eqb-true letter 71 batch in
    let known : some 1 ≡ some n = rw g at is in
    let one : 1 ≡ n = cc in
    rw (g, ← one) (batch_back arguments rest (rw (g, ← one) at fit) (rw g at e)))
    (λ (plain : is_batch letter ≡ false).
    let same = plain_numbers letter arguments plain in
    rw same (plain_back letter n arguments rest plain fit (rw same at e)))

-- ---- Replies

coded_back : (letter operations replyCode : ℕ) (ns rest : List ℕ) → gives letter replyCode ≡ true
    → narrow (replyCode ∷ ns) ≡ true
    → reply_in letter operations (grouped (replyCode ∷ ns) ++ rest) ≡ reply_of operations replyCode (grouped ns ++ rest)
coded_back letter operations replyCode ns rest given e =
    rw (gives_reply letter replyCode given, first_back replyCode ns rest e, given)

list_back : (list rest : List ℕ) → length list ≤ 64 → narrow (length list ∷ list) ≡ true
    → list_in (grouped (length list ∷ list) ++ rest) ≡ found list rest
list_back list rest few e =
    rw (count_back 64 (length list) groups.list list rest few e)
    (numbers_back list rest (narrow_rest (length list) list e))

ended_back : (operations replyCode : ℕ) (list rest : List ℕ) → 2 ≤ replyCode → length list ≤ 64
    → narrow (length list ∷ list) ≡ true
    → reply_of operations replyCode (grouped (length list ∷ list) ++ rest) ≡ found (ended replyCode list) rest
ended_back operations replyCode list rest two few e =
    let not-wait : eqb replyCode 0 ≡ false = ne_eqb replyCode 0 (λ (z : replyCode ≡ 0). omega arith) in
    let not_answer : eqb replyCode 1 ≡ false = ne_eqb replyCode 1 (λ (z : replyCode ≡ 1). omega arith) in
    rw (not-wait, not_answer, list_back list rest few e)

reply_back : (letter : ℕ) (arguments : List ℕ) (reply : Reply) (rest : List ℕ) → reply_fits letter arguments reply
    ≡ true
    → narrow (reply_numbers reply) ≡ true
    → reply_in letter (operations_of letter arguments) (grouped (reply_numbers reply) ++ rest) ≡ found reply rest
reply_back letter arguments nothing rest fit e = rw (not-true (has_reply letter) fit)
reply_back letter arguments (wait owners) rest fit e =
    let (before, upwards) = (and-eq-true_iff (gives letter 0 && leb (length owners) 64) (ascending 0 owners)).0 fit in
    let (given, few) = (and-eq-true_iff (gives letter 0) (leb (length owners) 64)).0 before in
    let counted : narrow (length owners ∷ owners) ≡ true = narrow_rest 0 (length owners ∷ owners) e in
    coded_back letter (operations_of letter arguments) 0 (length owners ∷ owners) rest given e
    ∙ rw (
      count_back 64 (length owners) groups.list owners rest (leb-true (length owners) 64 few) counted,
      owners_back 0 owners rest upwards (narrow_rest (length owners) owners counted),
    )
reply_back letter arguments (answered answers) rest fit e =
    let n : ℕ = operations_of letter arguments in
    let (given, many) = (and-eq-true_iff (gives letter 1) (eqb (length answers) (2 * n))).0 fit in
    let all : 2 * n ≡ length answers = sym (eqb-true (length answers) (2 * n) many) in
    coded_back letter n 1 answers rest given e ∙ rw (all, numbers_back answers rest (narrow_rest 1 answers e))
reply_back letter arguments (ended replyCode list) rest fit e =
    let (before, few) = (and-eq-true_iff (leb 2 replyCode && gives letter replyCode) (leb (length list) 64)).0 fit in
    let (two, given) = (and-eq-true_iff (leb 2 replyCode) (gives letter replyCode)).0 before in
    coded_back letter (operations_of letter arguments) replyCode (length list ∷ list) rest given e
    ∙ ended_back (operations_of letter arguments) replyCode list rest (leb-true 2 replyCode two)
    (leb-true (length list) 64 few) (narrow_rest replyCode (length list ∷ list) e)

-- ---- Records

-- What a record that fits has.
pub record Fitting (r : Record) : Type 0 where
  pub asked : arguments_fit r.letter r.arguments (arguments_of r.letter) ≡ true
  pub replied : reply_fits r.letter r.arguments r.reply ≡ true
  pub asked_narrow : narrow (argument_numbers r.letter r.arguments) ≡ true
  pub reply_narrow : narrow (reply_numbers r.reply) ≡ true

pub fitting : (r : Record) → fits r ≡ true → Fitting r
unfolding fits
fitting r fit =
    let (shape, small) = (and-eq-true_iff (shaped r) (narrow (numbers_of r))).0 fit in
    let (argued, told) =
    (and-eq-true_iff (arguments_fit r.letter r.arguments (arguments_of r.letter))
    (reply_fits r.letter r.arguments r.reply)).0 shape in
    let (first, second) = narrow_parts (argument_numbers r.letter r.arguments) (reply_numbers r.reply) small in
    record { asked = argued; replied = told; asked_narrow = first; reply_narrow = second }

-- The record that begins the bytes is the one written there.
pub record_read : (r : Record) (rest : List ℕ) → fits r ≡ true → record_in (bytes_of r ++ rest) ≡ found r rest
unfolding bytes_of record_in
record_read r rest fit =
    let so : Fitting r = fitting r fit in
    let asked : List ℕ = argument_numbers r.letter r.arguments in
    let said : List ℕ = reply_numbers r.reply in
    let apart : grouped (asked ++ said) ++ rest ≡ grouped asked ++ (grouped said ++ rest) =
    ap (λ (l : List ℕ). l ++ rest) (grouped_append asked said) ∙ append_assoc (grouped asked) (grouped said) rest in
    rw (
      apart,
      arguments_back r.letter (arguments_of r.letter) r.arguments (grouped said ++ rest) refl so.asked
          so.asked_narrow,
      reply_back r.letter r.arguments r.reply rest so.replied so.reply_narrow,
    )
