-- What is read was written: numbers, lists, owners, arguments, replies and so records.
use Rattle.std.specs.Prelude.{ℕ, zero, suc, ◌+◌, ◌*◌, ◌-◌, ◌/◌, ◌%◌, ◌≤◌, ◌<◌, ◌≡◌, refl, true, false, ◌&&◌, List, []}
use Rattle.std.specs.Prelude.{◌∷◌, ◌++◌, eqb, ltb, leb, length}
use Rattle.std.proofs.Common.{sym, ap, ◌∙◌, append_assoc, append-nil, arith, lt-ltb, leb-true, eqb-true, eq-eqb, le-leb}
use Rattle.std.proofs.Common.{ne_eqb}
use Rattle.std.proofs.Math.Bool.{and-eq-true_iff}
use Rattle.std.proofs.Math.Option.{Option, none, some}
use Rattle.operations.proofs.Laws.Cases.{split, same, all_parts}
use Rattle.journal.specs.Groups as groups
use Rattle.journal.specs.Groups.{grouped, narrow, Cause, found, bad, number, numbers}
use Rattle.journal.specs.Records.{arguments_of, is_batch, has_reply, gives, operations_of, argument_numbers, ascending}
use Rattle.journal.specs.Records.{Reply, nothing, ended, reply_numbers, arguments_fit, reply_fits}
use Rattle.journal.specs.Records.{Record, recorded, bytes_of, fits}
use Rattle.journal.specs.Reading.{count, owners_from, list_in, operations_in, arguments_in, reply_of, reply_in}
use Rattle.journal.specs.Reading.{record_in}
use Rattle.journal.proofs.Laws.Found.{Found, of_found, found_so, found_then, found_cond}
use Rattle.journal.proofs.Laws.Groups.{Bytes, grouped_append, narrow_append, NumberRead, number_written}

-- ---- Numbers

-- The numbers that bytes begin with, and the bytes behind them.
pub record Told (bytes ns rest : List ℕ) : Type 0 where
  pub small : narrow ns ≡ true
  pub are : bytes ≡ grouped ns ++ rest
  pub left : Bytes rest

told_none : (bytes : List ℕ) → Bytes bytes → Told bytes [] bytes
told_none bytes all = record { small = refl; are = refl; left = all }

told_then : {bytes ns between ms rest : List ℕ} → Told bytes ns between → Told between ms rest
    → Told bytes (ns ++ ms) rest
told_then {bytes} {ns} {between} {ms} {rest} t u =
    record {
      small = narrow_append ns ms t.small u.small;
      are =
          t.are ∙ ap (λ (l : List ℕ). grouped ns ++ l) u.are
          ∙ sym (append_assoc (grouped ns) (grouped ms) rest)
          ∙ ap (λ (l : List ℕ). l ++ rest) (sym (grouped_append ns ms));
      left = u.left;
    }

-- So it is of one number.
abbrev One : List ℕ → ℕ → List ℕ → Type 0
One bytes n rest = Told bytes (n ∷ []) rest

one_told : (bytes : List ℕ) (n : ℕ) (rest : List ℕ) → Bytes bytes → NumberRead bytes n rest → One bytes n rest
one_told bytes n rest all so =
    record {
      small = rw (lt-ltb n 4_294_967_296 so.fits);
      are = so.are ∙ ap (λ (l : List ℕ). l ++ rest) (sym (append-nil (groups.groups n)));
      left = (all_parts (λ (b : ℕ). b < 256) (groups.groups n) rest (rw so.are at all)).1;
    }

number_told : (bytes : List ℕ) → Bytes bytes → Found (One bytes) (number bytes)
number_told bytes all =
    found_so (NumberRead bytes) (One bytes) (number bytes) (number_written bytes all)
    (λ n rest so. one_told bytes n rest all so)

-- So many numbers.
abbrev Several : ℕ → List ℕ → List ℕ → List ℕ → Type 0
Several n bytes ns rest = (length ns ≡ n) × Told bytes ns rest

numbers_told : (n : ℕ) (bytes : List ℕ) → Bytes bytes → Found (Several n bytes) (numbers n bytes)
numbers_told zero bytes all = (refl, told_none bytes all)
numbers_told (suc n) bytes all =
    found_then (One bytes) (Several (suc n) bytes) (number bytes) _ (number_told bytes all)
    (λ first rest one.
    found_then (Several n rest) (Several (suc n) bytes) (numbers n rest) _ (numbers_told n rest one.left)
    (λ others left several. (ap suc several.0, told_then one several.1)))

-- How many follow, at most so many.
abbrev Few : ℕ → List ℕ → ℕ → List ℕ → Type 0
Few most bytes n rest = (n ≤ most) × One bytes n rest

count_told : (most : ℕ) (past : Cause) (bytes : List ℕ) → Bytes bytes → Found (Few most bytes) (count most past bytes)
count_told most past bytes all =
    found_then (One bytes) (Few most bytes) (number bytes) _ (number_told bytes all)
    (λ n rest one.
    found_cond (Few most bytes) (leb n most) (found n rest) (bad past bytes) (λ e. (leb-true n most e, one)) (λ e. tt))

abbrev Owners : ℕ → ℕ → List ℕ → List ℕ → List ℕ → Type 0
Owners n least bytes owners rest = (length owners ≡ n) × (ascending least owners ≡ true) × Told bytes owners rest

owners_told : (n least : ℕ) (bytes : List ℕ) → Bytes bytes → Found (Owners n least bytes) (owners_from n least bytes)
owners_told zero least bytes all = (refl, refl, told_none bytes all)
owners_told (suc n) least bytes all =
    found_then (One bytes) (Owners (suc n) least bytes) (number bytes) _ (number_told bytes all)
    (λ owner rest one.
    found_cond (Owners (suc n) least bytes) (leb least owner && ltb owner 64) _ (bad groups.owners bytes)
    (λ e.
    found_then (Owners n (owner + 1) rest) (Owners (suc n) least bytes) (owners_from n (owner + 1) rest) _
    (owners_told n (owner + 1) rest one.left)
    (λ others left so. (
      ap suc so.0,
      (and-eq-true_iff (leb least owner && ltb owner 64) (ascending (owner + 1) others)).1 (e, so.1),
      told_then one so.2,
    )))
    (λ e. tt))

-- A list of at most 64 behind its count.
abbrev Listed : List ℕ → List ℕ → List ℕ → Type 0
Listed bytes list rest = (length list ≤ 64) × Told bytes (length list ∷ list) rest

list_told : (bytes : List ℕ) → Bytes bytes → Found (Listed bytes) (list_in bytes)
list_told bytes all =
    found_then (Few 64 bytes) (Listed bytes) (count 64 groups.list bytes) numbers (count_told 64 groups.list bytes all)
    (λ n rest few.
    found_so (Several n rest) (Listed bytes) (numbers n rest) (numbers_told n rest few.1.left)
    (λ list left several. rw several.0 (few.0, told_then few.1 several.1)))

-- ---- Arguments

-- Operations behind their count, at most 16.
abbrev Operations : List ℕ → List ℕ → List ℕ → Type 0
Operations bytes operations rest =
    (length operations % 4 ≡ 0) × (length operations ≤ 64) × Told bytes ((length operations / 4) ∷ operations) rest

operations_told : (bytes : List ℕ) → Bytes bytes → Found (Operations bytes) (operations_in bytes)
operations_told bytes all =
    found_then (Few 16 bytes) (Operations bytes) (count 16 groups.batch bytes) _ (count_told 16 groups.batch bytes all)
    (λ n rest few.
    found_so (Several (4 * n) rest) (Operations bytes) (numbers (4 * n) rest) (numbers_told (4 * n) rest few.1.left)
    (λ operations left several.
    let n-of : length operations / 4 ≡ n = omega (arith, several.0) in
    (omega (arith, several.0), omega (arith, several.0, few.0), rw n-of (told_then few.1 several.1))))

abbrev Arguments : ℕ → ℕ → List ℕ → List ℕ → List ℕ → Type 0
Arguments letter n bytes arguments rest =
    (arguments_fit letter arguments (some n) ≡ true) × Told bytes (argument_numbers letter arguments) rest

plain_arguments : (letter n : ℕ) (bytes arguments rest : List ℕ) → is_batch letter ≡ false
    → Several n bytes arguments rest → Arguments letter n bytes arguments rest
plain_arguments letter n bytes arguments rest plain several =
    let least : leb n (length arguments) ≡ true = le-leb n (length arguments) (omega (arith, several.0)) in
    let none_more : eqb (length arguments - n) 0 ≡ true = eq-eqb (length arguments - n) 0 (omega (arith, several.0)) in
    rw plain (rw (least, none_more), several.1)

-- A batch's transaction and its operations.
batch_arguments : (bytes between rest arguments operations : List ℕ) → Several 1 bytes arguments between
    → Operations between operations rest → Arguments 71 1 bytes (arguments ++ operations) rest
batch_arguments bytes between rest [] operations several so = absurd (omega (arith, several.0))
batch_arguments bytes between rest (t ∷ []) operations several so =
    let n : ℕ = length operations in
    let few : suc n - 1 ≡ n = omega arith in
    let one : leb 1 (suc n) ≡ true = le-leb 1 (suc n) (omega arith) in
    rw (few, one, eq-eqb (n % 4) 0 so.0, le-leb n 64 so.1) (refl, told_then several.1 so.2)
batch_arguments bytes between rest (t ∷ u ∷ arguments) operations several so = absurd (omega (arith, several.0))

batch_told : (bytes : List ℕ) → Bytes bytes → Found (Arguments 71 1 bytes) (arguments_in 71 (some 1) bytes)
batch_told bytes all =
    found_then (Several 1 bytes) (Arguments 71 1 bytes) (numbers 1 bytes) _ (numbers_told 1 bytes all)
    (λ arguments between several.
    found_then (Operations between) (Arguments 71 1 bytes) (operations_in between) _
    (operations_told between several.1.left)
    (λ operations rest so. batch_arguments bytes between rest arguments operations several so))

arguments_told : (letter n : ℕ) (bytes : List ℕ) → arguments_of letter ≡ some n → Bytes bytes
    → Found (Arguments letter n bytes) (arguments_in letter (some n) bytes)
arguments_told letter n bytes is all =
    split (is_batch letter)
    (λ (batch : is_batch letter ≡ true).
    let g : letter ≡ 71 = eqb-true letter 71 batch in
    let known : some 1 ≡ some n = rw g at is in
    let one : 1 ≡ n = cc in
    rw (g, ← one) (batch_told bytes all))
    (λ (plain : is_batch letter ≡ false).
    found_then (Several n bytes) (Arguments letter n bytes) (numbers n bytes) _ (numbers_told n bytes all)
    (λ arguments rest several. rw plain (plain_arguments letter n bytes arguments rest plain several)))

-- ---- Replies

abbrev Replied : ℕ → List ℕ → List ℕ → Reply → List ℕ → Type 0
Replied letter arguments bytes reply rest =
    (reply_fits letter arguments reply ≡ true) × Told bytes (reply_numbers reply) rest

module _ (letter : ℕ) (arguments before bytes : List ℕ) where
  wait_told : gives letter 0 ≡ true → One before 0 bytes
      → Found (Replied letter arguments before) (reply_of (operations_of letter arguments) 0 bytes)
  wait_told given one =
      found_then (Few 64 bytes) (Replied letter arguments before) (count 64 groups.list bytes) _
      (count_told 64 groups.list bytes one.left)
      (λ n rest few.
      found_then (Owners n 0 rest) (Replied letter arguments before) (owners_from n 0 rest) _
      (owners_told n 0 rest few.1.left)
      (λ waited left so.
      rw (so.0, given, le-leb n 64 few.0, so.1) (refl, told_then one (told_then few.1 so.2))))

  answer_told : gives letter 1 ≡ true → One before 1 bytes
      → Found (Replied letter arguments before) (reply_of (operations_of letter arguments) 1 bytes)
  answer_told given one =
      let n : ℕ = 2 * operations_of letter arguments in
      found_then (Several n bytes) (Replied letter arguments before) (numbers n bytes) _
      (numbers_told n bytes one.left)
      (λ answers left several. rw (given, eq-eqb (length answers) n several.0) (refl, told_then one several.1))

  ended_told : (replyCode : ℕ) → 2 ≤ replyCode → gives letter replyCode ≡ true → One before replyCode bytes
      → Found (λ listed left. Replied letter arguments before (ended replyCode listed) left) (list_in bytes)
  ended_told replyCode two given one =
      found_so (Listed bytes) (λ listed left. Replied letter arguments before (ended replyCode listed) left)
      (list_in bytes) (list_told bytes one.left)
      (λ list left so.
      rw (given, le-leb 2 replyCode two, le-leb (length list) 64 so.0) (refl, told_then one so.1))

  coded_told : (replyCode : ℕ) → gives letter replyCode ≡ true → One before replyCode bytes
      → Found (Replied letter arguments before) (reply_of (operations_of letter arguments) replyCode bytes)
  coded_told replyCode given one =
      same replyCode 0
      (λ (e : replyCode ≡ 0). rw e (wait_told (rw e at given) (rw e at one)))
      (λ (some : replyCode ≡ 0 → ⊥).
      same replyCode 1
      (λ (e : replyCode ≡ 1). rw e (answer_told (rw e at given) (rw e at one)))
      (λ (more : replyCode ≡ 1 → ⊥).
      rw (ne_eqb replyCode 0 some, ne_eqb replyCode 1 more)
      (found_then (λ listed left. Replied letter arguments before (ended replyCode listed) left)
      (Replied letter arguments before) (list_in bytes) _ (ended_told replyCode (omega arith) given one)
      (λ listed left so. so))))

reply_told : (letter : ℕ) (arguments bytes : List ℕ) → Bytes bytes
    → Found (Replied letter arguments bytes) (reply_in letter (operations_of letter arguments) bytes)
reply_told letter arguments bytes all =
    found_cond (Replied letter arguments bytes) (has_reply letter) _ (found nothing bytes)
    (λ e.
    found_then (One bytes) (Replied letter arguments bytes) (number bytes) _ (number_told bytes all)
    (λ replyCode rest one.
    found_cond (Replied letter arguments bytes) (gives letter replyCode) _ (bad groups.code bytes)
    (λ given. coded_told letter arguments bytes rest replyCode given one) (λ none. tt)))
    (λ e. (rw e, told_none bytes all))

-- ---- Records

-- A record that was read fits, and the bytes that it was read of are its own.
pub record RecordRead (bytes : List ℕ) (r : Record) (rest : List ℕ) : Type 0 where
  pub fit : fits r ≡ true
  pub are : bytes ≡ bytes_of r ++ rest
  pub left : Bytes rest

known_told : (first : ℕ) (known : Option ℕ) (bytes : List ℕ) → arguments_of first ≡ known → Bytes bytes
    → Found (λ arguments rest. (arguments_fit first arguments known ≡ true)
    × Told bytes (argument_numbers first arguments) rest) (arguments_in first known bytes)
known_told first none bytes is all = tt
known_told first (some n) bytes is all = arguments_told first n bytes is all

made : (first : ℕ) (bytes between rest arguments : List ℕ) (reply : Reply)
    → arguments_fit first arguments (arguments_of first) ≡ true → Told bytes (argument_numbers first arguments) between
    → Replied first arguments between reply rest → RecordRead (first ∷ bytes) (recorded first arguments reply) rest
unfolding fits bytes_of
made first bytes between rest arguments reply fit told replied =
    let both : Told bytes (argument_numbers first arguments ++ reply_numbers reply) rest = told_then told replied.1 in
    record {
      fit = rw (fit, replied.0, both.small);
      are = ap (λ (l : List ℕ). first ∷ l) both.are;
      left = both.left;
    }

pub record_told : (bytes : List ℕ) → Bytes bytes → Found (RecordRead bytes) (record_in bytes)
unfolding record_in
record_told [] all = tt
record_told (first ∷ bytes) all =
    let P : List ℕ → List ℕ → Type 0 =
    λ arguments rest. (arguments_fit first arguments (arguments_of first) ≡ true)
    × Told bytes (argument_numbers first arguments) rest in
    found_then P (RecordRead (first ∷ bytes)) (arguments_in first (arguments_of first) bytes) _
    (known_told first (arguments_of first) bytes refl all.1)
    (λ arguments between so.
    found_then (Replied first arguments between) (RecordRead (first ∷ bytes))
    (reply_in first (operations_of first arguments) between) _ (reply_told first arguments between so.1.left)
    (λ reply rest replied. made first bytes between rest arguments reply so.0 so.1 replied))

pub record_written : (bytes : List ℕ) {r : Record} {rest : List ℕ} → Bytes bytes → record_in bytes ≡ found r rest
    → RecordRead bytes r rest
record_written bytes all e = of_found (RecordRead bytes) (record_told bytes all) e
