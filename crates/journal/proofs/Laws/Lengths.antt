-- How many bytes a record has.
use Rattle.std.specs.Prelude.{ℕ, suc, ◌+◌, ◌*◌, ◌-◌, ◌/◌, ◌≤◌, ◌<◌, ◌≡◌, refl, true, false, ◌&&◌, List, [], ◌∷◌, eqb}
use Rattle.std.specs.Prelude.{ltb, leb, length}
use Rattle.std.proofs.Common.{sym, ap, ◌∙◌, true≢false, arith, leb-true, ltb-true, eqb-true, length-append}
use Rattle.std.proofs.Math.Bool.{and-eq-true_iff}
use Rattle.std.proofs.Math.Option.{Option, none, some}
use Rattle.operations.proofs.Laws.Cases.{split}
use Rattle.journal.specs.Groups.{groups, grouped, narrow}
use Rattle.journal.specs.Records.{arguments_of, is_batch, gives, operations_of, argument_numbers, ascending}
use Rattle.journal.specs.Records.{Reply, nothing, wait, answered, ended, reply_numbers, arguments_fit, reply_fits}
use Rattle.journal.specs.Records.{Record, numbers_of, bytes_of, shaped, fits}
use Rattle.journal.proofs.Laws.Groups.{grouped_append, one_group, at_most_five}
use Rattle.journal.proofs.Laws.Letters.{few_arguments, small_code, not_batch}
use Rattle.journal.proofs.Laws.ReadBack.{batch_shape, plain_count, plain_numbers}

-- ---- Numbers

abbrev pub size : List ℕ → ℕ
size ns = length (grouped ns)

size_more : (n : ℕ) (ns : List ℕ) → size (n ∷ ns) ≡ length (groups n) + size ns
size_more n ns = length-append (groups n) (grouped ns)

size_most : (ns : List ℕ) → size ns ≤ 5 * length ns
size_most [] = omega arith
size_most (n ∷ ns) = omega (arith, size_more n ns, at_most_five n, size_most ns)

size_small : (n : ℕ) (ns : List ℕ) → n < 128 → size (n ∷ ns) ≡ suc (size ns)
size_small n ns small = size_more n ns ∙ omega (arith, ap length (one_group n small))

size_owners : (least : ℕ) (owners : List ℕ) → ascending least owners ≡ true → size owners ≡ length owners
size_owners least [] so = refl
size_owners least (owner ∷ owners) so =
    let (here, further) = (and-eq-true_iff (leb least owner && ltb owner 64) (ascending (owner + 1) owners)).0 so in
    let small : owner < 64 = ltb-true owner 64 ((and-eq-true_iff (leb least owner) (ltb owner 64)).0 here).1 in
    size_small owner owners (omega arith) ∙ ap suc (size_owners (owner + 1) owners further)

-- ---- Arguments

-- The bytes of arguments. Those of a batch leave room for its answers.
record Sized (letter : ℕ) (arguments : List ℕ) : Type 0 where
  most : size (argument_numbers letter arguments) ≤ 326
  with_answers : size (argument_numbers letter arguments) + 10 * operations_of letter arguments ≤ 486
  plain : is_batch letter ≡ false → size (argument_numbers letter arguments) ≤ 80

batch_sized : (arguments : List ℕ) → arguments_fit 71 arguments (some 1) ≡ true → Sized 71 arguments
batch_sized [] fit = absurd (true≢false (sym fit))
batch_sized (t ∷ operations) fit =
    let n : ℕ = length operations in
    let few : suc n - 1 ≡ n = omega arith in
    let (whole, small) = batch_shape t operations fit in
    let sum : size (t ∷ (n / 4) ∷ operations) ≤ 6 + 5 * n =
    omega (
      arith,
      size_more t ((n / 4) ∷ operations),
      at_most_five t,
      size_small (n / 4) operations (omega arith),
      size_most operations,
    ) in
    record {
      most = rw few (omega arith);
      with_answers = rw few (omega arith);
      plain = λ (e : is_batch 71 ≡ false). absurd (true≢false e);
    }

plain_sized : (letter n : ℕ) (arguments : List ℕ) → is_batch letter ≡ false → n ≤ 16
    → arguments_fit letter arguments (some n) ≡ true → Sized letter arguments
plain_sized letter n arguments plain few fit =
    let one : operations_of letter arguments ≡ 1 = rw plain in
    let all : size (argument_numbers letter arguments) ≤ 80 =
    rw (plain_numbers letter arguments plain)
    (omega (arith, size_most arguments, plain_count letter n arguments plain fit)) in
    record { most = omega arith; with_answers = omega arith; plain = λ e. all }

sized : (letter : ℕ) (known : Option ℕ) (arguments : List ℕ) → arguments_of letter ≡ known
    → arguments_fit letter arguments known ≡ true → Sized letter arguments
sized letter none arguments is fit = absurd (true≢false (sym fit))
sized letter (some n) arguments is fit =
    split (is_batch letter)
    (λ (batch : is_batch letter ≡ true).
    let g : letter ≡ 71 = eqb-true letter 71 batch in
    let known : some 1 ≡ some n = rw g at is in
    let one : 1 ≡ n = cc in
    rw g (batch_sized arguments (rw (g, ← one) at fit)))
    (λ (plain : is_batch letter ≡ false). plain_sized letter n arguments plain (few_arguments letter n is) fit)

-- ---- Replies

bounded : (letter : ℕ) (arguments : List ℕ) (reply : Reply) → Sized letter arguments
    → reply_fits letter arguments reply ≡ true
    → size (argument_numbers letter arguments) + size (reply_numbers reply) ≤ 487
bounded letter arguments nothing so fit = omega (arith, so.most)
bounded letter arguments (wait owners) so fit =
    let (before, upwards) = (and-eq-true_iff (gives letter 0 && leb (length owners) 64) (ascending 0 owners)).0 fit in
    let few : length owners ≤ 64 =
    leb-true (length owners) 64 ((and-eq-true_iff (gives letter 0) (leb (length owners) 64)).0 before).1 in
    omega (
      arith,
      so.most,
      size_small 0 (length owners ∷ owners) (omega arith),
      size_small (length owners) owners (omega arith),
      size_owners 0 owners upwards,
    )
bounded letter arguments (answered answers) so fit =
    let n : ℕ = 2 * operations_of letter arguments in
    let all : length answers ≡ n =
    eqb-true (length answers) n ((and-eq-true_iff (gives letter 1) (eqb (length answers) n)).0 fit).1 in
    omega (arith, so.with_answers, size_small 1 answers (omega arith), size_most answers)
bounded letter arguments (ended replyCode list) so fit =
    let (before, few) = (and-eq-true_iff (leb 2 replyCode && gives letter replyCode) (leb (length list) 64)).0 fit in
    let (two, given) = (and-eq-true_iff (leb 2 replyCode) (gives letter replyCode)).0 before in
    let small : length list ≤ 64 = leb-true (length list) 64 few in
    omega (
      arith,
      so.plain (not_batch letter replyCode given (leb-true 2 replyCode two)),
      small_code letter replyCode given,
      size_small replyCode (length list ∷ list) (omega (arith, small_code letter replyCode given)),
      size_small (length list) list (omega arith),
      size_most list,
    )

-- The numbers of a shaped record have at most 487 bytes,
pub numbers_length : (r : Record) → shaped r ≡ true
    → size (argument_numbers r.letter r.arguments) + size (reply_numbers r.reply) ≤ 487
numbers_length r shape =
    let (argued, told) =
    (and-eq-true_iff (arguments_fit r.letter r.arguments (arguments_of r.letter))
    (reply_fits r.letter r.arguments r.reply)).0 shape in
    bounded r.letter r.arguments r.reply (sized r.letter (arguments_of r.letter) r.arguments refl argued) told

-- and a record that fits at most 488.
pub record_length : (r : Record) → fits r ≡ true → length (bytes_of r) ≤ 488
unfolding bytes_of fits
record_length r fit =
    let asked : List ℕ = argument_numbers r.letter r.arguments in
    let said : List ℕ = reply_numbers r.reply in
    omega (
      arith,
      numbers_length r ((and-eq-true_iff (shaped r) (narrow (numbers_of r))).0 fit).0,
      ap length (grouped_append asked said),
      length-append (grouped asked) (grouped said),
    )
