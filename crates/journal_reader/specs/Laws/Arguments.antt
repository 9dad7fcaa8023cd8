-- A batch's arguments: its transaction, and its operations behind their count.
use Rattle.std.specs.Prelude.{ℕ, ◌+◌, ◌*◌, ◌-◌, ◌/◌, ◌≤◌, ◌<◌, ◌≡◌, refl, cond, List, ◌∷◌, ◌++◌, length, get_or, take}
use Rattle.std.specs.Prelude.{drop}
use Rattle.std.proofs.Common.{le_refl, sym, ap, ap₂, ◌∙◌, arith, length-append}
use Rattle.std.proofs.Math.Path.{subst}
use Rattle.std.proofs.Math.Option.{none, some}
use Rattle.std.proofs.Math.Seq.{take-append_seam}
use Rattle.std.proofs.lemmas.Slice.{take-put_mid}
use borrow.Rule.Slice.PartMut.{put_mid}
use Rattle.journal.specs.Groups as groups
use Rattle.journal.specs.Groups.{Read, found, bad, then, batch, numbers}
use Rattle.journal.specs.Records.{arguments_of, is_batch, operations_of}
use Rattle.journal.specs.Reading.{count, operations_in, arguments_in}
use Rattle.journal.specs.Coded.{front, argument_count}
use Rattle.journal.specs.declared.Cause.TheVariants.{Letter}
use Rattle.journal.specs.declared.Damage.{Damage}
use Rattle.journal.proofs.Laws.Fronts.{front_first_taken}
use Rattle.journal_numbers.specs.Parts.{Finds, Fails}
use Rattle.journal_numbers.specs.Laws.Numbers.{at_byte}
use Rattle.journal_numbers.specs.Laws.Reads.{damage, goes_on, stops, stops_behind}

-- No call has that letter.
pub no_letter : (bytes : List ℕ) (at letter : ℕ) → at < length bytes → letter ≡ get_or bytes at 0
    → none ≡ arguments_of letter
    → Fails bytes at (arguments_in letter (arguments_of letter) (drop (at + 1) bytes)) (damage Letter at)
no_letter bytes at letter inside is none_is =
    record {
      said =
          ap (λ l. bad groups.letter l) (at_byte bytes at inside ∙ ap (λ b. b ∷ drop (at + 1) bytes) (sym is))
          ∙ ap (λ q. arguments_in letter q (drop (at + 1) bytes)) none_is;
      onward = le_refl at;
      within = omega arith;
    }

module _ (letter at n m : ℕ) {bytes first : List ℕ} {start : ℕ} (is : letter ≡ 71)
    (has : some n ≡ arguments_of letter) (same : m ≡ n)
    (read : Finds bytes (at + 1) (numbers m (drop (at + 1) bytes)) first start) where
  batch_in : arguments_in letter (arguments_of letter) (drop (at + 1) bytes)
      ≡ arguments_in 71 (some n) (drop (at + 1) bytes)
  batch_in = ap₂ (λ l q. arguments_in l q (drop (at + 1) bytes)) is (sym has)

  first_read : Finds bytes (at + 1) (numbers n (drop (at + 1) bytes)) first start
  first_read = subst (λ k. Finds bytes (at + 1) (numbers k (drop (at + 1) bytes)) first start) same read

  module _ {operations behind : ℕ} (k : ℕ) (words : k ≡ 4 * operations)
      (counted : Finds bytes start (count 16 batch (drop start bytes)) operations behind) where
    pub batch_read : {more : List ℕ} {end : ℕ} (value : List ℕ) → value ≡ first ++ more
        → Finds bytes behind (numbers k (drop behind bytes)) more end
        → Finds bytes at (arguments_in letter (arguments_of letter) (drop (at + 1) bytes)) value end
    batch_read {more} {end} value e read_words =
        let other = subst (λ l. Finds bytes behind (numbers l (drop behind bytes)) more end) words read_words in
        let all = goes_on (λ l rest. numbers (4 * l) rest) counted other in
        let last : Finds bytes start (then (operations_in (drop start bytes)) (λ o left. found (first ++ o) left))
        (first ++ more) end =
        goes_on (λ o left. found (first ++ o) left) all
        (record { said = refl; onward = le_refl end; within = all.within }) in
        record {
          said =
              ap (λ v. found v (drop end bytes)) e ∙ last.said
              ∙ ap (λ r. then r (λ arguments rest. then (operations_in rest) (λ o left. found (arguments ++ o) left)))
              first_read.said
              ∙ sym batch_in;
          onward = omega (arith, read.onward, last.onward);
          within = last.within;
        }

    pub batch_stops : {d : Damage} → Fails bytes behind (numbers k (drop behind bytes)) d
        → Fails bytes at (arguments_in letter (arguments_of letter) (drop (at + 1) bytes)) d
    batch_stops {d} fails =
        let other = subst (λ l. Fails bytes behind (numbers l (drop behind bytes)) d) words fails in
        let last = stops (λ o left. found (first ++ o) left)
        (stops_behind (λ l rest. numbers (4 * l) rest) counted other) in
        record {
          said =
              last.said
              ∙ ap (λ r. then r (λ arguments rest. then (operations_in rest) (λ o left. found (arguments ++ o) left)))
              first_read.said
              ∙ sym batch_in;
          onward = omega (arith, read.onward, last.onward);
          within = last.within;
        }

-- ---- The array

one : (n : ℕ) → some n ≡ arguments_of 71 → n ≡ 1
one n has = let equal : 1 ≡ n = cc in sym equal

module _ (letter n operations : ℕ) (first more : List ℕ) (is : letter ≡ 71) (has : some n ≡ arguments_of letter)
    (length_first : length first ≡ n) (length_more : length more ≡ 4 * operations) where
  alone : length first ≡ 1
  alone = length_first ∙ one n (subst (λ l. some n ≡ arguments_of l) is has)

  pub batch_front : (post : List ℕ) → length (put_mid 1 (1 + 4 * operations - 1) (first ++ post) more) ≡ 65
      → operations ≤ 16
      → front (argument_count letter operations) (put_mid 1 (1 + 4 * operations - 1) (first ++ post) more)
      ≡ first ++ more
  batch_front post long few =
      let all : length (first ++ more) ≡ 1 + 4 * operations = omega (arith, length-append first more, alone) in
      let taken : take (1 + 4 * operations) (put_mid 1 (1 + 4 * operations - 1) (first ++ post) more) ≡ first ++ more =
      take-put_mid 1 (1 + 4 * operations - 1) (first ++ post) more (1 + 4 * operations) (omega arith)
      (omega (arith, length-append first post, alone))
      ∙ ap (λ l. l ++ more) (ap (λ k. take k (first ++ post)) (sym alone) ∙ take-append_seam first post) in
      let count : argument_count letter operations ≡ length (first ++ more) =
      ap (λ l. argument_count l operations) is ∙ sym all in
      ap (λ k. front k (put_mid 1 (1 + 4 * operations - 1) (first ++ post) more)) count
      ∙ front_first_taken (1 + 4 * operations) (first ++ more) _ (omega arith) taken

  pub batch_operations : (value : List ℕ) → value ≡ first ++ more → operations ≡ operations_of letter value
  batch_operations value e =
      let all : length (first ++ more) ≡ 1 + 4 * operations = omega (arith, length-append first more, alone) in
      let many : operations ≡ (length (first ++ more) - 1) / 4 = omega arith in
      many ∙ ap (λ l. (length l - 1) / 4) (sym e)
      ∙ sym (ap (λ l. cond (is_batch l) ((length value - 1) / 4) 1) is)
