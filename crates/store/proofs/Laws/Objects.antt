-- How objects stand in the base's book: 130 words each, kind, number of rows and 64 rows.
use Rattle.std.specs.Prelude.{ℕ, zero, suc, ◌+◌, ◌*◌, ◌≤◌, ◌<◌, ◌≡◌, refl, List, length, get_or}
use Rattle.std.proofs.Common.{sym, ap, ap₂, ◌∙◌, arith}
use Rattle.std.proofs.Math.Option.{Option, none, some}
use Rattle.operations.specs.Operations.{Kind, Stack, Set, Table, Row, row, All}
use Rattle.operations.proofs.Laws.Cases.{all_map}
use Rattle.operations.proofs.Laws.Numbers.{kinds}
use Rattle.store.specs.Store.{Object, no_object}
use Rattle.store.specs.Layout.{word, tabulate, joined, padded, kind_word, row_words, read_kind, object_start, row_at}
use Rattle.store.specs.Layout.{rows_at, read_object, object_words, ObjectPacked, ObjectFits, base}
use Rattle.store.proofs.Laws.Lists.{tabulate_zero, length_tabulate, all_of}
use Rattle.store.proofs.Laws.Words.{each, Rows, all_any, all_get_d, tabulate_list, padded_length, padded_past}
use Rattle.store.proofs.Laws.Words.{padded_row, joined_length, joined_word, joined_same, padded_same}
use Rattle.store.proofs.Laws.Encoding.{LaidOut, ObjectsLaid}

rows_rows : (rs : List Row) → Rows row_words 2 rs
rows_rows rs = all_any (λ (r : Row). length (row_words r) ≡ 2) (λ r. refl) rs

pub rows_length : (rs : List Row) → length (joined row_words rs) ≡ 2 * length rs
rows_length rs = joined_length row_words 2 rs (rows_rows rs)

object_length : (x : Object) → ObjectFits x → length (object_words x) ≡ 130
object_length x fits =
    omega (arith, padded_length 128 (joined row_words x.rows) (omega (arith, rows_length x.rows, fits.rows)))

-- ---- Read and written again

pub kind_written : (n : ℕ) → n ≤ 3 → kind_word (read_kind n) ≡ n
kind_written n l = each (λ (i : ℕ). kind_word (read_kind i) ≡ i) 4 (refl, (refl, (refl, (refl, tt)))) n (omega arith)

-- A kind in range that isn't 0 names one.
pub kind_named : (n : ℕ) → n ≤ 3 → (n ≡ 0 → ⊥) → (kind : Kind) × (read_kind n ≡ some kind)
kind_named zero l n = absurd (n refl)
kind_named (suc zero) l n = (Stack, refl)
kind_named (suc (suc zero)) l n = (Set, refl)
kind_named (suc (suc (suc zero))) l n = (Table, refl)
kind_named (suc (suc (suc (suc k)))) l n = absurd (omega arith)

module _ (w : List ℕ) (o : ℕ) (packed : ObjectPacked w o) where
  row_written : (i j : ℕ) → j < 2 → word (row_words (row_at w o i)) j ≡ word w (object_start o + 2 + (2 * i + j))
  row_written i =
      each (λ (j : ℕ). word (row_words (row_at w o i)) j ≡ word w (object_start o + 2 + (2 * i + j))) 2
      (ap (word w) (omega arith), (ap (word w) (omega arith), tt))

  object_written : (j : ℕ) → j < 130 → word (object_words (read_object w o)) j ≡ word w (65 + (130 * o + j))
  object_written zero l = kind_written (word w (object_start o)) packed.kind ∙ ap (word w) (omega arith)
  object_written (suc zero) l = length_tabulate (word w (object_start o + 1)) (row_at w o) ∙ ap (word w) (omega arith)
  object_written (suc (suc j)) l =
      padded_same row_words 2 128 (word w (object_start o + 1)) (row_at w o)
      (λ (p : ℕ). word w (object_start o + 2 + p)) (λ i m. refl)
      (λ i j m. row_written i j) packed.unused j (omega arith)
      ∙ ap (word w) (omega arith)

  object_fits : ObjectFits (read_object w o)
  object_fits =
      record {
        rows = omega (arith, length_tabulate (word w (object_start o + 1)) (row_at w o), packed.rows);
        none = λ (e : read_kind (word w (object_start o)) ≡ none).
            let no_kind : word w (object_start o) ≡ 0 =
            sym (kind_written (word w (object_start o)) packed.kind) ∙ ap kind_word e in
            ap (λ (n : ℕ). tabulate n (row_at w o)) (packed.none no_kind) ∙ tabulate_zero (row_at w o);
      }

-- ---- Written and read

pub kind_read : (kind : Option Kind) → read_kind (kind_word kind) ≡ kind
kind_read none = refl
kind_read (some Stack) = refl
kind_read (some Set) = refl
kind_read (some Table) = refl

kind_below : (kind : Option Kind) → kind_word kind ≤ 3
kind_below none = omega arith
kind_below (some kind) = (kinds kind).1

module _ (w : List ℕ) (o : ℕ) (x : Object) (fits : ObjectFits x)
    (holds : (j : ℕ) → j < 130 → word w (65 + (130 * o + j)) ≡ word (object_words x) j) where
  kind_word_lem : word w (object_start o) ≡ kind_word x.kind
  kind_word_lem = ap (word w) (omega arith) ∙ holds 0 (omega arith)

  count_word : word w (object_start o + 1) ≡ length x.rows
  count_word = ap (word w) (omega arith) ∙ holds 1 (omega arith)

  rows_word : (p : ℕ) → p < 128 → word w (object_start o + 2 + p) ≡ word (padded 128 (joined row_words x.rows)) p
  rows_word p l =
      let e : 2 + p ≡ suc (suc p) = omega arith in
      ap (word w) (omega arith) ∙ holds (2 + p) (omega arith) ∙ ap (word (object_words x)) e

  row_read : (i : ℕ) → i < length x.rows → row_at w o i ≡ get_or x.rows i (row 0 0)
  row_read i l =
      let at : (j : ℕ) → j < 2
      → word w (object_start o + 2 + (2 * i + j)) ≡ word (row_words (get_or x.rows i (row 0 0))) j =
      λ j m. rows_word (2 * i + j) (omega (arith, fits.rows))
      ∙ padded_row row_words 2 128 x.rows (rows_rows x.rows) (row 0 0) i j l m in
      ap₂ row (ap (word w) (omega arith) ∙ at 0 (omega arith)) (ap (word w) (omega arith) ∙ at 1 (omega arith))

  object_read : read_object w o ≡ x
  object_read =
      let kind : read_kind (word w (object_start o)) ≡ x.kind = ap read_kind kind_word_lem ∙ kind_read x.kind in
      let rows : rows_at w o ≡ x.rows =
      ap (λ (n : ℕ). tabulate n (row_at w o)) count_word
      ∙ tabulate_list x.rows (row 0 0) (length x.rows) (row_at w o) refl row_read in
      λ i. record { kind = kind i; rows = rows i }

  object_packed : ObjectPacked w o
  object_packed =
      record {
        kind = rw kind_word_lem (kind_below x.kind);
        rows = rw count_word fits.rows;
        none = λ (e : word w (object_start o) ≡ 0).
            let kind : x.kind ≡ none = sym (kind_read x.kind) ∙ ap read_kind (sym kind_word_lem ∙ e) in
            count_word ∙ ap length (fits.none kind);
        unused = λ p l m. rows_word p m
            ∙ padded_past 128 (joined row_words x.rows) p (omega (arith, rows_length x.rows, count_word));
      }

-- ---- The base's objects

pub objects_rows : (xs : List Object) → All ObjectFits xs → Rows object_words 130 xs
objects_rows xs fit = all_map {P = ObjectFits} {Q = λ (x : Object). length (object_words x) ≡ 130} object_length xs fit

module _ (w : List ℕ) (xs : List Object) (size : length xs ≡ 16) (fit : All ObjectFits xs) (holds : LaidOut base w xs)
    (o : ℕ) (l : o < 16) where
  within : o < length xs
  within = rw size l

  here : (j : ℕ) → j < 130 → word w (65 + (130 * o + j)) ≡ word (object_words (get_or xs o no_object)) j
  here j m =
      holds (130 * o + j) (omega arith) ∙ joined_word object_words 130 xs (objects_rows xs fit) no_object o j within m

  objects_read : read_object w o ≡ get_or xs o no_object
  objects_read = object_read w o (get_or xs o no_object) (all_get_d ObjectFits xs fit o no_object within) here

  objects_packed : ObjectPacked w o
  objects_packed = object_packed w o (get_or xs o no_object) (all_get_d ObjectFits xs fit o no_object within) here

pub base_laid : ObjectsLaid base
base_laid =
    record {
      size = λ xs e fit. joined_length object_words 130 xs (objects_rows xs fit) ∙ ap (λ (n : ℕ). 130 * n) e;
      read = objects_read;
      packed = objects_packed;
      fit = λ w packed. all_of ObjectFits 16 (read_object w) (λ o l. object_fits w o (packed o l));
      written = λ w packed p l.
          sym (joined_same object_words 130 16 (read_object w) (λ (q : ℕ). word w (65 + q))
          (λ o m. object_length (read_object w o) (object_fits w o (packed o m)))
          (λ o j m. object_written w o (packed o m) j) p l);
    }
