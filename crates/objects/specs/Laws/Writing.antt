-- Rows changed in place, in the part of a book that starts with their object.
use Rattle.std.specs.Prelude.{Bool, ℕ, zero, suc, ◌+◌, ◌-◌, ◌*◌, ◌≤◌, ◌<◌, ◌≡◌, refl, true, false, List, [], ◌∷◌, ◌++◌}
use Rattle.std.specs.Prelude.{◌/◌, map, length, set, take, drop, replicate}
use Rattle.std.proofs.Common.{sym, ap, ap₂, ◌∙◌, append_assoc, not-suc-le-zero, arith}
use Rattle.std.proofs.Common.{length-set, length-take-le, length-drop, get_or-take, get_or-drop}
use Rattle.std.proofs.Common.{take-append-drop, drop-cons}
use Rattle.std.proofs.lemmas.List.{length-map, set-get_or}
use borrow.Rule.Slice.PartMut.{put_mid}
use Rattle.std.specs.List.{copy_within}
use Rattle.std.specs.Simd.{first_chunks}
use Rattle.operations.specs.Operations.{Row, row, present, inserted, deleted, modified}
use Rattle.replay.specs.Replay.{row_of, position_of, put_at, removed_at}
use Rattle.replay.specs.Laws.Lists.{length_put, length_removed}
use Rattle.replay.specs.Laws.Positions.{row_at, there, absent, inserted_more}
use Rattle.store.specs.Layout.{word, tabulate, joined, row_words}
use Rattle.store.proofs.Laws.Lists.{length_tabulate, tabulate_same}
use Rattle.store.proofs.Laws.Words.{joined_append}
use Rattle.store.proofs.Laws.Objects.{rows_length}
use Rattle.objects.specs.Laws.Moving.{moved_up, moved_down}
use Rattle.objects.specs.Objects.{words_of, pairs_in, rows_in, with_rows, StartsPacked}

-- ---- Rows as words, and others after them

pub pairs_count : (w : List ℕ) → length (pairs_in w) ≡ word w 1
pairs_count w = length_tabulate (word w 1) _

pub rows_count : (w : List ℕ) → length (rows_in w) ≡ word w 1
rows_count w = length-map (pairs_in w) row_of ∙ pairs_count w

-- Words two by two.
chunks : (n : ℕ) (w : List ℕ) → 2 * n ≤ length w
    → first_chunks 2 n w ≡ tabulate n (λ i. word w (2 * i) ∷ word w (2 * i + 1) ∷ [])
unfolding tabulate
chunks zero w l = refl
chunks (suc n) [] l = absurd (omega arith)
chunks (suc n) (a ∷ []) l = absurd (omega arith)
chunks (suc n) (a ∷ b ∷ w) l =
    let later = tabulate_same n (λ i. word w (2 * i) ∷ word w (2 * i + 1) ∷ [])
    (λ i. word (a ∷ b ∷ w) (2 * suc i) ∷ word (a ∷ b ∷ w) (2 * suc i + 1) ∷ [])
    (λ i m. let e : 2 * suc i ≡ suc (suc (2 * i)) = omega arith in
    let f : 2 * suc i + 1 ≡ suc (suc (2 * i + 1)) = omega arith in
    ap₂ (λ (j k : ℕ). word (a ∷ b ∷ w) j ∷ word (a ∷ b ∷ w) k ∷ []) (sym e) (sym f)) in
    ap (λ l. (a ∷ b ∷ []) ∷ l) (chunks n w (omega arith) ∙ later)

-- The rows as pairs of words.
pub rows_chunks : (w : List ℕ) → 130 ≤ length w → word w 1 ≤ 64
    → (let part = take (2 + 2 * word w 1 - 2) (drop 2 w) in
    map row_of (first_chunks 2 (length part / 2) part) ≡ rows_in w)
rows_chunks w long few =
    let n = word w 1 in
    let part = take (2 + 2 * n - 2) (drop 2 w) in
    let size : length part ≡ 2 * n = length-take-le _ (drop 2 w) (omega (arith, length-drop 2 w)) ∙ omega arith in
    let half : length part / 2 ≡ n = omega arith in
    let same : tabulate n (λ i. word part (2 * i) ∷ word part (2 * i + 1) ∷ []) ≡ pairs_in w =
    tabulate_same n _ _ (λ i l. ap₂ (λ (j k : ℕ). j ∷ k ∷ [])
    (get_or-take _ (drop 2 w) (2 * i) 0 (omega arith) ∙ get_or-drop 2 w (2 * i) 0)
    (get_or-take _ (drop 2 w) (2 * i + 1) 0 (omega arith) ∙ get_or-drop 2 w (2 * i + 1) 0
    ∙ ap (word w) (omega arith))) in
    ap (map row_of) (ap (λ m. first_chunks 2 m part) half ∙ chunks n part (omega arith) ∙ same)

rows_stored : (rs : List Row) (rest : List ℕ) (i k v : ℕ) → i < length rs
    → set (set (joined row_words rs ++ rest) (2 * i) k) (suc (2 * i)) v ≡ joined row_words (set rs i (row k v)) ++ rest
rows_stored [] rest i k v l = absurd (not-suc-le-zero l)
rows_stored (r ∷ rs) rest zero k v l = refl
rows_stored (r ∷ rs) rest (suc i) k v l =
    let e : 2 * suc i ≡ suc (suc (2 * i)) = omega arith in
    rw e (ap (λ (w : List ℕ). r.key ∷ r.value ∷ w) (rows_stored rs rest i k v (omega arith)))

rows_read : (rs : List Row) (rest : List ℕ) (i : ℕ) → i < length rs
    → (word (joined row_words rs ++ rest) (2 * i) ≡ (row_at rs i).key)
    × (word (joined row_words rs ++ rest) (suc (2 * i)) ≡ (row_at rs i).value)
rows_read [] rest i l = absurd (not-suc-le-zero l)
rows_read (r ∷ rs) rest zero l = (refl, refl)
rows_read (r ∷ rs) rest (suc i) l =
    let e : 2 * suc i ≡ suc (suc (2 * i)) = omega arith in
    rw e (rows_read rs rest i (omega arith))

-- Kind, number of rows, rows, and what follows.
abbrev laid : ℕ → ℕ → List Row → List ℕ → List ℕ
laid kind n rs rest = kind ∷ n ∷ (joined row_words rs ++ rest)

module _ (kind n : ℕ) (rs : List Row) (rest : List ℕ) where
  module _ (i : ℕ) (l : i < length rs) where
    two : 2 + 2 * i ≡ suc (suc (2 * i))
    two = omega arith

    three : 2 + 2 * i + 1 ≡ suc (suc (suc (2 * i)))
    three = omega arith

    laid_stored : (k v : ℕ)
        → set (set (laid kind n rs rest) (2 + 2 * i) k) (2 + 2 * i + 1) v ≡ laid kind n (set rs i (row k v)) rest
    laid_stored k v = rw (three, two) (ap (λ (w : List ℕ). kind ∷ n ∷ w) (rows_stored rs rest i k v l))

    laid_key : word (laid kind n rs rest) (2 + 2 * i) ≡ (row_at rs i).key
    laid_key = rw two (rows_read rs rest i l).0

-- Two words as a row's.
pair_words : (pair : List ℕ) → length pair ≡ 2 → pair ≡ row_words (row_of pair)
pair_words [] e = absurd (omega arith)
pair_words (k ∷ []) e = absurd (omega arith)
pair_words (k ∷ v ∷ []) e = refl
pair_words (k ∷ v ∷ x ∷ more) e = absurd (omega arith)

-- Zeros from the rows on to the object's end.
abbrev zeros : ℕ → List ℕ → List ℕ
zeros n rest = replicate (128 - 2 * n) 0 ++ rest

object_laid : (kind : ℕ) (rs : List Row) (rest : List ℕ) (n : ℕ) → length rs ≡ n
    → words_of kind rs ++ rest ≡ laid kind n rs (zeros n rest)
object_laid kind rs rest n e =
    ap (λ (w : List ℕ). kind ∷ length rs ∷ w)
    (append_assoc (joined row_words rs) _ rest
    ∙ ap (λ (m : ℕ). joined row_words rs ++ (replicate (128 - m) 0 ++ rest)) (rows_length rs))
    ∙ ap (λ (m : ℕ). laid kind m rs (zeros m rest)) e

zeros_two : (n : ℕ) (rest : List ℕ) → n < 64 → zeros n rest ≡ 0 ∷ 0 ∷ zeros (n + 1) rest
zeros_two n rest l =
    let e : 128 - 2 * n ≡ suc (suc (128 - 2 * (n + 1))) = omega arith in
    ap (λ (m : ℕ). replicate m 0 ++ rest) e

-- ---- A row put in, and a row left out

module _ (w : List ℕ) (packed : StartsPacked w) where
  -- The words up to row i, with another number of rows.
  front : ℕ → ℕ → List ℕ
  front n i = word w 0 ∷ n ∷ joined row_words (take i (rows_in w))

  front_length : (n i : ℕ) → i ≤ word w 1 → length (front n i) ≡ 2 + 2 * i
  unfolding front
  front_length n i l =
      omega (arith, rows_length (take i (rows_in w)), length-take-le i (rows_in w) (omega (arith, rows_count w)))

  -- The words from row i on to the last row's.
  behind : ℕ → List ℕ
  behind i = joined row_words (drop i (rows_in w))

  behind_length : (i : ℕ) → i ≤ word w 1 → length (behind i) ≡ 2 * (word w 1 - i)
  unfolding behind
  behind_length i l = omega (arith, rows_length (drop i (rows_in w)), length-drop i (rows_in w), rows_count w)

  free : List ℕ
  free = zeros (word w 1) (drop 130 w)

  split_rows : (i : ℕ) → joined row_words (rows_in w) ≡ joined row_words (take i (rows_in w)) ++ behind i
  unfolding behind
  split_rows i =
      ap (joined row_words) (sym (take-append-drop i (rows_in w)))
      ∙ joined_append row_words (take i (rows_in w)) (drop i (rows_in w))

  words_lem : (i : ℕ) → w ≡ front (word w 1) i ++ (behind i ++ free)
  unfolding front free
  words_lem i =
      packed.words ∙ object_laid (word w 0) (rows_in w) (drop 130 w) (word w 1) (rows_count w)
      ∙ ap (λ (l : List ℕ). word w 0 ∷ word w 1 ∷ (l ++ free)) (split_rows i)
      ∙ ap (λ (l : List ℕ). word w 0 ∷ word w 1 ∷ l)
      (append_assoc (joined row_words (take i (rows_in w))) (behind i) free)

  pub opened : (at m : ℕ) (pair : List ℕ) → length pair ≡ 2 → at ≤ word w 1 → word w 1 < 64 → m ≡ 2
      → (let moved = put_mid (2 + 2 * at) m (copy_within w (2 + 2 * at) (2 + 2 * word w 1) (2 + 2 * at + 2)) pair in
      set moved 1 (word moved 1 + 1) ≡ with_rows w (put_at at (row_of pair) (rows_in w)))
  unfolding front behind free
  opened at m pair two l room same =
      let n = word w 1 in
      let target = put_at at (row_of pair) (rows_in w) in
      let rest = zeros (n + 1) (drop 130 w) in
      let words : w ≡ front n at ++ (behind at ++ ((0 ∷ 0 ∷ []) ++ rest)) =
      words_lem at ∙ ap (λ (l : List ℕ). front n at ++ (behind at ++ l)) (zeros_two n (drop 130 w) room) in
      let moved : put_mid (2 + 2 * at) m (copy_within w (2 + 2 * at) (2 + 2 * n) (2 + 2 * at + 2)) pair
      ≡ front n at ++ (pair ++ (behind at ++ rest)) =
      ap (λ (q : List ℕ). put_mid (2 + 2 * at) m (copy_within q (2 + 2 * at) (2 + 2 * n) (2 + 2 * at + 2)) pair) words
      ∙ moved_up (front n at) (behind at) (0 ∷ 0 ∷ []) rest pair (2 + 2 * at) (2 + 2 * n) 2 m (front_length n at l)
      (omega (arith, behind_length at l)) refl same in
      let more : length target ≡ n + 1 =
      length_put at (row_of pair) (rows_in w) ∙ ap (λ (k : ℕ). k + 1) (rows_count w) in
      let rows : joined row_words (take at (rows_in w)) ++ (pair ++ (behind at ++ rest))
      ≡ joined row_words target ++ rest =
      ap (λ (q : List ℕ). joined row_words (take at (rows_in w)) ++ (q ++ (behind at ++ rest))) (pair_words pair two)
      ∙ ap (λ (q : List ℕ). joined row_words (take at (rows_in w)) ++ q)
      (sym (append_assoc (row_words (row_of pair)) (behind at) rest))
      ∙ sym (append_assoc (joined row_words (take at (rows_in w))) (row_words (row_of pair) ++ behind at) rest)
      ∙ ap (λ (q : List ℕ). q ++ rest)
      (sym (joined_append row_words (take at (rows_in w)) (row_of pair ∷ drop at (rows_in w)))) in
      ap (λ (q : List ℕ). set q 1 (word q 1 + 1)) moved
      ∙ ap (λ (q : List ℕ). word w 0 ∷ (n + 1) ∷ q) rows
      ∙ sym (object_laid (word w 0) target (drop 130 w) (n + 1) more)

  pub closed : (at k m : ℕ) → at < word w 1 → k ≡ 2 * word w 1 → m ≡ 2
      → (let moved = put_mid k m (copy_within w (2 + 2 * at + 2) (2 + 2 * word w 1) (2 + 2 * at)) (replicate m 0) in
      set moved 1 (word moved 1 - 1) ≡ with_rows w (removed_at at (rows_in w)))
  unfolding front behind free
  closed at k m l place same =
      let n = word w 1 in
      let target = removed_at at (rows_in w) in
      let gone = row_words (row_at (rows_in w) at) in
      let later = behind (suc at) in
      let this : behind at ≡ gone ++ later =
      ap (joined row_words) (drop-cons (rows_in w) at (row 0 0) (omega (arith, rows_count w))) in
      let words : w ≡ front n at ++ (gone ++ (later ++ free)) =
      words_lem at ∙ ap (λ (q : List ℕ). front n at ++ (q ++ free)) this
      ∙ ap (λ (q : List ℕ). front n at ++ q) (append_assoc gone later free) in
      let size : length later ≡ 2 * (n - suc at) = behind_length (suc at) (omega arith) in
      let moved : put_mid k m (copy_within w (2 + 2 * at + 2) (2 + 2 * n) (2 + 2 * at)) (replicate m 0)
      ≡ front n at ++ (later ++ (replicate m 0 ++ free)) =
      ap (λ (q : List ℕ). put_mid k m (copy_within q (2 + 2 * at + 2) (2 + 2 * n) (2 + 2 * at)) (replicate m 0)) words
      ∙ moved_down (front n at) later gone free (replicate m 0) (2 + 2 * at) (2 + 2 * n) 2 k m
      (front_length n at (omega arith)) refl (omega (arith, size)) (omega (arith, size, place)) same in
      let fewer : length target ≡ n - 1 =
      length_removed at (rows_in w) (omega (arith, rows_count w)) ∙ ap (λ (q : ℕ). q - 1) (rows_count w) in
      let filled : replicate m 0 ++ free ≡ zeros (n - 1) (drop 130 w) =
      rw same (sym (zeros_two (n - 1) (drop 130 w) (omega (arith, packed.rows))
      ∙ ap (λ (q : ℕ). 0 ∷ 0 ∷ zeros q (drop 130 w)) (omega arith))) in
      let rows : joined row_words (take at (rows_in w)) ++ (later ++ (replicate m 0 ++ free))
      ≡ joined row_words target ++ zeros (n - 1) (drop 130 w) =
      ap (λ (q : List ℕ). joined row_words (take at (rows_in w)) ++ (later ++ q)) filled
      ∙ sym (append_assoc (joined row_words (take at (rows_in w))) later (zeros (n - 1) (drop 130 w)))
      ∙ ap (λ (q : List ℕ). q ++ zeros (n - 1) (drop 130 w))
      (sym (joined_append row_words (take at (rows_in w)) (drop (suc at) (rows_in w)))) in
      ap (λ (q : List ℕ). set q 1 (word q 1 - 1)) moved
      ∙ ap (λ (q : List ℕ). word w 0 ∷ (n - 1) ∷ q) rows
      ∙ sym (object_laid (word w 0) target (drop 130 w) (n - 1) fewer)

-- ---- One row's second word

value_stored : (w : List ℕ) (i k v : ℕ) → StartsPacked w → i < word w 1 → (row_at (rows_in w) i).key ≡ k
    → set w (2 + 2 * i + 1) v ≡ with_rows w (set (rows_in w) i (row k v))
value_stored w i k v packed l e =
    let rest = zeros (word w 1) (drop 130 w) in
    let words : w ≡ laid (word w 0) (word w 1) (rows_in w) rest =
    packed.words ∙ object_laid (word w 0) (rows_in w) (drop 130 w) (word w 1) (rows_count w) in
    let within : i < length (rows_in w) = omega (arith, rows_count w) in
    let same : word w (2 + 2 * i) ≡ k =
    ap (λ (q : List ℕ). word q (2 + 2 * i)) words
    ∙ laid_key (word w 0) (word w 1) (rows_in w) rest i within ∙ e in
    ap (λ (q : List ℕ). set q (2 + 2 * i + 1) v) (sym (set-get_or w (2 + 2 * i) 0) ∙ ap (set w (2 + 2 * i)) same)
    ∙ ap (λ (q : List ℕ). set (set q (2 + 2 * i) k) (2 + 2 * i + 1) v) words
    ∙ laid_stored (word w 0) (word w 1) (rows_in w) rest i within k v
    ∙ sym (object_laid (word w 0) (set (rows_in w) i (row k v)) (drop 130 w) (word w 1)
    (length-set (rows_in w) i (row k v) ∙ rows_count w))

-- ---- The rows after an operation

-- Rows that are the part's, and the place of a key among them.
module _ (w : List ℕ) (packed : StartsPacked w) (rows : List Row) (own : rows ≡ rows_in w) (k at : ℕ)
    (here : at ≡ position_of k rows) where
  place : at ≡ position_of k (rows_in w)
  place = here ∙ ap (position_of k) own

  held : {b : Bool} → present k rows ≡ b → present k (rows_in w) ≡ b
  held h = ap (present k) (sym own) ∙ h

  kept : (rs : List Row) → rs ≡ rows_in w → w ≡ with_rows w rs
  kept rs e = packed.words ∙ ap (with_rows w) (sym e)

  pub within : present k rows ≡ true → at < word w 1
  within h = omega (arith, place, rows_count w, (there k (rows_in w) (held h)).within)

  pub room : (v : ℕ) → present k rows ≡ false → length (inserted k v (rows_in w)) ≤ 64
      → (at ≤ word w 1) × (word w 1 < 64)
  room v h l = (
    omega (arith, place, rows_count w, (absent k (rows_in w) (held h)).within),
    omega (arith, rows_count w, inserted_more k (rows_in w) v (held h)),
  )

  pub put_inserted : (v : ℕ) → present k rows ≡ false
      → with_rows w (put_at at (row k v) (rows_in w)) ≡ with_rows w (inserted k v (rows_in w))
  put_inserted v h = ap (with_rows w) (rw place (sym ((absent k (rows_in w) (held h)).inserts v)))

  pub inserted_kept : (v : ℕ) → present k rows ≡ true → w ≡ with_rows w (inserted k v (rows_in w))
  inserted_kept v h = kept _ ((there k (rows_in w) (held h)).inserts v)

  pub removed_deleted : present k rows ≡ true
      → with_rows w (removed_at at (rows_in w)) ≡ with_rows w (deleted k (rows_in w))
  removed_deleted h = ap (with_rows w) (rw place (sym (there k (rows_in w) (held h)).deletes))

  pub deleted_kept : present k rows ≡ false → w ≡ with_rows w (deleted k (rows_in w))
  deleted_kept h = kept _ (absent k (rows_in w) (held h)).deletes

  pub stored_modified : (v : ℕ) → present k rows ≡ true
      → set w (2 + 2 * at + 1) v ≡ with_rows w (modified k v (rows_in w))
  stored_modified v h =
      let t = there k (rows_in w) (held h) in
      value_stored w at k v packed (within h) (rw place t.key)
      ∙ ap (with_rows w) (ap (λ (m : ℕ). set (rows_in w) m (row k v)) place ∙ sym (t.modifies v))

  pub modified_kept : (v : ℕ) → present k rows ≡ false → w ≡ with_rows w (modified k v (rows_in w))
  modified_kept v h = kept _ ((absent k (rows_in w) (held h)).modifies v)
