-- The part of the book that an object's rows are.
use Rattle.std.specs.Prelude.{ℕ, ◌+◌, ◌-◌, ◌*◌, ◌≤◌, ◌<◌, ◌≡◌, refl, List, length, take, drop}
use Rattle.std.proofs.Common.{sym, ap, ◌∙◌, arith, length-drop, ext_get_or, length-take-le, get_or-take, get_or-drop}
use Rattle.store.specs.Store.{Object, object_of}
use Rattle.store.specs.Layout.{base, decode, word, joined, row_words, object_start, row_at, rows_at, Packed}
use Rattle.store.proofs.Laws.Lists.{length_tabulate}
use Rattle.store.proofs.Laws.Reading.{object_read}
use Rattle.store.proofs.Laws.Words.{each, joined_same}
use Rattle.store.proofs.Laws.Objects.{rows_length}

module _ (w : List ℕ) (o : ℕ) (l : o < 16) where
  pub rows_counted : length (object_of (decode base w) o).rows ≡ word w (object_start o + 1)
  rows_counted =
      ap (λ (x : Object). length x.rows) (object_read base w o l)
      ∙ length_tabulate (word w (object_start o + 1)) (row_at w o)

  module _ (packed : Packed base w) where
    pub rows_few : word w (object_start o + 1) ≤ 64
    rows_few = (packed.objects o l).rows

    abbrev count : ℕ
    count = word w (object_start o + 1)

    -- Two words a row, from the third word of the object on.
    pub rows_part : (n : ℕ) → n ≡ word w (object_start o + 1)
        → take (object_start o + 2 + 2 * n - (object_start o + 2)) (drop (object_start o + 2) w)
        ≡ joined row_words (object_of (decode base w) o).rows
    rows_part n e =
        let m : ℕ = object_start o + 2 + 2 * n - (object_start o + 2) in
        let part : List ℕ = take m (drop (object_start o + 2) w) in
        let size : length part ≡ 2 * count =
        length-take-le m (drop (object_start o + 2) w)
        (omega (arith, length-drop (object_start o + 2) w, packed.words, rows_few)) ∙ omega arith in
        let row : (i j : ℕ) → i < count → j < 2
        → word (row_words (row_at w o i)) j ≡ word w (object_start o + 2 + (2 * i + j)) =
        λ i j k. each (λ (j : ℕ). word (row_words (row_at w o i)) j ≡ word w (object_start o + 2 + (2 * i + j))) 2
        (ap (word w) (omega arith), (ap (word w) (omega arith), tt)) j in
        ext_get_or 0 part (joined row_words (rows_at w o))
        (size ∙ ap (λ (k : ℕ). 2 * k) (sym (length_tabulate count (row_at w o))) ∙ sym (rows_length (rows_at w o)))
        (λ p l. get_or-take m (drop (object_start o + 2) w) p 0 (omega (arith, size)) ∙ get_or-drop
        (object_start o + 2) w p 0
        ∙ sym (joined_same row_words 2 count (row_at w o) (λ (q : ℕ). word w (object_start o + 2 + q))
        (λ i k. refl) row p (omega (arith, size))))
        ∙ ap (λ (x : Object). joined row_words x.rows) (sym (object_read base w o l))
