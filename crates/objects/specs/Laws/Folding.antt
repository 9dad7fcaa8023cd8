-- An operation folded into an object: on the part that starts with it, and on the book.
use Rattle.std.specs.Prelude.{ℕ, zero, suc, ◌+◌, ◌-◌, ◌*◌, ◌≤◌, ◌<◌, ◌≡◌, refl, List, [], ◌∷◌, ◌++◌, map, length, set}
use Rattle.std.specs.Prelude.{take, drop}
use Rattle.std.proofs.Common.{sym, ap, ap₂, ◌∙◌, subst, append_assoc, append-nil, not-suc-le-zero, add-zero, mul-zero}
use Rattle.std.proofs.Common.{mul-suc, arith, take-append-drop, length-take, length-drop, drop_of_length-le, ext_get_or}
use Rattle.std.proofs.Common.{length-take-le, drop_at, get_or-take, get_or-drop}
use Rattle.std.proofs.Math.Option.{Option, some}
use borrow.Rule.Slice.PartMut.{put_mid}
use Rattle.std.proofs.lemmas.List.{length-map, take-append-le, drop-append-le}
use Rattle.std.proofs.Math.ListN.{get_or-map}
use Rattle.std.proofs.Math.Seq.{take-append-add, drop-append-add}
use Rattle.operations.specs.Operations as model
use Rattle.operations.specs.Operations.{Row, row, next}
use Rattle.operations.specs.declared.Operation.{Operation}
use Rattle.operations.specs.Stored.{operation_of}
use Rattle.replay.specs.Replay.{row_of, next_by, next_named}
use Rattle.store.specs.Store.{Object, Store, object_of}
use Rattle.store.specs.Layout.{word, tabulate, joined, padded, status_word, kind_word, row_words, entry_words, encode}
use Rattle.store.specs.Layout.{decode, base, read_kind, object_start, row_at, rows_at, object_words, Packed}
use Rattle.store.specs.Layout.{Representable}
use Rattle.store.specs.Steps.{with_objects, carried, folded}
use Rattle.store.proofs.Theorems.{encoded, representable}
use Rattle.store.proofs.Laws.Reading.{object_read}
use Rattle.store.proofs.Laws.Lists.{length_tabulate, get_d_tabulate, tabulate_same}
use Rattle.store.proofs.Laws.Words.{Rows, each, tabulate_list, joined_length, padded_length, padded_same}
use Rattle.store.proofs.Laws.Objects.{kind_written, rows_length, objects_rows}
use Rattle.layout.specs.Laws.{tail_part}
use Rattle.objects.specs.Objects.{words_of, pairs_in, rows_in, with_rows, StartsPacked}
use Rattle.objects.specs.Laws.Writing.{rows_count}

-- ---- The object that a part starts with

rows_tabulated : (w : List ℕ) → tabulate (word w 1) (λ i. row (word w (2 + 2 * i)) (word w (2 + 2 * i + 1))) ≡ rows_in w
rows_tabulated w =
    tabulate_list (rows_in w) (row_of []) (word w 1) _ (rows_count w)
    (λ i l. sym (get_or-map row_of (pairs_in w) i [] ∙ ap row_of (get_d_tabulate (word w 1) _ i [] l)))

module _ (w : List ℕ) (long : 130 ≤ length w) (few : word w 1 ≤ 64)
    (unused : (i : ℕ) → 2 * word w 1 ≤ i → i < 128 → word w (2 + i) ≡ 0) where
  abbrev rows : List Row
  rows = tabulate (word w 1) (λ i. row (word w (2 + 2 * i)) (word w (2 + 2 * i + 1)))

  count : length rows ≡ word w 1
  count = length_tabulate (word w 1) _

  rows_words : (p : ℕ) → p < 128 → word (padded 128 (joined row_words rows)) p ≡ word w (2 + p)
  rows_words =
      padded_same row_words 2 128 (word w 1) _ (λ (p : ℕ). word w (2 + p)) (λ i l. refl)
      (λ i j l. each (λ (j : ℕ).
      word (row_words (row (word w (2 + 2 * i)) (word w (2 + 2 * i + 1)))) j ≡ word w (2 + (2 * i + j))) 2
      (ap (word w) (omega arith), (ap (word w) (omega arith), tt)) j)
      unused

  front : (i : ℕ) → i < 130 → word w i ≡ word (words_of (word w 0) rows) i
  front zero l = refl
  front (suc zero) l = sym count
  front (suc (suc p)) l = let e : suc (suc p) ≡ 2 + p = omega arith in ap (word w) e ∙ sym (rows_words p (omega arith))

  starts_packed : StartsPacked w
  starts_packed =
      let size : length (take 130 w) ≡ 130 = length-take-le 130 w long in
      let fits : length (joined row_words rows) ≤ 128 = omega (arith, rows_length rows, count) in
      let whole : take 130 w ≡ words_of (word w 0) rows =
      ext_get_or 0 (take 130 w) (words_of (word w 0) rows)
      (omega (arith, size, padded_length 128 (joined row_words rows) fits))
      (λ i l. get_or-take 130 w i 0 (omega (arith, size)) ∙ front i (omega (arith, size))) in
      record {
        long = long;
        rows = few;
        words = sym (take-append-drop 130 w) ∙ ap (λ (v : List ℕ). v ++ drop 130 w) whole
            ∙ ap (with_rows w) (rows_tabulated w);
      }

-- ---- The object in the book

module _ (w : List ℕ) (o : ℕ) where
  -- the part of the book that starts at the object
  abbrev part_at : List ℕ
  part_at = take (length w - object_start o) (drop (object_start o) w)

  part_word : (i : ℕ) → word part_at i ≡ word w (object_start o + i)
  part_word i = ap (λ (l : List ℕ). word l i) (tail_part w (object_start o)) ∙ get_or-drop (object_start o) w i 0

  pub part_rows : rows_in part_at ≡ rows_at w o
  part_rows =
      sym (rows_tabulated part_at)
      ∙ ap (λ (n : ℕ). tabulate n (λ i. row (word part_at (2 + 2 * i)) (word part_at (2 + 2 * i + 1)))) (part_word 1)
      ∙ tabulate_same (word w (object_start o + 1)) _ (row_at w o)
      (λ i l. ap₂ row (part_word (2 + 2 * i) ∙ ap (word w) (omega arith))
      (part_word (2 + 2 * i + 1) ∙ ap (word w) (omega arith)))

  module _ (packed : Packed base w) (l : o < 16) where
    pub part_ready : (operation : Operation) → length (next_named operation (rows_at w o)) ≤ 64
        → StartsPacked part_at × (length (next_named operation (rows_in part_at)) ≤ 64)
    part_ready operation room =
        let own = packed.objects o l in (
          starts_packed part_at (simp (length-take, length-drop) (omega (arith, packed.words)))
              (rw (part_word 1) own.rows)
              (λ i m n. part_word (2 + i) ∙ ap (word w) (omega arith) ∙ own.unused i (omega (arith, part_word 1)) n),
          subst (λ (rs : List Row). length (next_named operation rs) ≤ 64) (sym part_rows) room,
        )

-- ---- Words put into a list

put_after : (xs ys v : List ℕ) (n a k : ℕ) → length xs ≡ n → put_mid (n + a) k (xs ++ ys) v ≡ xs ++ put_mid a k ys v
put_after xs ys v n a k e =
    rw (← e, take-append-add xs ys a, drop-append-add xs ys a) (append_assoc xs (take a ys) (v ++ drop k (drop a ys)))

put_within : (xs ys v : List ℕ) (a k : ℕ) → a + k ≤ length xs → put_mid a k (xs ++ ys) v ≡ put_mid a k xs v ++ ys
put_within xs ys v a k l =
    let start : a ≤ length xs = omega arith in
    let end : k ≤ length (drop a xs) = rw length-drop (omega arith) in
    rw (take-append-le a xs ys start, drop-append-le a xs ys start, drop-append-le k (drop a xs) ys end)
    (simp append_assoc)

-- A part that goes to the end, of which only the first k words differ.
put_front : (w v : List ℕ) (a k : ℕ) → put_mid a (length w - a) w (v ++ drop k (drop a w)) ≡ put_mid a k w v
put_front w v a k =
    let end : drop (length w - a) (drop a w) ≡ [] =
    drop_of_length-le (drop a w) {i = length w - a} (rw length-drop (omega arith)) in
    ap (λ (l : List ℕ). take a w ++ ((v ++ drop k (drop a w)) ++ l)) end
    ∙ ap (λ (l : List ℕ). take a w ++ l) (append-nil (v ++ drop k (drop a w)))

-- ---- The book

module _ {A : Type 0} (f : A → List ℕ) (k : ℕ) where
  -- One element in rows replaced: its k words are.
  joined_set : (xs : List A) → Rows f k xs → (i : ℕ) (y : A) → i < length xs
      → joined f (set xs i y) ≡ put_mid (k * i) k (joined f xs) (f y)
  joined_set [] r i y l = absurd (not-suc-le-zero l)
  joined_set (x ∷ xs) r zero y l =
      rw (mul-zero k) (ap (λ (v : List ℕ). f y ++ v) (sym (drop_at (f x) (joined f xs) k r.0)))
  joined_set (x ∷ xs) r (suc i) y l =
      let e : k * suc i ≡ k + k * i = omega (arith, mul-suc k i) in
      ap (λ (v : List ℕ). f x ++ v) (joined_set xs r.1 i y (omega arith))
      ∙ sym (put_after (f x) (joined f xs) (f y) k (k * i) k r.0)
      ∙ ap (λ (n : ℕ). put_mid n k (f x ++ joined f xs) (f y)) (sym e)

-- A store with one object replaced: its words are.
replaced : (s : Store) → Representable base s → (o : ℕ) (x : Object) → o < 16
    → encode base (with_objects (set s.objects o x) s)
    ≡ put_mid (object_start o) 130 (encode base s) (object_words x)
unfolding encode
replaced s r o x l =
    let front = length s.log ∷ map status_word s.statuses in
    let objects = joined object_words s.objects in
    let log = padded 1_792 (joined entry_words s.log) in
    let rows = objects_rows s.objects r.fit in
    let within : o < length s.objects = omega (arith, r.objects) in
    let room : 130 * o + 130 ≤ length objects =
    omega (arith, joined_length object_words 130 s.objects rows, r.objects) in
    sym (put_after front (objects ++ log) (object_words x) 65 (130 * o) 130
    (omega (arith, length-map s.statuses status_word, r.statuses))
    ∙ ap (λ (v : List ℕ). front ++ v)
    (put_within objects log (object_words x) (130 * o) 130 room
    ∙ ap (λ (v : List ℕ). v ++ log) (sym (joined_set object_words 130 s.objects rows o x within))))

module _ (w : List ℕ) (packed : Packed base w) (object : ℕ) (l : object < 16) (operation : Operation)
    (o : model.Operation) (named : operation_of operation ≡ some o) where
  object_words_lem : words_of (word (part_at w object) 0) (next_named operation (rows_in (part_at w object)))
      ≡ object_words (carried o (object_of (decode base w) object))
  object_words_lem =
      let start = object_start object in
      let kind : word (part_at w object) 0 ≡ kind_word (read_kind (word w start)) =
      part_word w object 0 ∙ ap (word w) (add-zero start)
      ∙ sym (kind_written (word w start) (packed.objects object l).kind)
      in
      let rows : next_named operation (rows_in (part_at w object)) ≡ next o (rows_at w object) =
      ap (next_named operation) (part_rows w object)
      ∙ ap (λ (q : Option model.Operation). next_by q (rows_at w object)) named
      in
      ap₂ words_of kind rows ∙ ap (λ (x : Object). object_words (carried o x)) (sym (object_read base w object l))

  pub book_folded : (part : List ℕ) → part ≡ with_rows (part_at w object) (next_named operation (rows_in
      (part_at w object)))
      → put_mid (object_start object) (length w - object_start object) w part
      ≡ encode base (folded object o (decode base w))
  book_folded part e =
      let start = object_start object in
      let x = carried o (object_of (decode base w) object) in
      ap (put_mid start (length w - start) w)
      (e ∙ ap₂ (λ (u v : List ℕ). u ++ v) object_words_lem (ap (drop 130) (tail_part w start)))
      ∙ put_front w (object_words x) start 130
      ∙ ap (λ (v : List ℕ). put_mid start 130 v (object_words x)) (sym (encoded w packed))
      ∙ sym (replaced (decode base w) (representable w packed) object x l)
