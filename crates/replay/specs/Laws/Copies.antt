-- Copies of rows: what is read in one, and what one holds after the stores of replay.
use Rattle.std.specs.Prelude.{ℕ, ◌+◌, ◌-◌, ◌<◌, ◌≤◌, ◌≡◌, refl, true, false, List, [], ◌∷◌, ◌++◌, map, eqb, length}
use Rattle.std.specs.Prelude.{get_or, take, drop, set, cond, ltb, Option, None, Some}
use Rattle.std.proofs.Common.{ap, sym, ◌∙◌, arith, length-set, length-take, length-take-le, take-take}
use Rattle.std.proofs.lemmas.List.{length-map, take-append-le}
use Rattle.std.proofs.Math.Seq.{take-append_seam}
use Rattle.std.proofs.Math.Option.{none, some}
use Rattle.std.proofs.Math.ListN.{get_or-map}
use Rattle.std.proofs.Math.Seq.{take-set-lt}
use borrow.Author.Tests.{ltb-true, ltb-false, lt-ltb}
use Rattle.operations.proofs.Laws.Cases.{map_set, split}
use Rattle.operations.specs.Operations.{found, present, inserted, deleted, modified, top_item}
use Rattle.operations.specs.Stored.{found_of}
use Rattle.replay.specs.Replay.{row_of, rows_of, BeginsWith, position_of, put_at, removed_at}
use Rattle.replay.specs.Laws.Lists.{take_taken, map_take, map_put, map_removed, length_put}
use Rattle.replay.specs.Laws.Lists.{length_removed, get_d_default}
use Rattle.replay.specs.Laws.Positions.{row_at, there, absent, tested, untested, inserted_more}

-- ---- Reading

module _ (k : ℕ) (pairs : List (List ℕ)) (at : ℕ) (here : at ≡ position_of k (map row_of pairs)) where
  row_here : row_at (map row_of pairs) (position_of k (map row_of pairs)) ≡ row_of (get_or pairs at [])
  row_here = rw (← here) (get_or-map row_of pairs at [])

  pub present_here : at < length pairs → eqb (get_or (get_or pairs at []) 0 0) k ≡ present k (map row_of pairs)
  present_here h =
      ap (λ r. eqb r.key k) (sym row_here)
      ∙ tested k (map row_of pairs) (rw (← here, length-map) h)

  pub present_past : length pairs ≤ at → false ≡ present k (map row_of pairs)
  present_past h = untested k (map row_of pairs) (rw (← here, length-map) h)

  -- What stands at the position tells whether the key is there.
  pub present_at : present k (map row_of pairs)
      ≡ cond (ltb at (length pairs)) (eqb (get_or (get_or pairs at []) 0 0) k) false
  present_at =
      split (ltb at (length pairs))
      (λ (e : ltb at (length pairs) ≡ true). rw e (sym (present_here (ltb-true at (length pairs) e))))
      (λ (e : ltb at (length pairs) ≡ false). rw e (sym (present_past (ltb-false at (length pairs) e))))

  pub found_within : present k (map row_of pairs) ≡ true → at < length pairs
  found_within h = rw (here, ← length-map pairs row_of) (there k (map row_of pairs) h).within

  pub found_here : present k (map row_of pairs) ≡ true
      → some (get_or (get_or pairs at []) 1 0) ≡ found k (map row_of pairs)
  found_here h = rw ((there k (map row_of pairs) h).finds, row_here)

  pub found_none : present k (map row_of pairs) ≡ false → none ≡ found k (map row_of pairs)
  found_none h = rw (absent k (map row_of pairs) h).finds

-- The last pair's item, if there is one.
abbrev pub last_item : List (List ℕ) → Option ℕ
last_item pairs = cond (ltb 0 (length pairs)) (Some (get_or (get_or pairs (length pairs - 1) []) 0 0)) None

pub top_last : (pairs : List (List ℕ)) → found_of (last_item pairs) ≡ top_item (map row_of pairs)
top_last [] = refl
top_last (p ∷ ps) =
    let e : length (p ∷ ps) - 1 ≡ length ps = omega arith in
    let last : get_or (p ∷ ps) (length (p ∷ ps) - 1) [] ≡ get_or (p ∷ ps) (length ps) p =
    rw e (get_d_default (p ∷ ps) (length ps) [] p (omega arith)) in
    let top : get_or (map row_of (p ∷ ps)) (length (map row_of ps)) (row_of p) ≡ row_of (get_or (p ∷ ps)
    (length ps) p) =
    rw length-map (get_or-map row_of (p ∷ ps) (length ps) p) in
    let filled : ltb 0 (length (p ∷ ps)) ≡ true = lt-ltb _ _ (omega arith) in
    rw filled (ap (λ q. some (get_or q 0 0)) last ∙ ap (λ r. some r.key) (sym top))

-- ---- Storing

held : (copy pairs : List (List ℕ)) (n : ℕ) → take n copy ≡ pairs → length pairs ≡ n → BeginsWith copy
    (map row_of pairs)
held copy pairs n e l = ap (λ m. map row_of (take m copy)) (length-map pairs row_of ∙ l) ∙ ap (map row_of) e

-- A copy that is left as it is, whatever its length.
pub kept : (rows : List (List ℕ)) (count : ℕ) → BeginsWith rows (rows_of rows count)
kept rows count =
    ap (λ m. map row_of (take m rows)) (length-map (take count rows) row_of) ∙ ap (map row_of) (take_taken count rows)

pub popped : (rows : List (List ℕ)) (count : ℕ)
    → BeginsWith rows (take (length (rows_of rows count) - 1) (rows_of rows count))
popped rows count =
    let left : ℕ = length (rows_of rows count) - 1 in
    let fewer : left ≤ count = omega (arith, length-map (take count rows) row_of, length-take count rows) in
    rw (← map_take row_of left (take count rows), take-take left count rows fewer) (kept rows left)

module _ (rows : List (List ℕ)) (count : ℕ) (fits : count ≤ length rows) where
  taken : length (take count rows) ≡ count
  taken = length-take-le count rows fits

  pub count_rows : length (rows_of rows count) ≡ count
  count_rows = length-map (take count rows) row_of ∙ taken

  pub nonempty : (k : ℕ) → present k (rows_of rows count) ≡ true → 1 ≤ count
  nonempty k h = omega (arith, count_rows, (there k (rows_of rows count) h).within)

  put : (copy : List (List ℕ)) (at : ℕ) (pair : List ℕ) → take (count + 1) copy ≡ put_at at pair (take count rows)
      → BeginsWith copy (put_at at (row_of pair) (rows_of rows count))
  put copy at pair e =
      rw (← map_put row_of at pair (take count rows))
      (held copy (put_at at pair (take count rows)) (count + 1) e
      (length_put at pair (take count rows) ∙ ap (λ n. n + 1) taken))

  removed : (copy : List (List ℕ)) (at : ℕ) → at < count → take (count - 1) copy ≡ removed_at at (take count rows)
      → BeginsWith copy (removed_at at (rows_of rows count))
  removed copy at h e =
      rw (← map_removed row_of at (take count rows))
      (held copy (removed_at at (take count rows)) (count - 1) e
      (length_removed at (take count rows) (rw taken h) ∙ ap (λ n. n - 1) taken))

  replaced : (at : ℕ) (pair : List ℕ) → at < count
      → BeginsWith (set rows at pair) (set (rows_of rows count) at (row_of pair))
  replaced at pair h =
      rw (← map_set row_of (take count rows) at pair)
      (held (set rows at pair) (set (take count rows) at pair) count (take-set-lt count rows at pair h)
      (length-set (take count rows) at pair ∙ taken))

  module _ (k at : ℕ) (here : at ≡ position_of k (rows_of rows count)) where
    pub within : present k (rows_of rows count) ≡ true → at < count
    within h = omega (arith, here, count_rows, (there k (rows_of rows count) h).within)

    -- A key that is put in has its place in the copy.
    pub gap : (v : ℕ) → present k (rows_of rows count) ≡ false
        → length (inserted k v (rows_of rows count)) ≤ length rows
        → (count + 1 ≤ length rows) × (at < length (take (count + 1) rows))
    gap v h l =
        let more = inserted_more k (rows_of rows count) v h in
        let room : count + 1 ≤ length rows = omega (arith, count_rows) in (
          room,
          omega (
            arith,
            here,
            count_rows,
            (absent k (rows_of rows count) h).within,
            length-take-le (count + 1) rows room,
          ),
        )

    pub inserted_kept : (v : ℕ) → present k (rows_of rows count) ≡ true
        → BeginsWith rows (inserted k v (rows_of rows count))
    inserted_kept v h = rw ((there k (rows_of rows count) h).inserts v) (kept rows count)

    -- The gap opened in the first count + 1 pairs.
    pub inserted_put : (v : ℕ) (opened : List (List ℕ)) → present k (rows_of rows count) ≡ false
        → length (inserted k v (rows_of rows count)) ≤ length rows
        → opened ≡ put_at at (k ∷ v ∷ []) (take (length (take (count + 1) rows) - 1) (take (count + 1) rows))
        → BeginsWith (opened ++ drop (count + 1) rows) (inserted k v (rows_of rows count))
    inserted_put v opened h l e =
        let more = (gap v h l).0 in
        let all : length (take (count + 1) rows) ≡ count + 1 = length-take-le (count + 1) rows more in
        let first : count + 1 - 1 ≡ count = omega arith in
        let e' : opened ≡ put_at at (k ∷ v ∷ []) (take count rows) =
        rw (all, first, take-take count (count + 1) rows (omega arith)) at e in
        let size : length opened ≡ count + 1 =
        ap length e' ∙ length_put at (k ∷ v ∷ []) (take count rows) ∙ ap (λ n. n + 1) taken in
        rw ((absent k (rows_of rows count) h).inserts v, ← here)
        (put (opened ++ drop (count + 1) rows) at (k ∷ v ∷ [])
        (ap (λ n. take n (opened ++ drop (count + 1) rows)) (sym size) ∙ take-append_seam opened _ ∙ e'))

    -- The gap closed in the first count pairs.
    pub deleted_removed : (closed : List (List ℕ)) → present k (rows_of rows count) ≡ true
        → length closed ≡ length (take count rows)
        → take (length (take count rows) - 1) closed ≡ removed_at at (take count rows)
        → BeginsWith (closed ++ drop count rows) (deleted k (rows_of rows count))
    deleted_removed closed h size e =
        let fewer : count - 1 ≤ length closed = omega (arith, taken) in
        rw ((there k (rows_of rows count) h).deletes, ← here)
        (removed (closed ++ drop count rows) at (within h)
        (take-append-le (count - 1) closed (drop count rows) fewer ∙ (rw taken at e)))

    pub deleted_kept : present k (rows_of rows count) ≡ false → BeginsWith rows (deleted k (rows_of rows count))
    deleted_kept h = rw (absent k (rows_of rows count) h).deletes (kept rows count)

    pub modified_set : (v : ℕ) → present k (rows_of rows count) ≡ true
        → BeginsWith (set rows at (k ∷ v ∷ [])) (modified k v (rows_of rows count))
    modified_set v h = rw ((there k (rows_of rows count) h).modifies v, ← here) (replaced at (k ∷ v ∷ []) (within h))

    pub modified_kept : (v : ℕ) → present k (rows_of rows count) ≡ false
        → BeginsWith rows (modified k v (rows_of rows count))
    modified_kept v h = rw ((absent k (rows_of rows count) h).modifies v) (kept rows count)
