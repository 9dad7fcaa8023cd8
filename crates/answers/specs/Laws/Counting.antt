-- The rows that an object uses, counted entry by entry.
use Rattle.std.specs.Prelude.{ℕ, zero, suc, Bool, true, false, ◌&&◌, eqb, ◌+◌, ◌≤◌, ◌<◌, ◌≡◌, cond, List, ◌∷◌, length}
use Rattle.std.proofs.Common.{sym, ap, ap₂, ◌∙◌, arith, eq-eqb, ne_eqb}
use Rattle.std.specs.List.{count_by, filter, range_with_len}
use Rattle.std.proofs.lemmas.List.Sums.{length-filter}
use Rattle.operations.proofs.Laws.Cases.{same}
use Rattle.operations.specs.declared.Operation.{Operation}
use Rattle.operations.specs.Operations.{adds}
use Rattle.store.specs.Store.{object_of}
use Rattle.store.specs.Layout.{word, decode, entry_start, operation_at, entry_at, object_start, additions, Packed}
use Rattle.store.specs.Layout.{base}
use Rattle.store.proofs.Laws.Entries.{entries_from, entries_own, entries_other, entries_end}
use Rattle.store.proofs.Laws.Capacity.{additions_first}
use Rattle.answers.specs.Answers.{rows_needed, may_add}
use Rattle.answers.specs.Laws.Entries.{EntryOperation, needed, one_of, needs_rows, needed_few}
use Rattle.answers.specs.Laws.Whole.{row_count, rows_read}

-- Counted up to entry i: with what the entries from there on may need, it is all that the object uses.
pub record Counting (w : List ℕ) (o i used : ℕ) : Type 0 where
  pub within : i ≤ word w 0
  pub bounded : used ≤ 64 + i
  pub left : used + additions (entries_from w o i) ≡ base.used (decode base w) o

module _ (w : List ℕ) (packed : Packed base w) (o : ℕ) (l : o < 16) (count : ℕ)
    (e : count ≡ word w (object_start o + 1)) where
  pub all_rows : count ≡ length (object_of (decode base w) o).rows
  all_rows = e ∙ sym (row_count w o) ∙ ap length (sym (rows_read w o l))

  pub count_start : Counting w o 0 count
  count_start =
      record {
        within = omega arith;
        bounded = omega (arith, (packed.objects o l).rows);
        left = ap (λ (n : ℕ). n + additions (entries_from w o 0)) all_rows;
      }

-- Past an entry of another object.
module _ (w : List ℕ) (o i : ℕ) (l : i < word w 0) (other : word w (entry_start i + 1) ≡ o → ⊥) where
  pub count_past : (used : ℕ) → Counting w o i used → Counting w o (i + 1) used
  count_past used s =
      record {
        within = omega arith;
        bounded = omega (arith, s.bounded);
        left = rw (← entries_other w i o l other) s.left;
      }

-- At an entry of the object.
module _ {w : List ℕ} {i : ℕ} {operation : Operation} (at : EntryOperation w i operation) (o : ℕ)
    (own : word w (entry_start i + 1) ≡ o) where
  pub counted_here : additions (entries_from w o i)
      ≡ cond (adds (operation_at w i)) 1 0 + additions (entries_from w o (i + 1))
  counted_here =
      ap additions (entries_own w i o at.inside own) ∙ additions_first (entry_at w i).entry (entries_from w o (i + 1))

  pub count_own : (used n : ℕ) → Counting w o i used → n ≡ rows_needed operation.number
      → Counting w o (i + 1) (used + n)
  count_own used n s e =
      record {
        within = omega (arith, at.inside);
        bounded = omega (arith, s.bounded, needed_few operation.number);
        left = omega (arith, needs_rows at n e, counted_here, s.left);
      }

pub count_end : (w : List ℕ) (o i : ℕ) → word w 0 ≤ i → (used : ℕ) → Counting w o i used
    → used ≡ base.used (decode base w) o
count_end w o i l used s = omega (arith, ap additions (entries_end w i o l), s.left)

one_more : (b : Bool) (i : ℕ) (l : List ℕ) {n : ℕ} → length l ≡ n → length (cond b (i ∷ l) l) ≡ cond b (suc n) n
one_more true i l e = ap suc e
one_more false i l e = e

-- Those that need a row, counted one by one.
module _ (w : List ℕ) (packed : Packed base w) (o : ℕ) where
  needs_one : (i : ℕ) → i < word w 0
      → eqb (rows_needed (word w (entry_start i + 2))) 1 ≡ adds (operation_at w i)
  needs_one i l =
      ap (λ (n : ℕ). eqb n 1) (ap rows_needed (sym (packed.log.as_stored i l).0) ∙ needed (operation_at w i))
      ∙ one_of (adds (operation_at w i))

  abbrev own : ℕ → Bool
  own i = eqb (word w (entry_start i + 1)) o

  abbrev needs : ℕ → Bool
  needs i = eqb (rows_needed (word w (entry_start i + 2))) 1

  abbrev picked : ℕ → ℕ → List ℕ
  picked i n = filter (λ j. may_add w o j) (range_with_len i n)

  additions_from : (n i : ℕ) → i + n ≡ word w 0 → length (picked i n) ≡ additions (entries_from w o i)
  additions_from zero i e = ap additions (sym (entries_end w i o (omega arith)))
  additions_from (suc n) i e =
      let l : i < word w 0 = omega arith in
      let rest = additions_from n (i + 1) (omega arith) in
      same (word w (entry_start i + 1)) o
      (λ (h : word w (entry_start i + 1) ≡ o).
      ap₂ (λ (a b : Bool). length (cond (a && b) (i ∷ picked (i + 1) n) (picked (i + 1) n))) (eq-eqb _ _ h)
      (needs_one i l)
      ∙ one_more (adds (operation_at w i)) i (picked (i + 1) n) rest ∙ sym (ap additions (entries_own w i o l h)))
      (λ (h : word w (entry_start i + 1) ≡ o → ⊥).
      ap (λ (a : Bool). length (cond (a && needs i) (i ∷ picked (i + 1) n) (picked (i + 1) n))) (ne_eqb _ _ h)
      ∙ rest ∙ sym (ap additions (entries_other w i o l h)))

  pub additions_counted : (n : ℕ) → n ≡ word w 0
      → count_by (λ j. may_add w o j) (range_with_len 0 n) ≡ additions (entries_from w o 0)
  additions_counted n e =
      sym (length-filter (λ j. may_add w o j) (range_with_len 0 n)) ∙ additions_from n 0 (omega arith)
