-- For a request: the rows that replay of an object's entries reaches, as far as they matter to it.
use Rattle.std.specs.Prelude.{ℕ, ◌+◌, ◌≤◌, ◌<◌, ◌≡◌, refl, true, List, ◌∷◌, length}
use Rattle.std.proofs.Common.{sym, ap, ap₂, ◌∙◌, arith}
use Rattle.std.proofs.Math.Option.{some}
use Rattle.operations.specs.Operations as model
use Rattle.operations.specs.declared.Operation.{Operation}
use Rattle.operations.specs.Stored.{operation_of}
use Rattle.operations.specs.PairRules.{recoverable}
use Rattle.operations.specs.Log.{after}
use Rattle.operations.proofs.Laws.ObjectTypes.{EntryFits, ObjectType}
use Rattle.operations.proofs.Laws.Numbers.{numbers}
use Rattle.operations.proofs.Laws.Objects.{object, valid_next}
use Rattle.operations.proofs.Laws.Recoverability.{left_out_before}
use Rattle.pairs.specs.Pairs.{OneKind, both, pair_of}
use Rattle.replay.specs.Replay.{rows_of, next_named, answer_named, answer_by}
use Rattle.store.specs.Store.{object_of, on_object}
use Rattle.store.specs.Layout.{word, decode, entry_start, operation_at, entry_at, object_start, rows_at, additions}
use Rattle.store.specs.Layout.{Packed}
use Rattle.store.specs.Layout.{base}
use Rattle.store.proofs.Laws.Entries.{entries_from, entries_own, entries_other, entries_end}
use Rattle.store.specs.Soundness.{Room}
use Rattle.answers.specs.Answers.{Requested}
use Rattle.answers.specs.Laws.Entries.{EntryOperation, named}
use Rattle.answers.specs.Laws.Replay.{next_named_lem, next_grows}
use Rattle.answers.specs.Laws.Counting.{all_rows, counted_here}
use Rattle.answers.specs.Laws.Whole.{rows_read}

-- Replayed up to entry i: after the entries from there on the request gets the answer that it gets after all, and there
-- is room for what they may need.
pub record Replaying (w : List ℕ) (o : ℕ) (requested : model.Operation) (i : ℕ) (rows : List (List ℕ))
    (count : ℕ) : Type 0 where
  pub within : i ≤ word w 0
  pub room : count + additions (entries_from w o i) ≤ 64
  pub formed : model.WellFormed model.reduce_key (model.kind_of requested) (rows_of rows count)
  pub fits : model.All (EntryFits (object model.reduce_key (model.kind_of requested))) (entries_from w o i)
  pub left : model.answer requested (after model.next (entries_from w o i) (rows_of rows count))
      ≡ model.answer requested (after model.next (entries_from w o 0) (rows_at w o))

-- ---- At the first entry

module _ (w : List ℕ) (packed : Packed base w) (o : ℕ) (l : o < 16) (count : ℕ)
    (e : count ≡ word w (object_start o + 1)) where
  pub carry_start : {operation : Operation} (requested : model.Operation) → Requested w o operation requested
      → (rows : List (List ℕ)) → rows_of rows (word w (object_start o + 1)) ≡ rows_at w o → Room base (decode base w)
      → Replaying w o requested 0 rows count
  carry_start requested asked rows holds room =
      let rs : rows_of rows count ≡ rows_at w o = ap (rows_of rows) e ∙ holds in
      record {
        within = omega arith;
        room = omega (arith, all_rows w packed o l count e, room o);
        formed = rw rs asked.rows;
        fits = asked.entries;
        left = ap (λ (r : List model.Row). model.answer requested (after model.next (entries_from w o 0) r)) rs;
      }

-- ---- Past an entry of another object

module _ (w : List ℕ) (o i : ℕ) (l : i < word w 0) (other : word w (entry_start i + 1) ≡ o → ⊥) where
  pub carry_past : (requested : model.Operation) (rows : List (List ℕ)) (count : ℕ)
      → Replaying w o requested i rows count → Replaying w o requested (i + 1) rows count
  carry_past requested rows count s =
      let same = entries_other w i o l other in
      record {
        within = omega arith;
        room = rw (← same) s.room;
        formed = s.formed;
        fits = rw (← same) s.fits;
        left = rw (← same) s.left;
      }

-- ---- At an entry of the object

module _ {w : List ℕ} {i : ℕ} {operation : Operation} (at : EntryOperation w i operation) (o : ℕ)
    (own : word w (entry_start i + 1) ≡ o) where
  here : entries_from w o i ≡ (entry_at w i).entry ∷ entries_from w o (i + 1)
  here = entries_own w i o at.inside own

  module _ (requested : model.Operation) (rows : List (List ℕ)) (count : ℕ)
      (s : Replaying w o requested i rows count) where
    abbrev X : ObjectType
    X = object model.reduce_key (model.kind_of requested)

    fits_here : model.All (EntryFits X) ((entry_at w i).entry ∷ entries_from w o (i + 1))
    fits_here = rw here at s.fits

    next_room : length (next_named operation (rows_of rows count)) + additions (entries_from w o (i + 1)) ≤ 64
    next_room = omega (arith, s.room, counted_here at o own, next_grows at rows count)

    pub next_fits : (count ≤ 64) × (length (next_named operation (rows_of rows count)) ≤ 64)
    next_fits = (omega (arith, s.room), omega (arith, next_room))

    -- The request and the entry are of one kind.
    module _ (asked : Operation) (request : Requested w o asked requested) where
      pub one_kind : OneKind asked operation
      one_kind =
          let a = numbers requested in
          let b = rw fits_here.0.0 at (numbers (operation_at w i)) in
          let n : operation.number ≡ model.number_of (operation_at w i) =
          at.words.0 ∙ sym (at.packed.log.as_stored i at.inside).0 in (
            model.kind_of requested,
            (rw request.number a.0, rw request.number a.1),
            (rw n b.0, rw n b.1),
          )

      -- One that the request is recoverable against is left out.
      pub carry_out : pair_of recoverable asked operation ≡ true → Replaying w o requested (i + 1) rows count
      carry_out recovers =
          let held : recoverable requested (operation_at w i) ≡ true =
          sym (ap₂ (both recoverable) request.named (named at)) ∙ recovers in
          record {
            within = omega (arith, at.inside);
            room = omega (arith, s.room, counted_here at o own);
            formed = s.formed;
            fits = fits_here.1;
            left =
                left_out_before X requested (entry_at w i).entry (entries_from w o (i + 1)) (rows_of rows count)
                (refl, request.key) fits_here s.formed held
                ∙ ap (λ l. model.answer requested (after model.next l (rows_of rows count))) (sym here) ∙ s.left;
          }

    pub carry_own : (copy : List (List ℕ)) (newCount : ℕ)
        → rows_of copy (length (next_named operation (rows_of rows count))) ≡ next_named operation (rows_of rows count)
        → newCount ≡ length (next_named operation (rows_of rows count)) → Replaying w o requested (i + 1) copy newCount
    carry_own copy newCount holds counted =
        let rs : rows_of copy newCount ≡ model.next (operation_at w i) (rows_of rows count) =
        ap (rows_of copy) counted ∙ holds ∙ next_named_lem at (rows_of rows count) in
        record {
          within = omega (arith, at.inside);
          room = omega (arith, counted, next_room);
          formed =
              rw rs (valid_next model.reduce_key (model.kind_of requested) (operation_at w i) (rows_of rows count)
              fits_here.0 s.formed);
          fits = fits_here.1;
          left =
              ap (λ (r : List model.Row). model.answer requested (after model.next (entries_from w o (i + 1)) r)) rs
              ∙ ap (λ l. model.answer requested (after model.next l (rows_of rows count))) (sym here) ∙ s.left;
        }

-- ---- At the end

module _ (w : List ℕ) (o i : ℕ) (l : word w 0 ≤ i) where
  module _ (requested : model.Operation) (rows : List (List ℕ)) (count : ℕ)
      (s : Replaying w o requested i rows count) where
    pub carry_end : (asked : Operation) → operation_of asked ≡ some requested
        → answer_named asked (rows_of rows count) ≡ answer_named asked (after model.next (entries_from w o 0)
        (rows_at w o))
    carry_end asked names =
        ap (λ q. answer_by q (rows_of rows count)) names
        ∙ ap (λ l. model.answer requested (after model.next l (rows_of rows count)))
        (sym (entries_end w i o l)) ∙ s.left
        ∙ ap (λ q. answer_by q (after model.next (entries_from w o 0) (rows_at w o))) (sym names)

-- ---- The answer of the model

-- What replay gives the operation that the words name is what the model answers to it.
pub answer_to_lem : (w : List ℕ) (o : ℕ) → o < 16 → (operation : Operation) (requested : model.Operation)
    → operation_of operation ≡ some requested
    → answer_named operation (after model.next (entries_from w o 0) (rows_at w o))
    ≡ model.answer requested (after model.next (on_object o (decode base w).log)
    (object_of (decode base w) o).rows)
answer_to_lem w o l operation requested e =
    ap (λ q. answer_by q (after model.next (entries_from w o 0) (rows_at w o))) e
    ∙ ap (model.answer requested)
    (ap (after model.next (entries_from w o 0)) (sym (rows_read w o l)))
