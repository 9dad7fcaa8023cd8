-- Entries carried into a book's rows, one after the other.
use Rattle.std.specs.Prelude.{ℕ, ◌+◌, ◌<◌, ◌≤◌, ◌≡◌, refl, Bool, true, false, cond, List, ◌∷◌, eqb, length, drop}
use Rattle.std.proofs.Common.{sym, ap, ◌∙◌, subst, arith, eq-eqb, ne_eqb}
use Rattle.std.proofs.Math.Option.{some}
use Rattle.operations.specs.Operations as model
use Rattle.operations.specs.Stored.{operation_of}
use Rattle.operations.specs.declared.Operation.{Operation}
use Rattle.replay.specs.Replay.{next_named}
use Rattle.store.specs.Store.{Object, Logged, Store}
use Rattle.store.specs.Layout.{Packed, base, decode, encode, word, entry_start, operation_at, entry_at, rows_at}
use Rattle.store.specs.Soundness.{EntriesFit, Room}
use Rattle.store.specs.Steps.{folded}
use Rattle.store.proofs.Theorems.{representable}
use Rattle.store.proofs.Laws.Lists.{length_tabulate}
use Rattle.store.proofs.Laws.Entries.{log_from, log_here, log_end}
use Rattle.store.proofs.Laws.Reading.{object_read, kind_below, entry_named}
use Rattle.protocol.specs.Ending.{carried_out, ended, commit}
use Rattle.protocol.proofs.Laws.Carrying.{Carriable, carriable, next_fits, passed, taken, carried_representable}
use Rattle.ending.specs.Laws.Books.{Encodes, held, is_packed, is_decoded, changed}

-- The book once the transaction's entries before i are carried into its rows: what is left to carry leads to what all
-- of them do.
pub record Carrying (start : List ℕ) (t i : ℕ) (w : List ℕ) : Type 0 where
  pub packed : Packed base w
  pub count : word w 0 ≡ word start 0
  pub carriable : Carriable (log_from w i) (decode base w)
  pub leads : carried_out t (log_from w i) (decode base w) ≡ carried_out t (decode base start).log (decode base start)

pub carrying_begun : (w : List ℕ) (t : ℕ) → Packed base w → EntriesFit (decode base w) → Room base (decode base w)
    → Carrying w t 0 w
carrying_begun w t p fits room =
    record {
      packed = p;
      count = refl;
      carriable = carriable (decode base w) (representable w p) fits room;
      leads = refl;
    }

pub carrying_ended : (start : List ℕ) (t i : ℕ) (w : List ℕ) → Carrying start t i w → word start 0 ≤ i
    → w ≡ encode base (carried_out t (decode base start).log (decode base start))
carrying_ended start t i w c l =
    let nothing_left = log_end w i (omega (arith, c.count, l)) in
    (held w c.packed).words
    ∙ ap (encode base) (ap (λ (log : List Logged). carried_out t log (decode base w)) (sym nothing_left) ∙ c.leads)

module _ (start : List ℕ) (t i : ℕ) (w : List ℕ) (c : Carrying start t i w) (l : i < word start 0) where
  below : i < word w 0
  below = omega (arith, c.count, l)

  next_entry : log_from w i ≡ entry_at w i ∷ log_from w (i + 1)
  next_entry = log_here w i below

  left : Carriable (entry_at w i ∷ log_from w (i + 1)) (decode base w)
  left = subst (λ (log : List Logged). Carriable log (decode base w)) next_entry c.carriable

  abbrev number : ℕ
  number = word w (entry_start i)

  -- The store with the entry folded into its object's rows.
  abbrev with_entry : Store
  with_entry = folded (entry_at w i).object (operation_at w i) (decode base w)

  after_entry : (own : Bool) → eqb number t ≡ own
      → carried_out t (log_from w (i + 1)) (cond own with_entry (decode base w))
      ≡ carried_out t (decode base start).log (decode base start)
  after_entry own e =
      ap (λ (b : Bool). carried_out t (log_from w (i + 1)) (cond b with_entry (decode base w))) (sym e)
      ∙ ap (λ (log : List Logged). carried_out t log (decode base w)) (sym next_entry)
      ∙ c.leads

  -- Another's entry stays out,
  pub carrying_other : (number ≡ t → ⊥) → Carrying start t (i + 1) w
  carrying_other other =
      record {
        packed = c.packed;
        count = c.count;
        carriable = passed (entry_at w i) (log_from w (i + 1)) (decode base w) left;
        leads = after_entry false (ne_eqb number t other);
      }

  module _ (object : ℕ) (operation : Operation) (e : object ≡ word w (entry_start i + 1))
      (read : (operation.number ≡ word w (entry_start i + 2)) × (operation.key ≡ word w (entry_start i + 3))
      × (operation.value ≡ word w (entry_start i + 4))) where
    -- The words name the entry's operation, which may be folded into its object.
    pub named : operation_of operation ≡ some (operation_at w i)
    named = entry_named base w i operation c.packed below read

    pub foldable : (object < 16) × (length (next_named operation (rows_at w object)) ≤ 64)
    foldable = (within, room)
      where
        within : object < 16
        within =
            subst (λ (o : ℕ). o < 16) (sym e)
            (kind_below base w (entry_at w i).object (model.kind_of (operation_at w i)) left.fits.0)

        room : length (next_named operation (rows_at w object)) ≤ 64
        room =
            let fits = next_fits (entry_at w i) (log_from w (i + 1)) (decode base w) left in
            rw (named, sym (ap (λ (x : Object). x.rows) (object_read base w object within)), e) fits

    -- and its own is folded into its object's rows.
    pub carrying_own : number ≡ t → (after : List ℕ)
        → ((o : model.Operation) → operation_of operation ≡ some o
        → after ≡ encode base (folded object o (decode base w)))
        → Carrying start t (i + 1) after
    carrying_own own after folds =
        let rest = log_from w (i + 1) in
        let s = with_entry in
        let written : after ≡ encode base s =
        folds (operation_at w i) named ∙ ap (λ (o : ℕ). encode base (folded o (operation_at w i) (decode base w))) e in
        let next = taken (entry_at w i) rest (decode base w) left in
        let fold = folded (entry_at w i).object (operation_at w i) in
        let h = changed w (decode base w) (held w c.packed) fold after written next.representable in
        let d = is_decoded after s h in
        record {
          packed = is_packed after s h;
          count =
              sym (length_tabulate (word after 0) (entry_at after)) ∙ ap (λ (x : Store). length x.log) d
              ∙ length_tabulate (word w 0) (entry_at w) ∙ c.count;
          carriable = subst (λ (x : Store). Carriable (drop (i + 1) x.log) x) (sym d) next;
          leads =
              ap (λ (x : Store). carried_out t (drop (i + 1) x.log) x) d ∙ after_entry true (eq-eqb number t own);
        }

-- Its entries carried, it ends.
module _ (w : List ℕ) (p : Packed base w) (t : ℕ) where
  abbrev all : Store
  all = carried_out t (decode base w).log (decode base w)

  pub carried_held : EntriesFit (decode base w) → Room base (decode base w) → (after : List ℕ) → after ≡ encode base all
      → Encodes after all
  carried_held fits room after e =
      record { words = e; fits = carried_representable (decode base w) t (representable w p) fits room }

  pub then_ended : (before after : List ℕ) → Encodes before all → after ≡ encode base (ended t (decode base before))
      → after ≡ encode base (commit t (decode base w))
  then_ended before after h e = e ∙ ap (λ (s : Store). encode base (ended t s)) (is_decoded before all h)
