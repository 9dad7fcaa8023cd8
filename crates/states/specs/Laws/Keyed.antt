-- An entry of a set or a table: what its cell holds before it, and the state after it.
use Rattle.std.specs.Prelude.{ℕ, ◌+◌, ◌≤◌, ◌<◌, ◌≡◌, refl, true, false, List, Option, None, length, get_or, set}
use Rattle.std.proofs.Common.{sym, ap, ap₂, ◌∙◌, subst, true≢false, arith, length-set, get_or-set_same}
use Rattle.std.proofs.Common.{get_or-set_other}
use Rattle.std.proofs.Math.Option.{some}
use Rattle.operations.specs.Operations.{Kind, Stack, Set, Table, Row, Answer, valued, found, next, answer}
use Rattle.operations.specs.Operations.{kind_of, number_of, key_of, value_of, Ascending}
use Rattle.operations.specs.declared.Operation as code
use Rattle.operations.specs.Stored.{found_of}
use Rattle.operations.proofs.Laws.Cases.{same}
use Rattle.store.specs.Layout.{operation_at, entry_at, rows_at}
use Rattle.representatives.specs.Representatives.{entry_object, entry_key, First}
use Rattle.representatives.specs.Laws.Firsts.{firsts_apart}
use Rattle.representatives.specs.Laws.Reading.{of_kind_lem}
use Rattle.answers.specs.Laws.Entries.{OperationRead}
use Rattle.states.specs.declared.State.{State}
use Rattle.states.specs.States.{state_after, count_after, keyed_answer, kind_at, Keyed, Untouched, Ordered}
use Rattle.states.specs.States.{cell_in}
use Rattle.states.specs.States.{Serving, KeyedEntry, AfterEntry, HeldBy}
use Rattle.states.specs.Laws.Cells.{code_rows, count_right, answer_right, changed_right, found_other}
use Rattle.states.specs.Laws.Stacks.{stacked_past}
use Rattle.states.specs.Laws.Serving as serving

ascending_of : (kind : Kind) (rs : List Row) → (kind ≡ Stack → ⊥) → Ordered kind rs → Ascending rs
ascending_of Stack rs n a = absurd (n refl)
ascending_of Set rs n a = a
ascending_of Table rs n a = a

module _ {w : List ℕ} {i o p : ℕ} {state : State} (k : KeyedEntry w i o p state) where
  pub placed : (o < 16) × (p < 256)
  placed = (
    serving.placed k.entry,
    omega (arith, k.represents.within, k.entry.inside, k.entry.formed.packed.log.entries),
  )

  pub ascending : Ascending (rows_at w o)
  ascending =
      ascending_of (kind_of (operation_at w i)) (rows_at w o) k.keyed
      (serving.ordered_first k.entry.formed o (kind_of (operation_at w i)) (serving.kind_here k.entry))

  not_stack : kind_at w o ≡ some Stack → ⊥
  not_stack e = k.keyed (serving.kind_of_lem k.entry Stack e)

  on : entry_object w p ≡ o
  on = k.represents.alike.0 ∙ sym k.entry.on

  -- ---- The state after it

  abbrev s : Serving w i state
  s = k.served

  module _ (right : serving.Right k.entry s) (n : ℕ) (counted : n ≡ length (next (operation_at w i) (s.rows o)))
      (v : Option ℕ)
      (changes : valued (found_of v) ≡ valued (found (entry_key w i) (next (operation_at w i) (s.rows o)))) where
    abbrev cells_after : List (Option ℕ)
    cells_after = set state.cells p v

    cell_own : cell_in cells_after p ≡ valued (found_of v)
    cell_own =
        ap (λ (x : Option ℕ). valued (found_of x))
        (get_or-set_same state.cells p v None (omega (arith, placed, s.sized.of_cells)))

    cell_other : (j : ℕ) → (j ≡ p → ⊥) → cell_in cells_after j ≡ cell_in state.cells j
    cell_other j d = ap (λ (x : Option ℕ). valued (found_of x)) (get_or-set_other state.cells p j v None d)

    abbrev rows_after : ℕ → List Row
    rows_after = serving.rows_after k.entry s

    -- a key that is not the entry's
    found_kept : (q x : ℕ) → (q ≡ o → x ≡ entry_key w i → ⊥) → found x (rows_after q) ≡ found x (s.rows q)
    found_kept q x apart =
        same q o
        (λ (d : q ≡ o).
        rw (d, serving.rows_own k.entry s)
        (found_other (s.rows o) (operation_at w i) k.keyed (serving.ordered_here k.entry s) x
        (λ y. apart d (y ∙ serving.key_stored k.entry))))
        (λ (d : q ≡ o → ⊥). ap (found x) (serving.rows_other k.entry s q d))

    abbrev CellRight : ℕ → Type 0
    CellRight j = cell_in cells_after j ≡ valued (found (entry_key w j) (rows_after (entry_object w j)))

    own_right : CellRight p
    own_right =
        cell_own ∙ changes
        ∙ ap valued
        (sym
        (ap₂ (λ (x q : ℕ). found x (rows_after q)) k.represents.alike.1 on
        ∙ ap (found (entry_key w i)) (serving.rows_own k.entry s)))

    cells_right : (j : ℕ) → j < i + 1 → First w j → Keyed w j → CellRight j
    cells_right j m f kj = same j p (λ (d : j ≡ p). rw d own_right) other_right
      where
        earlier : (j ≡ p → ⊥) → j < i
        earlier d =
            same j i
            (λ (e : j ≡ i).
            absurd (subst (First w) e f p (omega (arith, k.represents.within)) k.represents.alike))
            (λ (e : j ≡ i → ⊥). omega arith)

        other_right : (j ≡ p → ⊥) → CellRight j
        other_right d =
            cell_other j d ∙ s.cell j (earlier d) f kj
            ∙ ap valued
            (sym
            (found_kept (entry_object w j) (entry_key w j)
            (λ a b.
            firsts_apart false w j p f k.represents.first d (on ∙ sym a, k.represents.alike.1 ∙ sym b))))

    fresh_after : (q x : ℕ) → Untouched w (i + 1) q x → (kind_at w q ≡ some Stack → ⊥)
        → found x (rows_after q) ≡ found x (rows_at w q)
    fresh_after q x u z =
        found_kept q x (λ d y. u i (omega arith) (sym k.entry.on ∙ sym d) (sym y))
        ∙ s.fresh q x (λ j m. u j (omega arith)) z

    turn : Serving w (i + 1) (record {
      cells = cells_after;
      counts = set state.counts o n;
      tops = state.tops;
      below = state.below;
    })
    turn =
        record {
          sized = record {
            of_cells = length-set state.cells p v ∙ s.sized.of_cells;
            of_counts = length-set state.counts o n ∙ s.sized.of_counts;
            of_tops = s.sized.of_tops;
            of_below = s.sized.of_below;
          };
          rows = rows_after;
          ordered = serving.ordered_after k.entry s;
          few = serving.few_after k.entry s;
          counted = serving.counted_after k.entry s n counted;
          cell = cells_right;
          fresh = fresh_after;
          stack = λ q m z.
              rw (serving.rows_other k.entry s q (λ d. not_stack (ap (kind_at w) (sym d) ∙ z)))
              (stacked_past (s.stack q m z));
          left = serving.left_after k.entry s right;
        }

  -- ---- What lookup of its key would answer, and what the code makes of that

  module _ (operation : code.Operation) (read : OperationRead w i operation) (held : Option ℕ)
      (h : HeldBy w i o operation.key p state.cells held) where
    held_right : valued (found_of held) ≡ valued (found (entry_key w i) (s.rows o))
    held_right =
        same p i
        (λ (e : p ≡ i).
        let first : First w i = subst (First w) e k.represents.first in
        h.0 e ∙ ap (λ (x : ℕ). valued (found x (rows_at w o))) read.1
        ∙ ap valued (sym (s.fresh o (entry_key w i) (λ j m a b. first j m (a ∙ k.entry.on, b)) not_stack)))
        (λ (e : p ≡ i → ⊥).
        let m : p < i = omega (arith, e, k.represents.within) in
        let kind = of_kind_lem w k.entry.formed.fits p (omega (arith, m, k.entry.inside)) in
        h.1 e
        ∙ s.cell p m k.represents.first (λ x. not_stack (ap (kind_at w) (sym on) ∙ kind ∙ ap some x))
        ∙ ap₂ (λ (x q : ℕ). valued (found x (s.rows q))) k.represents.alike.1 on)

    pub bounds : (get_or state.counts o 0 ≤ 320) × ((valued (found_of held)).code ≤ get_or state.counts o 0)
    bounds =
        let l : o < 16 = placed.0 in
        let e : (valued (found_of held)).code ≡ (valued (found (entry_key w i) (s.rows o))).code =
        ap (λ (r : Answer). r.code) held_right in (
          omega (arith, s.counted o l, s.few o l, k.entry.inside, k.entry.formed.packed.log.entries),
          omega (arith, e, s.counted o l, code_rows (entry_key w i) (s.rows o)),
        )

    number_stored : operation.number ≡ number_of (operation_at w i)
    number_stored = read.0 ∙ sym (k.entry.formed.packed.log.as_stored i k.entry.inside).0

    value_stored : operation.value ≡ value_of (operation_at w i)
    value_stored = read.2 ∙ sym (k.entry.formed.packed.log.as_stored i k.entry.inside).2

    held_stored : valued (found_of held) ≡ valued (found (key_of (operation_at w i)) (s.rows o))
    held_stored =
        held_right ∙ ap (λ (x : ℕ). valued (found x (s.rows o))) (sym (serving.key_stored k.entry))

    given_right_lem : keyed_answer operation.number (valued (found_of held)) (get_or state.counts o 0)
        ≡ answer (operation_at w i) (s.rows o)
    given_right_lem =
        ap (λ (n : ℕ). keyed_answer n (valued (found_of held)) (get_or state.counts o 0)) number_stored
        ∙ ap₂ (keyed_answer (number_of (operation_at w i))) held_stored (s.counted o placed.0)
        ∙ answer_right (s.rows o) (operation_at w i) k.keyed

    after_right : count_after operation.number (valued (found_of held)).code (get_or state.counts o 0)
        ≡ length (next (operation_at w i) (s.rows o))
    after_right =
        ap (λ (n : ℕ). count_after n (valued (found_of held)).code (get_or state.counts o 0)) number_stored
        ∙ ap₂ (count_after (number_of (operation_at w i))) (ap (λ (r : Answer). r.code) held_stored)
        (s.counted o placed.0)
        ∙ count_right (s.rows o) (operation_at w i) k.keyed

    cell_right : state_after operation.number operation.value (valued (found_of held))
        ≡ valued (found (entry_key w i) (next (operation_at w i) (s.rows o)))
    cell_right =
        ap₂ (λ (n v : ℕ). state_after n v (valued (found_of held))) number_stored value_stored
        ∙ ap (state_after (number_of (operation_at w i)) (value_of (operation_at w i))) held_stored
        ∙ changed_right (s.rows o) (operation_at w i) k.keyed (serving.ordered_here k.entry s)
        ∙ ap (λ (x : ℕ). valued (found x (next (operation_at w i) (s.rows o)))) (serving.key_stored k.entry)

    -- ---- What the code leaves

    module _ (given : Answer)
        (gives : given ≡ keyed_answer operation.number (valued (found_of held)) (get_or state.counts o 0)) where
      pub refused : (given ≡ (entry_at w i).entry.answer → ⊥) → AfterEntry w i state false
      refused other = (
        λ e. absurd (true≢false (sym e)),
        λ e. serving.wrong k.entry s (λ right. other (gives ∙ given_right_lem ∙ right)),
      )

      pub served : given ≡ (entry_at w i).entry.answer → (changes : Option ℕ)
          → valued (found_of changes) ≡ state_after operation.number operation.value (valued (found_of held))
          → (after : ℕ) → after ≡ count_after operation.number (valued (found_of held)).code (get_or state.counts o 0)
          → AfterEntry w i (record {
            cells = set state.cells p changes;
            counts = set state.counts o after;
            tops = state.tops;
            below = state.below;
          }) true
      served right changes c after a = (
        λ e. turn (sym (gives ∙ given_right_lem) ∙ right) after (a ∙ after_right) changes (c ∙ cell_right),
        λ e. absurd (true≢false e),
      )
