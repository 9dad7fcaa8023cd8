-- The log's entries served in order: the rows that replay would hold, and what the code's arrays say of them.
use Rattle.std.specs.Prelude.{ℕ, ◌+◌, ◌-◌, ◌≤◌, ◌<◌, ◌≡◌, ◌↔◌, Bool, true, false, cond, ◌||◌, List, [], ◌∷◌, eqb}
use Rattle.std.specs.Prelude.{Option, None, length, get_or, set, take}
use Rattle.std.proofs.Math.Option.{Option as Maybe, some}
use Rattle.operations.specs.Operations.{Kind, Stack, Set, Table, Row, Answer, answering, valued, push, kind_of}
use Rattle.operations.specs.Operations.{stack_next}
use Rattle.operations.specs.Operations.{next, answer, found, top_item, Ascending}
use Rattle.operations.specs.Stored.{found_of}
use Rattle.operations.specs.Log.{Answered}
use Rattle.store.specs.Store.{object_of}
use Rattle.store.specs.Layout.{word, decode, operation_at, object_start, rows_at, Packed, base}
use Rattle.store.specs.Soundness.{EntriesFit, RowsFormed}
use Rattle.representatives.specs.Representatives.{entry_object, entry_key, First, Representative}
use Rattle.states.specs.declared.State.{State}
use Rattle.store.proofs.Laws.Entries.{entries_from}

-- ---- An operation on a key, by its number

-- What lookup of the key answers after the operation, by what it answers before.
unfoldable pub state_after : ℕ → ℕ → Answer → Answer
state_after number value held =
    cond (eqb number 4 || eqb number 7) (cond (eqb held.code 0) (answering 1 value) held)
    (cond (eqb number 5 || eqb number 8) (answering 0 0)
    (cond (eqb number 11) (cond (eqb held.code 0) held (answering 1 value)) held))

-- How many rows there are after it; the code is 1 where the key was there.
unfoldable pub count_after : ℕ → ℕ → ℕ → ℕ
count_after number code count =
    cond (eqb number 4 || eqb number 7) (count + 1 - code) (cond (eqb number 5 || eqb number 8) (count - code) count)

-- What it answers.
unfoldable pub keyed_answer : ℕ → Answer → ℕ → Answer
keyed_answer number held count =
    cond (eqb number 4) (answering 1 0)
    (cond (eqb number 7) (answering (1 - held.code) 0)
    (cond (eqb number 9) held (cond (eqb number 10) (answering 1 count) (answering held.code 0))))

-- ---- Entries and objects

abbrev pub kind_at : List ℕ → ℕ → Maybe Kind
kind_at w o = (object_of (decode base w) o).kind

-- Entry i is of a set or a table.
abbrev pub Keyed : List ℕ → ℕ → Type 0
Keyed w i = kind_of (operation_at w i) ≡ Stack → ⊥

-- No entry below i has this object and key.
abbrev pub Untouched : List ℕ → ℕ → ℕ → ℕ → Type 0
Untouched w i o k = (j : ℕ) → j < i → entry_object w j ≡ o → entry_key w j ≡ k → ⊥

-- Rows with ascending keys, where the kind has keys.
abbrev pub Ordered : Kind → List Row → Type 0
Ordered Stack rs = Unit {0}
Ordered Set rs = Ascending rs
Ordered Table rs = Ascending rs

-- From place i of the log on, each object's entries get their answers from its rows.
abbrev pub AllAnswered : List ℕ → ℕ → (ℕ → List Row) → Type 0
AllAnswered w i rows = (o : ℕ) → o < 16 → Answered next answer (entries_from w o i) (rows o)

-- ---- Stacks

-- The rows with the items of these entries pushed on, that of the first entry last.
abbrev pub pushed_on : List ℕ → List Row → List ℕ → List Row
pushed_on w rs [] = rs
pushed_on w rs (e ∷ es) = stack_next (push (entry_key w e)) (pushed_on w rs es)

-- These entries, all below i, are linked: the top is the first of them, `below` has the next one at each. An entry is
-- written as its index plus one, and 0 stands for none.
abbrev pub LinkedDown : List ℕ → ℕ → ℕ → List ℕ → Type 0
LinkedDown below i top [] = top ≡ 0
LinkedDown below i top (e ∷ es) = (top ≡ e + 1) × (e < i) × LinkedDown below i (get_or below e 0) es

-- A stack: as many of its first rows as were never popped, and on them the items of linked entries.
pub record Stacked (w : List ℕ) (i : ℕ) (first rows : List Row) (top : ℕ) (below : List ℕ) : Type 0 where
  pub low : ℕ
  pub pushes : List ℕ
  pub within : low ≤ length first
  pub linked : LinkedDown below i top pushes
  pub stacked : rows ≡ pushed_on w (take low first) pushes

-- ---- The state

-- What lookup of the key in cell j answers.
abbrev pub cell_in : List (Option ℕ) → ℕ → Answer
cell_in cells j = valued (found_of (get_or cells j None))

pub record Sized (state : State) : Type 0 where
  pub of_cells : length state.cells ≡ 256
  pub of_counts : length state.counts ≡ 16
  pub of_tops : length state.tops ≡ 16
  pub of_below : length state.below ≡ 256

-- The entries below i are served. The code does not hold `rows`, which is what replay would hold.
pub record Serving (w : List ℕ) (i : ℕ) (state : State) : Type 0 where
  pub sized : Sized state
  pub rows : ℕ → List Row
  pub ordered : (o : ℕ) (kind : Kind) → kind_at w o ≡ some kind → Ordered kind (rows o)
  pub few : (o : ℕ) → o < 16 → length (rows o) ≤ 64 + i
  pub counted : (o : ℕ) → o < 16 → get_or state.counts o 0 ≡ length (rows o)
  -- the cell of an entry that represents others: the value at its key
  pub cell : (j : ℕ) → j < i → First w j → Keyed w j
      → cell_in state.cells j ≡ valued (found (entry_key w j) (rows (entry_object w j)))
  -- a key that no entry has had yet is as in the book
  pub fresh : (o k : ℕ) → Untouched w i o k → (kind_at w o ≡ some Stack → ⊥) → found k (rows o) ≡ found k (rows_at w o)
  pub stack : (o : ℕ) → o < 16 → kind_at w o ≡ some Stack
      → Stacked w i (rows_at w o) (rows o) (get_or state.tops o 0) state.below
  -- what is left to serve, from these rows, is right exactly where the whole is
  pub left : AllAnswered w i rows ↔ AllAnswered w 0 (rows_at w)

-- ---- What the functions ask and say

-- What has been found of the book before its answers are looked at.
pub record Formed (w : List ℕ) : Type 0 where
  pub packed : Packed base w
  pub fits : EntriesFit (decode base w)
  pub rows : RowsFormed base (decode base w)

-- Entry i, of object o.
pub record EntryOn (w : List ℕ) (i o : ℕ) : Type 0 where
  pub formed : Formed w
  pub inside : i < word w 0
  pub on : o ≡ entry_object w i

-- What a yes says; and after a no, not all answers are right.
abbrev pub Judged : List ℕ → Type 0 → Bool → Type 0
Judged w After r = (r ≡ true → After) × (r ≡ false → AllAnswered w 0 (rows_at w) → ⊥)

-- An entry of a set or a table, represented by entry p.
pub record KeyedEntry (w : List ℕ) (i o p : ℕ) (state : State) : Type 0 where
  pub entry : EntryOn w i o
  pub keyed : Keyed w i
  pub represents : Representative w i p
  pub served : Serving w i state

-- An entry of a stack.
pub record StackEntry (w : List ℕ) (i o : ℕ) (state : State) : Type 0 where
  pub entry : EntryOn w i o
  pub of_stack : kind_of (operation_at w i) ≡ Stack
  pub served : Serving w i state

-- Any entry.
pub record ToServe (w : List ℕ) (i o p : ℕ) (state : State) : Type 0 where
  pub entry : EntryOn w i o
  pub represents : Representative w i p
  pub served : Serving w i state

-- What is said of an entry that was served.
abbrev pub AfterEntry : List ℕ → ℕ → State → Bool → Type 0
AfterEntry w i state r = Judged w (Serving w (i + 1) state) r

-- An object whose rows in the book ascend.
pub record Seekable (w : List ℕ) (o : ℕ) : Type 0 where
  pub packed : Packed base w
  pub within : o < 16
  pub ascending : Ascending (rows_at w o)

-- The value at the key of entry i: where no earlier entry has the key the rows decide, else the cell.
abbrev pub HeldBy : List ℕ → ℕ → ℕ → ℕ → ℕ → List (Option ℕ) → Option ℕ → Type 0
HeldBy w i o key p cells r =
    (p ≡ i → valued (found_of r) ≡ valued (found key (rows_at w o)))
    × ((p ≡ i → ⊥) → valued (found_of r) ≡ cell_in cells p)

-- A stack whose count and top can be read and written.
pub record StackAt (o : ℕ) (state : State) : Type 0 where
  pub within : o < 16
  pub sized : Sized state
  pub count : get_or state.counts o 0 ≤ 320
  pub top : get_or state.tops o 0 ≤ 256

-- The item on top of a stack.
abbrev pub TopBy : List ℕ → ℕ → State → Option ℕ → Type 0
TopBy w o state r =
    (i : ℕ) (rows : List Row) → Stacked w i (rows_at w o) rows (get_or state.tops o 0) state.below
    → length rows ≡ get_or state.counts o 0 → valued (found_of r) ≡ valued (top_item rows)

-- Entry i pushes an item.
abbrev pub pushed : State → ℕ → ℕ → State
pushed state i o =
    record {
      cells = state.cells;
      counts = set state.counts o (get_or state.counts o 0 + 1);
      tops = set state.tops o (i + 1);
      below = set state.below i (get_or state.tops o 0);
    }

-- The item on top goes: the top is what it was before that item's push, or a row of the book.
abbrev pub popped : State → ℕ → State
popped state o =
    let top = get_or state.tops o 0 in
    record {
      cells = state.cells;
      counts = set state.counts o (get_or state.counts o 0 - 1);
      tops = cond (eqb top 0) state.tops (set state.tops o (get_or state.below (top - 1) 0));
      below = state.below;
    }

-- The number of rows of each object below n.
pub record RowCounts (w : List ℕ) (n : ℕ) (counts : List ℕ) : Type 0 where
  pub objects : length counts ≡ 16
  pub rows : (o : ℕ) → o < n → get_or counts o 0 ≡ word w (object_start o + 1)
