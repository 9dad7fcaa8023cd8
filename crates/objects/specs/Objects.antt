-- One object: ranges, the form of its rows, and its words.
use Rattle.std.specs.Prelude.{ℕ, ◌+◌, ◌*◌, ◌≤◌, ◌≡◌, List, [], ◌∷◌, ◌++◌, map, length, drop}
use Rattle.std.proofs.Math.Option.{some}
use Rattle.operations.specs.Operations.{Kind, Row, reduce_key, All, KeyReduced, Ascending, WellFormed}
use Rattle.replay.specs.Replay.{row_of}
use Rattle.store.specs.Layout.{word, tabulate, joined, padded, row_words, read_kind, object_start, rows_at}

-- A kind and a number of rows that an object may have.
pub record InRange (k n : ℕ) : Type 0 where
  pub kind : k ≤ 3
  pub rows : n ≤ 64
  pub none : k ≡ 0 → n ≡ 0

-- Keys are reduced and strictly ascend, as in sets and tables.
abbrev pub KeyedRows : List Row → Type 0
KeyedRows rs = All (KeyReduced reduce_key) rs × Ascending rs

-- The rows of an object are of its kind's form.
abbrev pub ObjectFormed : List ℕ → ℕ → Type 0
ObjectFormed w o =
    (kind : Kind) → read_kind (word w (object_start o)) ≡ some kind → WellFormed reduce_key kind (rows_at w o)

-- The words of an object, given its kind's number and its rows.
abbrev pub words_of : ℕ → List Row → List ℕ
words_of kind rows = kind ∷ length rows ∷ padded 128 (joined row_words rows)

-- ---- The object that a part starts with

-- It has at most 64 rows, and their words are there.
abbrev pub RowsWithin : List ℕ → Type 0
RowsWithin w = (130 ≤ length w) × (word w 1 ≤ 64)

-- Its rows, as pairs of words and as rows.
abbrev pub pairs_in : List ℕ → List (List ℕ)
pairs_in w = tabulate (word w 1) (λ i. word w (2 + 2 * i) ∷ word w (2 + 2 * i + 1) ∷ [])

abbrev pub rows_in : List ℕ → List Row
rows_in w = map row_of (pairs_in w)

-- The part with other rows in the object.
abbrev pub with_rows : List ℕ → List Row → List ℕ
with_rows w rows = words_of (word w 0) rows ++ drop 130 w

-- At most 64 rows, and zeros past them.
pub record StartsPacked (w : List ℕ) : Type 0 where
  pub long : 130 ≤ length w
  pub rows : word w 1 ≤ 64
  pub words : w ≡ with_rows w (rows_in w)
