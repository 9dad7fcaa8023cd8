-- What replay says of a copy of 64 pairs, of which the first `count` are rows.
use Rattle.std.specs.Prelude.{ℕ, suc, ◌≤◌, ◌≡◌, List, [], ◌∷◌, ◌++◌, map, length, get_or, take, drop}
use Rattle.std.proofs.Math.Option.{Option, none, some}
use Rattle.operations.specs.Operations as model
use Rattle.operations.specs.declared.Operation.{Operation}
use Rattle.operations.specs.Stored.{operation_of}

abbrev pub row_of : List ℕ → model.Row
row_of pair = model.row (get_or pair 0 0) (get_or pair 1 0)

abbrev pub rows_of : List (List ℕ) → ℕ → List model.Row
rows_of copy count = map row_of (take count copy)

-- The copy begins with the rows.
abbrev pub BeginsWith : List (List ℕ) → List model.Row → Type 0
BeginsWith copy rs = rows_of copy (length rs) ≡ rs

-- Next rows and answer; a number that names no operation changes nothing and has the answer 0 0.
abbrev pub next_by : Option model.Operation → List model.Row → List model.Row
next_by none rs = rs
next_by (some o) rs = model.next o rs

abbrev pub answer_by : Option model.Operation → List model.Row → model.Answer
answer_by none rs = model.answering 0 0
answer_by (some o) rs = model.answer o rs

abbrev pub next_named : Operation → List model.Row → List model.Row
next_named o rs = next_by (operation_of o) rs

abbrev pub answer_named : Operation → List model.Row → model.Answer
answer_named o rs = answer_by (operation_of o) rs

-- The place of the first row whose key is not below k, or the number of rows.
abbrev pub position_of : ℕ → List model.Row → ℕ
position_of k [] = 0
position_of k (r ∷ rs) = model.by_order r.key k (suc (position_of k rs)) 0 0

-- A place as replay is handed it: where the operation may have a key, the key's position. A stack's operations, numbers
-- 1 to 3, have none.
abbrev pub Placed : Operation → List model.Row → ℕ → Type 0
Placed o rs at = 4 ≤ o.number → at ≡ position_of o.key rs

module _ {A : Type 0} where
  -- The list with x at place i, and with what stands at place i left out.
  abbrev pub put_at : ℕ → A → List A → List A
  put_at i x xs = take i xs ++ (x ∷ drop i xs)

  abbrev pub removed_at : ℕ → List A → List A
  removed_at i xs = take i xs ++ drop (suc i) xs
