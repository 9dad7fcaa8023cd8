-- Document 01, "Operations and their replies": what each operation does to an object's rows, and what it answers. Rows
-- are of any number ("without limits"). Arguments are as stored: only `stored` reduces a key, by the reduction that it
-- is given.
use Rattle.std.specs.Prelude.{ℕ, ◌-◌, ◌%◌, ◌^◌, ◌≤◌, ◌<◌, ◌≡◌, Bool, true, false, not, cond, List, [], ◌∷◌, ◌++◌, map}
use Rattle.std.specs.Prelude.{ltb, eqb, length, get_or, take}
use Rattle.std.proofs.Math.Option.{Option, none, some}

-- The kinds of object, 1 to 3. Kind 0, none, has no rows and no operations.
pub data Kind : Type 0 where
  Stack Set Table : Kind

abbrev pub kind_number : Kind → ℕ
kind_number Stack = 1
kind_number Set = 2
kind_number Table = 3

-- A row, two words as the book writes it. A stack's: item and 0, bottom first; a set's: key and 0; a table's: key and
-- value.
pub record Row : Type 0 where
  pub key : ℕ
  pub value : ℕ

abbrev pub row : ℕ → ℕ → Row
row k v = record { key = k; value = v }

-- An answer: a code and a value.
pub record Answer : Type 0 where
  pub code : ℕ
  pub value : ℕ

abbrev pub answering : ℕ → ℕ → Answer
answering c v = record { code = c; value = v }

-- `1 0` or `0 0`.
abbrev pub flag : Bool → Answer
flag true = answering 1 0
flag false = answering 0 0

-- `1` and the value, or `0 0`.
abbrev pub valued : Option ℕ → Answer
valued none = answering 0 0
valued (some v) = answering 1 v

pub data StackOperation : Type 0 where
  push : (item : ℕ) → StackOperation
  pop top : StackOperation

pub data SetOperation : Type 0 where
  set_insert set_delete member : (key : ℕ) → SetOperation

pub data TableOperation : Type 0 where
  table_insert : (key value : ℕ) → TableOperation
  table_delete lookup : (key : ℕ) → TableOperation
  size : TableOperation
  modify : (key value : ℕ) → TableOperation

-- An operation with its arguments as stored.
pub data Operation : Type 0 where
  on_stack : StackOperation → Operation
  on_set : SetOperation → Operation
  on_table : TableOperation → Operation

abbrev pub kind_of : Operation → Kind
kind_of (on_stack o) = Stack
kind_of (on_set o) = Set
kind_of (on_table o) = Table

-- ---- Arguments as stored

-- The key reduction: the remainder by 16,777,216, without the maker's mark.
unfoldable pub reduce_key : ℕ → ℕ
reduce_key k = k % 16_777_216

-- Operations 1 to 11 in order, given key or item and value. Keys of sets and tables are reduced, stack items are not.
abbrev pub numbered : (ℕ → ℕ) → ℕ → ℕ → List Operation
numbered reduce k v =
    on_stack (push k) ∷ on_stack pop ∷ on_stack top
    ∷ on_set (set_insert (reduce k)) ∷ on_set (set_delete (reduce k)) ∷ on_set (member (reduce k))
    ∷ on_table (table_insert (reduce k) v) ∷ on_table (table_delete (reduce k)) ∷ on_table (lookup (reduce k))
    ∷ on_table size
    ∷ on_table (modify (reduce k) v)
    ∷ []

-- The operation that a number names, its arguments as stored; none where no operation has that number.
abbrev pub stored : (ℕ → ℕ) → ℕ → ℕ → ℕ → Option Operation
stored reduce number k v = get_or (none ∷ map some (numbered reduce k v)) number none

-- What is stored for an operation: its number, its key or item, and its value, 0 where it does not use one; and whether
-- it may need a row, as a push or an insert does.
pub record Description : Type 0 where
  pub number : ℕ
  pub key : ℕ
  pub value : ℕ
  pub adds : Bool

abbrev described : ℕ → ℕ → ℕ → Bool → Description
described number key value adds = record { number = number; key = key; value = value; adds = adds }

abbrev pub description : Operation → Description
description (on_stack (push x)) = described 1 x 0 true
description (on_stack pop) = described 2 0 0 false
description (on_stack top) = described 3 0 0 false
description (on_set (set_insert k)) = described 4 k 0 true
description (on_set (set_delete k)) = described 5 k 0 false
description (on_set (member k)) = described 6 k 0 false
description (on_table (table_insert k v)) = described 7 k v true
description (on_table (table_delete k)) = described 8 k 0 false
description (on_table (lookup k)) = described 9 k 0 false
description (on_table size) = described 10 0 0 false
description (on_table (modify k v)) = described 11 k v false

abbrev pub number_of : Operation → ℕ
number_of o = (description o).number

abbrev pub key_of : Operation → ℕ
key_of o = (description o).key

abbrev pub value_of : Operation → ℕ
value_of o = (description o).value

abbrev pub adds : Operation → Bool
adds o = (description o).adds

-- ---- Rows of sets and tables, whose keys ascend

-- One of three, as j is less than, equal to or greater than k.
unfoldable pub by_order : {A : Type 0} → ℕ → ℕ → A → A → A → A
by_order j k less equal greater = cond (ltb j k) less (cond (eqb j k) equal greater)

-- The value in the row with key k.
abbrev pub found : ℕ → List Row → Option ℕ
found k [] = none
found k (r ∷ rs) = by_order r.key k (found k rs) (some r.value) none

abbrev pub is_some : Option ℕ → Bool
is_some none = false
is_some (some v) = true

abbrev pub present : ℕ → List Row → Bool
present k rs = is_some (found k rs)

-- The row k v put in its place; no change where the key is there.
abbrev pub inserted : ℕ → ℕ → List Row → List Row
inserted k v [] = row k v ∷ []
inserted k v (r ∷ rs) = by_order r.key k (r ∷ inserted k v rs) (r ∷ rs) (row k v ∷ r ∷ rs)

-- No change where the key is not there.
abbrev pub deleted : ℕ → List Row → List Row
deleted k [] = []
deleted k (r ∷ rs) = by_order r.key k (r ∷ deleted k rs) rs (r ∷ rs)

-- The value replaced; no change where the key is not there.
abbrev pub modified : ℕ → ℕ → List Row → List Row
modified k v [] = []
modified k v (r ∷ rs) = by_order r.key k (r ∷ modified k v rs) (row k v ∷ rs) (r ∷ rs)

-- ---- Next rows and answer

abbrev pub stack_next : StackOperation → List Row → List Row
stack_next (push x) rs = rs ++ (row x 0 ∷ [])
stack_next pop rs = take (length rs - 1) rs
stack_next top rs = rs

abbrev pub set_next : SetOperation → List Row → List Row
set_next (set_insert k) rs = inserted k 0 rs
set_next (set_delete k) rs = deleted k rs
set_next (member k) rs = rs

abbrev pub table_next : TableOperation → List Row → List Row
table_next (table_insert k v) rs = inserted k v rs
table_next (table_delete k) rs = deleted k rs
table_next (lookup k) rs = rs
table_next size rs = rs
table_next (modify k v) rs = modified k v rs

abbrev pub next : Operation → List Row → List Row
next (on_stack o) rs = stack_next o rs
next (on_set o) rs = set_next o rs
next (on_table o) rs = table_next o rs

-- The item on top of a stack.
abbrev pub top_item : List Row → Option ℕ
top_item [] = none
top_item (r ∷ rs) = some (get_or (r ∷ rs) (length rs) r).key

abbrev pub stack_answer : StackOperation → List Row → Answer
stack_answer (push x) rs = answering 1 0
stack_answer pop rs = valued (top_item rs)
stack_answer top rs = valued (top_item rs)

abbrev pub set_answer : SetOperation → List Row → Answer
set_answer (set_insert k) rs = answering 1 0
set_answer (set_delete k) rs = flag (present k rs)
set_answer (member k) rs = flag (present k rs)

abbrev pub table_answer : TableOperation → List Row → Answer
table_answer (table_insert k v) rs = flag (not (present k rs))
table_answer (table_delete k) rs = flag (present k rs)
table_answer (lookup k) rs = valued (found k rs)
table_answer size rs = answering 1 (length rs)
table_answer (modify k v) rs = flag (present k rs)

abbrev pub answer : Operation → List Row → Answer
answer (on_stack o) rs = stack_answer o rs
answer (on_set o) rs = set_answer o rs
answer (on_table o) rs = table_answer o rs

-- ---- Well-formed rows, and operations that fit a kind

abbrev pub All : {A : Type 0} → (A → Type 0) → List A → Type 0
All P [] = Unit {0}
All P (x ∷ xs) = P x × All P xs

-- The second word is 0.
abbrev pub NoValue : Row → Type 0
NoValue r = r.value ≡ 0

-- The reduction leaves the key as it is.
abbrev pub Reduced : (ℕ → ℕ) → ℕ → Type 0
Reduced reduce k = reduce k ≡ k

abbrev pub KeyReduced : (ℕ → ℕ) → Row → Type 0
KeyReduced reduce r = Reduced reduce r.key

-- Keys strictly ascend: each is below every later one.
abbrev pub Ascending : List Row → Type 0
Ascending [] = Unit {0}
Ascending (r ∷ rs) = All (λ (q : Row). r.key < q.key) rs × Ascending rs

-- The form of a kind's rows, whatever their number.
abbrev pub WellFormed : (ℕ → ℕ) → Kind → List Row → Type 0
WellFormed reduce Stack rs = All NoValue rs
WellFormed reduce Set rs = All NoValue rs × All (KeyReduced reduce) rs × Ascending rs
WellFormed reduce Table rs = All (KeyReduced reduce) rs × Ascending rs

-- The rows that an object has room for.
abbrev pub row_limit : ℕ
row_limit = 64

-- Rows that a book can hold, of words of 32 bits.
abbrev pub Holdable : List Row → Type 0
Holdable rs = (length rs ≤ row_limit) × All (λ (r : Row). (r.key < 2 ^ 32) × (r.value < 2 ^ 32)) rs

-- Keys of sets and tables are reduced.
abbrev pub StoredKey : (ℕ → ℕ) → Operation → Type 0
StoredKey reduce (on_stack o) = Unit {0}
StoredKey reduce (on_set o) = Reduced reduce (key_of (on_set o))
StoredKey reduce (on_table o) = Reduced reduce (key_of (on_table o))

-- The operation is one of the kind, and its key is as stored.
abbrev pub Fits : (ℕ → ℕ) → Kind → Operation → Type 0
Fits reduce kind o = (kind_of o ≡ kind) × StoredKey reduce o
