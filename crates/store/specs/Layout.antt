-- Document 01, "The book": a store as words and words as a store.
use Rattle.std.specs.Prelude.{ℕ, suc, zero, ◌+◌, ◌-◌, ◌*◌, ◌≤◌, ◌<◌, ◌≡◌, cond, List, [], ◌∷◌, ◌++◌, map, length}
use Rattle.std.specs.Prelude.{get_or, replicate}
use Rattle.std.proofs.Math.Option.{Option, none, some}
use Rattle.operations.specs.Operations.{kind_number, adds, row_limit}
use Rattle.operations.specs.Operations.{Kind, Stack, Set, Table, Row, row, pop, Operation, on_stack, Answer, answering}
use Rattle.operations.specs.Operations.{All, stored, number_of, key_of, value_of, reduce_key}
use Rattle.operations.specs.Log.{Entry}
use Rattle.store.specs.Store.{transaction_count, object_count, entry_limit}
use Rattle.store.specs.Store.{Status, absent, active, pseudo_committed, Object, Logged, Store, object_of, on_object}

-- Word i; 0 past the end.
abbrev pub word : List ℕ → ℕ → ℕ
word w i = get_or w i 0

-- How many words a book has; where the objects and the log start; and the words of an object and of an entry.
abbrev pub book_words : ℕ
book_words = 3_937

abbrev pub objects_start : ℕ
objects_start = 65

abbrev pub object_width : ℕ
object_width = 130

abbrev pub log_start : ℕ
log_start = 2_145

abbrev pub entry_width : ℕ
entry_width = 7

-- As many words as a book has.
abbrev pub BookLong : List ℕ → Type 0
BookLong w = length w ≡ book_words

module _ {A : Type 0} where
  -- The first n values of a function.
  unfoldable pub tabulate : ℕ → (ℕ → A) → List A
  tabulate zero f = []
  tabulate (suc n) f = f 0 ∷ tabulate n (λ i. f (suc i))

  -- The words of each element in turn.
  abbrev pub joined : (A → List ℕ) → List A → List ℕ
  joined f [] = []
  joined f (x ∷ l) = f x ++ joined f l

-- Filled up with zeros to n words.
abbrev pub padded : ℕ → List ℕ → List ℕ
padded n ws = ws ++ replicate (n - length ws) 0

-- ---- What later requests change: how objects stand in the book, how many rows there is room for, and how keys are
-- reduced

pub record Format : Type 1 where
  -- the objects, as words 65 to 2,144
  pub object_words : List Object → List ℕ
  -- an object, read from the book's words
  pub object_at : List ℕ → ℕ → Object
  -- ranges and zeros of the objects' words
  pub ObjectsPacked : List ℕ → Type 0
  -- objects that these words can hold
  pub ObjectsFit : List Object → Type 0
  -- the capacity rule: what counts towards the limit for an object, and the limit
  pub used : Store → ℕ → ℕ
  pub limit : ℕ
  -- the key reduction
  pub reduce : ℕ → ℕ

-- ---- Encoding

abbrev pub status_word : Status → ℕ
status_word absent = 0
status_word active = 1
status_word (pseudo_committed rank) = 2 + rank

abbrev pub kind_word : Option Kind → ℕ
kind_word none = 0
kind_word (some kind) = kind_number kind

abbrev pub row_words : Row → List ℕ
row_words r = r.key ∷ r.value ∷ []

-- handout, object, operation, key or item, value, answer code, answer value
abbrev pub entry_words : Logged → List ℕ
entry_words l =
    let e = l.entry in
    let o = e.operation in
    e.transaction ∷ l.object ∷ number_of o ∷ key_of o ∷ value_of o ∷ e.answer.code ∷ e.answer.value ∷ []

module _ (format : Format) where
  unfoldable pub encode : Store → List ℕ
  encode s =
      length s.log ∷ (map status_word s.statuses
      ++ (format.object_words s.objects ++ padded (entry_width * entry_limit) (joined entry_words s.log)))

-- ---- Decoding

abbrev pub read_status : ℕ → Status
read_status zero = absent
read_status (suc zero) = active
read_status (suc (suc rank)) = pseudo_committed rank

-- A kind above 3 is out of range, and read as none.
abbrev pub read_kind : ℕ → Option Kind
read_kind n = get_or (none ∷ some Stack ∷ some Set ∷ some Table ∷ []) n none

-- A number that names no operation is out of range, and read as pop.
abbrev pub or_pop : Option Operation → Operation
or_pop none = on_stack pop
or_pop (some o) = o

abbrev pub entry_start : ℕ → ℕ
entry_start i = log_start + entry_width * i

abbrev pub operation_at : List ℕ → ℕ → Operation
operation_at w i =
    let start = entry_start i in
    or_pop (stored (λ k. k) (word w (start + 2)) (word w (start + 3)) (word w (start + 4)))

abbrev pub entry_at : List ℕ → ℕ → Logged
entry_at w i =
    let start = entry_start i in
    record {
      object = word w (start + 1);
      entry = record {
        transaction = word w start;
        operation = operation_at w i;
        answer = answering (word w (start + 5)) (word w (start + 6));
      };
    }

abbrev pub status_at : List ℕ → ℕ → Status
status_at w t = read_status (word w (1 + t))

module _ (format : Format) where
  abbrev pub decode : List ℕ → Store
  decode w =
      record {
        statuses = tabulate transaction_count (status_at w);
        objects = tabulate object_count (format.object_at w);
        log = tabulate (word w 0) (entry_at w);
      }

-- ---- Ranges and zeros

-- The operation's words are those that are stored for it: its number is in range, and an argument that it does not use
-- is 0.
abbrev pub AsStored : List ℕ → ℕ → Type 0
AsStored w i =
    let start = entry_start i in
    let o = operation_at w i in
    (number_of o ≡ word w (start + 2)) × (key_of o ≡ word w (start + 3)) × (value_of o ≡ word w (start + 4))

pub record LogPacked (w : List ℕ) : Type 0 where
  pub entries : word w 0 ≤ entry_limit
  pub as_stored : (i : ℕ) → i < word w 0 → AsStored w i
  pub unused : (i : ℕ) → entry_start (word w 0) ≤ i → word w i ≡ 0

pub record Packed (format : Format) (w : List ℕ) : Type 0 where
  pub words : BookLong w
  pub objects : format.ObjectsPacked w
  pub log : LogPacked w

-- A store that fits into a book, the size of its numbers apart.
pub record Representable (format : Format) (s : Store) : Type 0 where
  pub statuses : length s.statuses ≡ transaction_count
  pub objects : length s.objects ≡ object_count
  pub fit : format.ObjectsFit s.objects
  pub entries : length s.log ≤ entry_limit

-- ---- The base: 130 words for each object, 64 rows each, keys without the maker's mark

abbrev pub object_start : ℕ → ℕ
object_start o = objects_start + object_width * o

-- Its rows stand behind its kind and their number.
abbrev pub rows_start : ℕ → ℕ
rows_start o = object_start o + 2

abbrev pub row_at : List ℕ → ℕ → ℕ → Row
row_at w o i = let start = rows_start o + 2 * i in row (word w start) (word w (start + 1))

abbrev pub rows_at : List ℕ → ℕ → List Row
rows_at w o = tabulate (word w (object_start o + 1)) (row_at w o)

abbrev pub read_object : List ℕ → ℕ → Object
read_object w o = record { kind = read_kind (word w (object_start o)); rows = rows_at w o }

abbrev pub object_words : Object → List ℕ
object_words x = kind_word x.kind ∷ length x.rows ∷ padded (2 * row_limit) (joined row_words x.rows)

pub record ObjectPacked (w : List ℕ) (o : ℕ) : Type 0 where
  pub kind : word w (object_start o) ≤ 3
  pub rows : word w (object_start o + 1) ≤ row_limit
  -- kind 0 has no rows
  pub none : word w (object_start o) ≡ 0 → word w (object_start o + 1) ≡ 0
  pub unused : (i : ℕ) → 2 * word w (object_start o + 1) ≤ i → i < 2 * row_limit → word w (rows_start o + i) ≡ 0

pub record ObjectFits (x : Object) : Type 0 where
  pub rows : length x.rows ≤ row_limit
  pub none : x.kind ≡ none → x.rows ≡ []

-- How many entries are pushes and inserts.
abbrev pub additions : List (Entry Operation Answer) → ℕ
additions [] = 0
additions (e ∷ l) = cond (adds e.operation) (suc (additions l)) (additions l)

abbrev pub base : Format
base =
    record {
      object_words = joined object_words;
      object_at = read_object;
      ObjectsPacked = λ w. (o : ℕ) → o < object_count → ObjectPacked w o;
      ObjectsFit = All ObjectFits;
      used = λ s o. length (object_of s o).rows + additions (on_object o s.log);
      limit = row_limit;
      reduce = reduce_key;
    }
