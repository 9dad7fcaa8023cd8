-- What the functions of the log say of the book's words.
use Rattle.std.specs.Prelude.{ℕ, ◌+◌, ◌≤◌, ◌<◌, ◌≡◌, List, [], ◌∷◌, length}
use Rattle.std.proofs.Math.Option.{some}
use Rattle.std.proofs.lemmas.List.Edits.{sets}
use Rattle.operations.specs.Operations as model
use Rattle.operations.specs.declared.Operation.{Operation}
use Rattle.operations.specs.declared.Answer.{Answer}
use Rattle.store.specs.Store.{Logged, Live, object_of}
use Rattle.store.specs.Layout.{base, decode, joined, tabulate, word, or_pop, entry_start, entry_words, entry_at}
use Rattle.store.specs.Layout.{operation_at, AsStored}
use Rattle.store.specs.Soundness.{EntriesLive, EntriesFit, KeysReduced}
use Rattle.store.specs.Steps.{without}

-- Number, key and value are what is stored for the operation that they are read as.
abbrev pub StoredWords : ℕ → ℕ → ℕ → Type 0
StoredWords number key value =
    let o = or_pop (model.stored (λ k. k) number key value) in
    (model.number_of o ≡ number) × (model.key_of o ≡ key) × (model.value_of o ≡ value)

-- The number of entries is in range, and the words past them are 0: of `LogPacked`, all that is not asked of an entry.
pub record LogBounded (w : List ℕ) : Type 0 where
  pub entries : word w 0 ≤ 256
  pub unused : (i : ℕ) → entry_start (word w 0) ≤ i → word w i ≡ 0

-- Entry i belongs to a live transaction,
abbrev pub EntryLive : List ℕ → ℕ → Type 0
EntryLive w i = Live (decode base w) (word w (entry_start i))

-- fits its object's kind,
abbrev pub EntryOfKind : List ℕ → ℕ → Type 0
EntryOfKind w i = (object_of (decode base w) (word w (entry_start i + 1))).kind ≡ some (model.kind_of
    (operation_at w i))

-- and its key is reduced.
abbrev pub EntryKeyReduced : List ℕ → ℕ → Type 0
EntryKeyReduced w i = model.StoredKey model.reduce_key (operation_at w i)

-- All that soundness asks of entry i alone.
abbrev pub EntryAdmitted : List ℕ → ℕ → Type 0
EntryAdmitted w i = AsStored w i × EntryLive w i × EntryOfKind w i × EntryKeyReduced w i

-- The same of every entry, in the words of soundness.
pub record LogFits (w : List ℕ) : Type 0 where
  pub as_stored : (i : ℕ) → i < word w 0 → AsStored w i
  pub live : EntriesLive (decode base w)
  pub fits : EntriesFit (decode base w)
  pub reduced : KeysReduced base (decode base w)

-- The code's operation is what is stored for the model's.
abbrev pub StoredAs : Operation → model.Operation → Type 0
StoredAs operation o =
    (operation.number ≡ model.number_of o) × (operation.key ≡ model.key_of o) × (operation.value ≡ model.value_of o)

abbrev pub logged : ℕ → ℕ → model.Operation → model.Answer → Logged
logged transaction object o answer =
    record { object = object; entry = record { transaction = transaction; operation = o; answer = answer } }

-- An entry's words: of its parts, and read from the book.
abbrev pub entry_words_of : ℕ → ℕ → Operation → Answer → List ℕ
entry_words_of transaction object operation answer =
    transaction ∷ object ∷ operation.number ∷ operation.key ∷ operation.value ∷ answer.code ∷ answer.value ∷ []

abbrev pub words_at : List ℕ → ℕ → List ℕ
words_at w i =
    let start = entry_start i in
    word w start ∷ word w (start + 1) ∷ word w (start + 2) ∷ word w (start + 3)
    ∷ word w (start + 4) ∷ word w (start + 5) ∷ word w (start + 6) ∷ []

-- The entries before entry i that are not the transaction's.
abbrev pub others : List ℕ → ℕ → ℕ → List Logged
others w t i = without t (tabulate i (entry_at w))

-- The book is w with those entries, `kept` in number, written over the log's first words.
pub record Compacted (w : List ℕ) (t i : ℕ) (book : List ℕ) (kept : ℕ) : Type 0 where
  pub few : kept ≤ i
  pub count : kept ≡ length (others w t i)
  pub size : length book ≡ length w
  pub words : book ≡ sets w 2_145 (joined entry_words (others w t i))
