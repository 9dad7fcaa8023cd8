-- Logs of the operations that several transactions ran on one object (document 000, sections 3 and 4).
use Rattle.std.specs.Prelude.{ℕ, ◌≡◌, Bool, true, false, not, cond, List, [], ◌∷◌, eqb}
use Rattle.operations.specs.Operations.{All}

-- A log entry: the transaction (document 01's handout) that it is of, what was asked and the answer that was given.
pub record Entry (Operation Answer : Type 0) : Type 0 where
  pub transaction : ℕ
  pub operation : Operation
  pub answer : Answer

-- Those that the test picks, in order.
abbrev pub filter : {A : Type 0} → (A → Bool) → List A → List A
filter picked [] = []
filter picked (x ∷ l) = cond (picked x) (x ∷ filter picked l) (filter picked l)

-- The entries of the transactions that the test picks.
abbrev pub only : {Operation Answer : Type 0} → (ℕ → Bool) → List (Entry Operation Answer)
    → List (Entry Operation Answer)
only picked = filter (λ e. picked e.transaction)

-- Whether a number is t.
abbrev pub one : ℕ → ℕ → Bool
one t h = eqb h t

abbrev pub others : (ℕ → Bool) → ℕ → Bool
others picked h = not (picked h)

-- ---- Serving a log, by what an operation makes of the state and what it answers

module _ {Operation Answer State : Type 0} (next : Operation → State → State) where
  -- The state that serving the entries reaches.
  abbrev pub after : List (Entry Operation Answer) → State → State
  after [] s = s
  after (e ∷ l) s = after l (next e.operation s)

  module _ (answer : Operation → State → Answer) where
    -- Served in order from the state, each entry gets the answer that it was given.
    abbrev pub Answered : List (Entry Operation Answer) → State → Type 0
    Answered [] s = Unit {0}
    Answered (e ∷ l) s = (answer e.operation s ≡ e.answer) × Answered l (next e.operation s)

-- ---- Pairs of entries, by a relation of a requested operation and a logged one

module _ {Operation Answer : Type 0} (recoverable : Operation → Operation → Bool) where
  -- Of an entry e and a later entry x: x is recoverable against e, unless both are of one transaction.
  abbrev pub Recovers : Entry Operation Answer → Entry Operation Answer → Type 0
  Recovers e x = (x.transaction ≡ e.transaction → ⊥) → recoverable x.operation e.operation ≡ true

  -- Each entry is recoverable against every earlier entry of another transaction.
  abbrev pub Recoverable : List (Entry Operation Answer) → Type 0
  Recoverable [] = Unit {0}
  Recoverable (e ∷ l) = All (Recovers e) l × Recoverable l

module _ {Operation Answer : Type 0} (commutes : Operation → Operation → Bool) (picked : ℕ → Bool) where
  -- Of an entry e and a later entry x: x commutes with e, if x is of a picked transaction and e is not.
  abbrev pub PassesBefore : Entry Operation Answer → Entry Operation Answer → Type 0
  PassesBefore e x =
      picked x.transaction ≡ true → picked e.transaction ≡ false → commutes x.operation e.operation ≡ true

  -- Each entry of a picked transaction commutes with every earlier entry of one that is not picked.
  abbrev pub Commuting : List (Entry Operation Answer) → Type 0
  Commuting [] = Unit {0}
  Commuting (e ∷ l) = All (PassesBefore e) l × Commuting l
