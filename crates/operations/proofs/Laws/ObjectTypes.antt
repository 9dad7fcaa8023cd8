-- Types of object with the laws that dropping and committing go by, whatever their states and operations are.
use Rattle.std.specs.Prelude.{◌≡◌, Bool, true, List}
use Rattle.operations.specs.Log.{Entry}

-- `view o` is what decides the answer of `o`: every operation carries it along, and one that `o` is recoverable against
-- leaves it as it is.
pub record ObjectType : Type 1 where
  pub State : Type 0
  pub Operation : Type 0
  pub Answer : Type 0
  pub next : Operation → State → State
  pub answer : Operation → State → Answer
  -- of a requested operation and a logged one
  pub recoverable : Operation → Operation → Bool
  pub commutes : Operation → Operation → Bool
  pub Valid : State → Type 0
  pub Fits : Operation → Type 0
  pub View : Operation → Type 0
  pub view : (o : Operation) → State → View o
  pub valid_next : (o : Operation) (s : State) → Fits o → Valid s → Valid (next o s)
  pub answer_view : (o : Operation) (s t : State) → Fits o → Valid s → Valid t → view o s ≡ view o t
      → answer o s ≡ answer o t
  pub view_next : (o p : Operation) (s t : State) → Fits o → Fits p → Valid s → Valid t → view o s ≡ view o t
      → view o (next p s) ≡ view o (next p t)
  pub view_recoverable : (o p : Operation) (s : State) → Fits o → Fits p → Valid s → recoverable o p ≡ true
      → view o (next p s) ≡ view o s
  pub next_commutes : (o p : Operation) (s : State) → Fits o → Fits p → Valid s → commutes o p ≡ true
      → next o (next p s) ≡ next p (next o s)
  pub recoverable_commutes : (o p : Operation) → Fits o → Fits p → commutes o p ≡ true
      → (recoverable o p ≡ true) × (recoverable p o ≡ true)

module _ (X : ObjectType) where
  open X use {Operation, Answer, Fits}

  abbrev pub Log : Type 0
  Log = List (Entry Operation Answer)

  abbrev pub EntryFits : Entry Operation Answer → Type 0
  EntryFits e = Fits e.operation
