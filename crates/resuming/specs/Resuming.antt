-- A desk that starts on a journal serves the recorded calls again, and goes on from there.
use Rattle.std.specs.Prelude.{ℕ, ◌≤◌, ◌<◌, ◌≡◌, List, [], ◌∷◌, length, drop, Option, Some, None, Result, Ok, Err}
use Rattle.lines.specs.Lines.{asked}
use Rattle.journal.specs.Records.{Record}
use Rattle.journal.specs.Reading.{step, next, end, stopped}
use Rattle.journal.specs.Coded.{cause_of}
use Rattle.dispatch.specs.Served.{LineServed, serving}
use Rattle.resuming.specs.declared.Stop.{Stop}
use Rattle.resuming.specs.declared.Stop.TheVariants.{Damaged, Differs}

-- The call of a record, served: the call that a script's line with its letter and arguments asks for.
abbrev pub served_again : Record → List ℕ → LineServed
served_again r w = serving (asked r.letter r.arguments) w

-- The first record of the bytes is served again on a book and gets that very record; what it leaves, and the bytes
-- behind it.
pub record Confirmed (w bytes book rest : List ℕ) : Type 0 where
  pub first : Record
  pub read : step bytes ≡ next first rest
  pub same : (served_again first w).records ≡ first ∷ []
  pub left : book ≡ (served_again first w).book

-- Several records, one after the other.
pub data Replayed : List ℕ → List ℕ → List ℕ → List ℕ → Type 0 where
  here : {w bytes : List ℕ} → Replayed w bytes w bytes
  more : {w bytes w₁ bytes₁ w₂ bytes₂ : List ℕ} → Replayed w bytes w₁ bytes₁ → Confirmed w₁ bytes₁ w₂ bytes₂
      → Replayed w bytes w₂ bytes₂

-- The first record of the bytes is another than the desk gives.
pub record Other (w bytes : List ℕ) : Type 0 where
  pub first : Record
  pub rest : List ℕ
  pub read : step bytes ≡ next first rest
  pub other : (served_again first w).records ≡ first ∷ [] → ⊥

-- What is found at a place of the bytes, from a book on: the place behind a record that is confirmed, the end, damage,
-- or a record that differs. Only a confirmed record leaves a book that is served further.
abbrev pub Found : List ℕ → List ℕ → ℕ → List ℕ → Result (Option ℕ) Stop → Type 0
Found w bytes at book (Ok (Some behind)) =
    Confirmed w (drop at bytes) book (drop behind bytes) × (at < behind) × (behind ≤ length bytes)
Found w bytes at book (Ok None) = (step (drop at bytes) ≡ end) × (book ≡ w)
Found w bytes at book (Err (Damaged d)) =
    (step (drop at bytes) ≡ stopped (cause_of d.cause) (drop d.place bytes)) × (book ≡ w)
Found w bytes at book (Err Differs) = Other w (drop at bytes)

-- How replaying bytes ended at a place, and with which book: all before the place was confirmed, and there is the end,
-- damage, or a record that differs. To find that one it was served, so the book before it is no longer there.
abbrev pub Ended : List ℕ → List ℕ → ℕ → List ℕ → Result (Unit {0}) Stop → Type 0
Ended w bytes at book (Ok whole) = Replayed w bytes book (drop at bytes) × (step (drop at bytes) ≡ end)
Ended w bytes at book (Err (Damaged d)) =
    Replayed w bytes book (drop at bytes) × (step (drop at bytes) ≡ stopped (cause_of d.cause) (drop d.place bytes))
Ended w bytes at book (Err Differs) =
    (before : List ℕ) × Replayed w bytes before (drop at bytes) × Other before (drop at bytes)
