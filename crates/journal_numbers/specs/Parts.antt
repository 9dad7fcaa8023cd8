-- How what was read is told, and what it says.
use Rattle.std.specs.Prelude.{ℕ, ◌≤◌, ◌≡◌, List, length, drop, MatchResult, Result}
use Rattle.journal.specs.Groups.{Read, found, bad}
use Rattle.journal.specs.Coded.{cause_of}
use Rattle.journal.specs.declared.Damage.{Damage}

module _ {A : Type 0} (bytes : List ℕ) (at : ℕ) (what : Read A) where
  -- At a place this was found, and the place behind it is not before it,
  pub record Finds (value : A) (behind : ℕ) : Type 0 where
    pub said : found value (drop behind bytes) ≡ what
    pub onward : at ≤ behind
    pub within : behind ≤ length bytes

  -- or it cannot be read.
  pub record Fails (damage : Damage) : Type 0 where
    pub said : bad (cause_of damage.cause) (drop damage.place bytes) ≡ what
    pub onward : at ≤ damage.place
    pub within : damage.place ≤ length bytes

-- What was read at a place is this, told by a value and the place behind it.
abbrev pub Reads : {A V : Type 0} → List ℕ → ℕ → (V → A) → (V → ℕ) → Result V Damage → Read A → Type 0
Reads bytes at value behind r what =
    MatchResult r (λ v. Finds bytes at what (value v) (behind v)) (λ damage. Fails bytes at what damage)

abbrev pub first : ℕ × ℕ → ℕ
first told = told.0

abbrev pub second : ℕ × ℕ → ℕ
second told = told.1

abbrev pub itself : ℕ → ℕ
itself n = n
