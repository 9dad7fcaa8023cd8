-- Dependency as sets: element a of the list is the set of those on whom transaction a depends.
use Rattle.std.specs.Prelude.{ℕ, ◌≡◌, Bool, true, List, get_or}
use Rattle.bitset.specs.Bitset.{In}

abbrev pub EdgeIn : List ℕ → ℕ → ℕ → Type 0
EdgeIn sets a b = In (get_or sets a 0) b

-- The edges that a test tells.
abbrev pub Leading : (ℕ → ℕ → Bool) → ℕ → ℕ → Type 0
Leading edge a b = edge a b ≡ true

-- The edges turned round.
abbrev pub Reversed : (ℕ → ℕ → Type 0) → ℕ → ℕ → Type 0
Reversed Edge a b = Edge b a

-- One of these, to which an edge leads from a member of the set.
abbrev pub Near : (ℕ → ℕ → Type 0) → ℕ → ℕ → ℕ → Type 0
Near Edge among set b = In among b × ((a : ℕ) × In set a × Edge a b)
