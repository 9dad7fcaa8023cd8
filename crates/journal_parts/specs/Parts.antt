-- Where a part of a journal is left.
use Rattle.std.specs.Prelude.{ℕ, ◌≤◌}
use Rattle.journal_parts.specs.declared.Next.{Next}
use Rattle.journal_parts.specs.declared.Next.TheVariants.{On, Whole, Cut}

-- The place lies in the part, or at its end.
abbrev pub Within : Next → ℕ → Type 0
Within (On at) size = at ≤ size
Within Whole size = Unit
Within (Cut at) size = at ≤ size
