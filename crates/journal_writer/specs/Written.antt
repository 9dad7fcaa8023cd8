-- What the writer hands back.
use Rattle.std.specs.Prelude.{ℕ, Bool, true, false, List, Option, Some, None}
use Rattle.std.proofs.Math.Option as model
use Rattle.arrayvec.specs.ArrayVec.{ArrayVec}

-- The bytes, or none.
abbrev pub bytes_said : Option (ArrayVec ℕ) → model.Option (List ℕ)
bytes_said (Some bytes) = model.some bytes.items
bytes_said None = model.none

-- The bytes that were put, where it says that there are any.
abbrev pub bytes_put : Bool → ArrayVec ℕ → model.Option (List ℕ)
bytes_put true bytes = model.some bytes.items
bytes_put false bytes = model.none
