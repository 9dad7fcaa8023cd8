-- How the numbers of the code are read.
use Rattle.std.specs.Prelude.{ℕ, ◌+◌, ◌≡◌, List, length}
use Rattle.std.proofs.Math.Option.{Option, none, some}
use Rattle.text.specs.Text.{put}
use Rattle.std.specs.Prelude as code
use Rattle.std.specs.Prelude.{Some, None}

-- A number of the code, where there is one, as the definitions'.
abbrev pub number_said : code.Option ℕ → Option ℕ
number_said (Some n) = some n
number_said None = none

-- A text was put at a place of a buffer, and the place behind it returned.
pub record Put (out : List ℕ) (at : ℕ) (text after : List ℕ) (end : ℕ) : Type 0 where
  pub buffer : after ≡ put out at text
  pub behind : end ≡ at + length text
