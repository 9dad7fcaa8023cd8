-- What is left of a book, and handed back, where a line may ask for a call.
use Rattle.std.specs.Prelude.{ℕ, List}
use Rattle.std.proofs.Math.Option.{Option, none, some}
use Rattle.protocol.specs.Replies.{Outcome}
use Rattle.protocol.specs.Call.{Call, desk}

-- The book afterwards, and what the call handed back, where there was one.
pub record Effect : Type 0 where
  pub book : List ℕ
  pub outcome : Option Outcome

abbrev pub effect : List ℕ → Option Outcome → Effect
effect book outcome = record { book = book; outcome = outcome }

-- Of the desk: what is no call leaves the book as it is.
abbrev pub effect_of : Option Call → List ℕ → Effect
effect_of none w = effect w none
effect_of (some call) w = effect (desk call w).book (some (desk call w).outcome)
