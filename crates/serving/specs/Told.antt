-- What the code tells of a call that was made.
use Rattle.std.specs.Prelude.{◌≡◌, List, ℕ, []}
use Rattle.protocol.specs.Replies.{Outcome, outcome, served}
use Rattle.protocol.specs.Call.{Call, desk}
use Rattle.protocol.specs.ReplyOf.{reply_of, batched_of, Filled}
use Rattle.serving.specs.declared.Told.{Told}
use Rattle.serving.specs.declared.Told.TheVariants.{Plain, Listed, Answered}

-- What the call handed back: the list is lent to finish and cancel alone.
abbrev pub outcome_of : Told → Outcome
outcome_of (Plain reply) = outcome (reply_of reply) [] []
outcome_of (Listed reply list) = outcome (reply_of reply) list []
outcome_of (Answered batched) = outcome (batched_of batched) [] []

-- The answers of a batch are counted, and the others are 0 0.
abbrev pub FilledIn : Told → Type 0
FilledIn (Plain reply) = Unit {0}
FilledIn (Listed reply list) = Unit {0}
FilledIn (Answered batched) = Filled batched

-- A call was made.
pub record Served (call : Call) (w book : List ℕ) (told : Told) : Type 0 where
  pub done : served book (outcome_of told) ≡ desk call w
  pub filled : FilledIn told
