-- Which record the code makes of a call and its reply.
use Rattle.std.specs.Prelude as code
use Rattle.std.specs.Prelude.{ℕ, ◌≡◌, Bool, true, not, ◌&&◌, List, [], ◌∷◌, Some, None, IfSome, eqb, length}
use Prim.Native.Char.{code as char}
use Rattle.std.proofs.Math.Option.{Option, none, some}
use Rattle.protocol.specs.Replies as protocol
use Rattle.protocol.specs.Call.{Call, set_up, begin, operate, batch, finish, cancel, contents}
use Rattle.journal.specs.Records as model
use Rattle.journal.specs.Records.{arguments_of, has_reply, gives, operations_of, arguments_fit, shaped}
use Rattle.journal.specs.Coded.{record_of}
use Rattle.journal.specs.Journal.{record_of_reply}
use Rattle.journal.specs.declared.Record.{Record}

-- The record, where there is one.
abbrev pub made : code.Option Record → Option model.Record
made None = none
made (Some r) = some (record_of r)

-- A call's letter; 0 of contents, which has none.
abbrev pub letter_of : Call → ℕ
letter_of (set_up kinds) = char "S"
letter_of (begin t) = char "B"
letter_of (operate t o number k v) = char "I"
letter_of (batch t operations) = char "G"
letter_of (finish t list) = char "F"
letter_of (cancel t list) = char "C"
letter_of (contents o) = 0

-- The arguments that stand behind it.
abbrev pub arguments_asked : Call → List ℕ
arguments_asked (set_up kinds) = kinds
arguments_asked (begin t) = t ∷ []
arguments_asked (operate t o number k v) = t ∷ o ∷ number ∷ k ∷ v ∷ []
arguments_asked (batch t operations) = t ∷ operations
arguments_asked (finish t list) = t ∷ []
arguments_asked (cancel t list) = t ∷ []
arguments_asked (contents o) = []

-- The arguments are as many as its letter has: those of any other call are refused.
abbrev pub whole : Call → Bool
whole call = arguments_fit (letter_of call) (arguments_asked call) (arguments_of (letter_of call))

-- Which replies a call gives: a reason for saying no; or those of its letter, with as many answers as operations.
abbrev pub given_to : Call → protocol.Reply → Bool
given_to call protocol.ok = whole call && not (has_reply (letter_of call))
given_to call (protocol.answered answers) =
    whole call && gives (letter_of call) 1
    && eqb (length answers) (operations_of (letter_of call) (arguments_asked call))
given_to call (protocol.wait owners count) = whole call && gives (letter_of call) 0
given_to call protocol.finished = whole call && gives (letter_of call) 2
given_to call (protocol.committed count) = whole call && gives (letter_of call) 3
given_to call (protocol.circle count) = whole call && gives (letter_of call) 4
given_to call (protocol.cancelled count) = whole call && gives (letter_of call) 5
given_to call (protocol.counted rows) = eqb (letter_of call) 0
given_to call (protocol.refused reason) = not (eqb reason 0)

-- The record was made, and fits but for the width of its numbers.
pub record Recorded (call : Call) (reply : protocol.Reply) (list : List ℕ) (r : code.Option Record) : Type 0 where
  pub is : made r ≡ record_of_reply call reply list
  pub shape : IfSome r (λ content. shaped (record_of content) ≡ true)
