-- What holds of lines.
use Rattle.std.specs.Prelude.{ℕ, ◌≡◌, List, ◌∷◌}
use Rattle.std.proofs.Math.Option.{some}
use Rattle.bitset.specs.Bitset.{size}
use Rattle.protocol.specs.Replies as protocol
use Rattle.protocol.specs.Call.{Call}
use Rattle.lines.specs.Lines.{call_in}
use Rattle.replies.specs.Printed.{spaced, printed}
use Rattle.journal.specs.Records.{Record}
use Rattle.journal.specs.Journal.{record_of_reply}
use Rattle.listing.specs.Listing.{reply_text}
use Rattle.listing.proofs.Laws.Printed.{text_printed}
use Rattle.listing.proofs.Laws.ReadBack.{record_read}

-- Behind the tab stands the call's reply as the script prints it. A wait prints the count that it was given, and its
-- record counts the owners: the two must be the same, as the scheduler's are.
pub reply_printed : (call : Call) (reply : protocol.Reply) (list : List ℕ) (r : Record)
    → ((owners count : ℕ) → reply ≡ protocol.wait owners count → count ≡ size owners)
    → record_of_reply call reply list ≡ some r
    → reply_text r.reply ≡ printed reply list
reply_printed = text_printed

-- Before the tab stands a line that the script reads as the call, where the call was read from a line. That line may
-- have been another: with leading zeros, or with fewer kinds.
pub call_read : (line : List ℕ) (call : Call) (reply : protocol.Reply) (list : List ℕ) (r : Record)
    → call_in line ≡ some call → record_of_reply call reply list ≡ some r
    → call_in (r.letter ∷ spaced r.arguments) ≡ some call
call_read = record_read
