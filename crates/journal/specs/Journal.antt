-- 02, No. 3: the journal of a list of calls. Every accepted call that has a letter is recorded, with its reply: a wait
-- too, and the arguments as they were called.
use Rattle.std.specs.Prelude.{ℕ, List, [], ◌∷◌, take}
use Prim.Native.Char.{code}
use Rattle.std.proofs.Math.Option.{Option, none, some}
use Rattle.bitset.specs.Bitset.{members}
use Rattle.protocol.specs.Replies as protocol
use Rattle.protocol.specs.Replies.{Outcome, answer_numbers}
use Rattle.protocol.specs.Call.{Call, set_up, begin, operate, batch, finish, cancel, contents, desk}
use Rattle.journal.specs.Records.{finished_code, committed_code, circle_code, cancelled_code}
use Rattle.journal.specs.Records.{Reply, nothing, wait, answered, ended, Record, recorded}

-- A call's record, with this reply. Contents has no letter.
abbrev pub record_with : Call → Reply → Option Record
record_with (set_up kinds) reply = some (recorded (code "S") kinds reply)
record_with (begin t) reply = some (recorded (code "B") (t ∷ []) reply)
record_with (operate t o number k v) reply = some (recorded (code "I") (t ∷ o ∷ number ∷ k ∷ v ∷ []) reply)
record_with (batch t operations) reply = some (recorded (code "G") (t ∷ operations) reply)
record_with (finish t list) reply = some (recorded (code "F") (t ∷ []) reply)
record_with (cancel t list) reply = some (recorded (code "C") (t ∷ []) reply)
record_with (contents o) reply = none

-- The record of a call, from its reply and the list handed back; none of a call that is refused. Those that committed
-- stand at the front of the list.
abbrev pub record_of_reply : Call → protocol.Reply → List ℕ → Option Record
record_of_reply call protocol.ok list = record_with call nothing
record_of_reply call (protocol.answered answers) list = record_with call (answered (answer_numbers answers))
record_of_reply call (protocol.wait owners count) list = record_with call (wait (members owners))
record_of_reply call protocol.finished list = record_with call (ended finished_code [])
record_of_reply call (protocol.committed count) list = record_with call (ended committed_code (take count list))
record_of_reply call (protocol.circle count) list = record_with call (ended circle_code (take count list))
record_of_reply call (protocol.cancelled count) list = record_with call (ended cancelled_code (take count list))
record_of_reply call (protocol.counted rows) list = none
record_of_reply call (protocol.refused reason) list = none

abbrev pub record_of : Call → Outcome → Option Record
record_of call outcome = record_of_reply call outcome.reply outcome.list

abbrev pub noted : Option Record → List Record → List Record
noted none records = records
noted (some r) records = r ∷ records

-- The records of calls served one after the other from a book on.
abbrev pub journal : List ℕ → List Call → List Record
journal w [] = []
journal w (call ∷ calls) = noted (record_of call (desk call w).outcome) (journal (desk call w).book calls)
