-- Document 01, "Script program", and 02, No. 3: what is printed and recorded for a line.
use Rattle.std.specs.Prelude.{ℕ, List, []}
use Rattle.std.proofs.Math.Option.{Option, none, some}
use Rattle.protocol.specs.Replies.{Outcome}
use Rattle.protocol.specs.Call.{Call}
use Rattle.text.specs.Text.{ascii}
use Rattle.lines.specs.Lines.{call_in}
use Rattle.replies.specs.Printed.{printed}
use Rattle.journal.specs.Records.{Record}
use Rattle.journal.specs.Journal.{record_of, noted}
use Rattle.serving.specs.Effects.{effect_of}

-- The reply as it is printed.
abbrev pub text_of : Option Outcome → List ℕ
text_of none = ascii "unread"
text_of (some o) = printed o.reply o.list

-- The record of a call that was made, where it has one.
abbrev pub records_of : Option Call → Option Outcome → List Record
records_of none outcome = []
records_of (some call) none = []
records_of (some call) (some o) = noted (record_of call o) []

-- The book after a line, the reply to print, and the record to keep, if any.
pub record LineServed : Type 0 where
  pub book : List ℕ
  pub text : List ℕ
  pub records : List Record

abbrev pub serving : Option Call → List ℕ → LineServed
serving call w =
    let e = effect_of call w in
    record { book = e.book; text = text_of e.outcome; records = records_of call e.outcome }

unfoldable pub line_served : List ℕ → List ℕ → LineServed
line_served w line = serving (call_in line) w
