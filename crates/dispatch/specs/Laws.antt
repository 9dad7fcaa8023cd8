-- A line, served.
use Rattle.std.specs.Prelude.{ℕ, ◌≡◌, refl, true, List, [], ◌∷◌, ◌++◌, Some}
use Rattle.std.proofs.Common.{ap, ◌∙◌, subst}
use Rattle.std.proofs.Math.Option.{Option, none, some}
use Rattle.protocol.specs.Replies as protocol
use Rattle.protocol.specs.Replies.{served}
use Rattle.protocol.specs.Call.{Call}
use Rattle.text.specs.Text.{ascii}
use Rattle.lines.specs.Lines.{call_in}
use Rattle.replies.specs.Printed.{printed}
use Rattle.journal.specs.Journal.{record_of, noted}
use Rattle.serving.specs.Told.{outcome_of, Served}
use Rattle.serving.specs.declared.Told.{Told}
use Rattle.recording.specs.Recording.{given_to}
use Rattle.recording.specs.Laws.Given.{desk_gives}
use Rattle.dispatch.specs.Served.{serving, line_served}
use Rattle.dispatch.specs.declared.Output.{Output}
use Rattle.dispatch.specs.Replying.{Kept, Answered}

-- The desk's replies are those that the call gives.
pub served_given : {call : Call} {w book : List ℕ} {told : Told} → Served call w book told
    → given_to call (outcome_of told).reply ≡ true
served_given {call} {w} so =
    ap (λ (s : protocol.Served). given_to call s.outcome.reply) so.done ∙ desk_gives call w

module _ {output : Output} where
  pub unread_line : (w line : List ℕ) → none ≡ call_in line → output.reply.items ≡ ascii "unread\n"
      → output.record.items ≡ [] → Answered (line_served w line) w output
  unfolding line_served
  unread_line w line asks says nothing =
      let unread : Answered (serving none w) w output =
      record { left = refl; text = says; kept = record { bytes = nothing; fit = tt } } in
      rw (← asks) unread

  pub answered_call : {call : Call} {w book : List ℕ} {told : Told} → Served call w book told
      → output.reply.items ≡ printed (outcome_of told).reply (outcome_of told).list ++ (10 ∷ [])
      → Kept (noted (record_of call (outcome_of told)) []) (Some output.record)
      → Answered (serving (some call) w) book output
  answered_call {call} {book = book} so says recorded =
      subst (λ (s : protocol.Served). Answered (record {
        book = s.book;
        text = printed s.outcome.reply s.outcome.list;
        records = noted (record_of call s.outcome) [];
      }) book output) so.done
      (record { left = refl; text = says; kept = recorded })

  pub answered_line : (w line : List ℕ) {call : Call} {book : List ℕ} → some call ≡ call_in line
      → Answered (serving (some call) w) book output → Answered (line_served w line) book output
  unfolding line_served
  answered_line w line {book = book} asks answered =
      subst (λ (asked : Option Call). Answered (serving asked w) book output) asks answered
