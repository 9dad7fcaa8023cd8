-- Which lines a text has; document 01's whole case and batches as texts: what is read, and what is printed.
use Rattle.std.specs.Prelude.{ℕ, ◌≡◌, refl, List, [], ◌∷◌, ◌++◌, map, replicate}
use Prim.Native.String.{String}
use Rattle.std.proofs.Common.{ap, ap₂, ◌∙◌}
use Rattle.std.proofs.Math.Option.{some}
use Rattle.std.proofs.lemmas.List.{length-replicate}
use Rattle.operations.specs.Operations.{answering}
use Rattle.bitset.specs.Bitset.{has, members_from, members}
use Rattle.store.specs.Layout.{BookLong}
use Rattle.protocol.specs.Replies.{Reply, ok, answered, wait, refused, outcome}
use Rattle.protocol.specs.Call.{Call, set_up, begin, batch, desk}
use Rattle.history.specs.History.{Event, trace}
use Rattle.history.proofs.Cases.{calls_of, whole_kinds, whole_case}
use Rattle.traces.specs.Traces.{whole_case_trace}
use Rattle.traces.specs.Laws.Computing.{unchecked, trace_computed}
use Rattle.text.specs.Text.{ascii, number_in, decimal_within, decimal}
use Rattle.lines.specs.Lines.{call_in}
use Rattle.replies.specs.Printed.{printed}
use Rattle.script.specs.Script.{lines_in, ended_lines, served_lines, texts, as_lines, printed_from, script}
use Rattle.script.proofs.Laws.Traces.{printed_at, replies_traced}

-- The end of a text ends a line, but nothing after the last line feed is no line.
pub lines : (lines_in (ascii "") ≡ [])
    × (lines_in (ascii "\n") ≡ [] ∷ [])
    × (lines_in (ascii "F 1\nF 0") ≡ ascii "F 1" ∷ ascii "F 0" ∷ [])
    × (lines_in (ascii "F 1\nF 0\n") ≡ ascii "F 1" ∷ ascii "F 0" ∷ [])
    × (lines_in (ascii "F 1\n\nF 0") ≡ ascii "F 1" ∷ [] ∷ ascii "F 0" ∷ [])
lines = (refl, refl, refl, refl, refl)

-- Only a line feed ends a line: a carriage return before it, a NUL and other bytes are the line's.
pub other_bytes : (lines_in (ascii "F 1" ++ (13 ∷ []) ++ ascii "\nF 0") ≡ (ascii "F 1" ++ (13 ∷ [])) ∷ ascii "F 0" ∷ [])
    × (lines_in (ascii "F" ++ (0 ∷ []) ++ ascii "1\nF 0") ≡ (ascii "F" ++ (0 ∷ []) ++ ascii "1") ∷ ascii "F 0" ∷ [])
    × (lines_in (0 ∷ []) ≡ (0 ∷ []) ∷ [])
    × (lines_in (255 ∷ 10 ∷ 13 ∷ []) ≡ (255 ∷ []) ∷ (13 ∷ []) ∷ [])
other_bytes = (refl, refl, refl, refl)

-- What has ended, and is answered before more is read.
pub ended : (ended_lines (ascii "") ≡ [])
    × (ended_lines (ascii "F 1") ≡ [])
    × (ended_lines (ascii "F 1\nF 0") ≡ ascii "F 1" ∷ [])
    × (ended_lines (ascii "F 1\nF 0\n") ≡ ascii "F 1" ∷ ascii "F 0" ∷ [])
ended = (refl, refl, refl, refl)

-- ---- Scripts

-- A set up, and calls after it that have these outcomes.
module _ (kinds : List ℕ) (events : List Event) (input output : List ℕ)
    (read : map call_in (lines_in input) ≡ map some (set_up kinds ∷ calls_of events))
    (shown : (list : List ℕ) → as_lines (printed ok list ∷ map printed_at events) ≡ output)
    (traced : (w : List ℕ) → BookLong w → ((desk (set_up kinds) w).outcome.reply ≡ ok)
    × (trace desk (calls_of events) (desk (set_up kinds) w).book ≡ events)) where
  printed_from_lem : (w : List ℕ) → BookLong w → as_lines (texts (served_lines w (lines_in input))) ≡ output
  printed_from_lem w l =
      let list : List ℕ = (desk (set_up kinds) w).outcome.list in
      ap as_lines (replies_traced (lines_in input) (set_up kinds ∷ calls_of events) read w)
      ∙ ap₂ (λ (reply : Reply) (es : List Event). as_lines (printed reply list ∷ map printed_at es)) (traced w l).0
      (traced w l).1
      ∙ shown list

  script_printed : script input ≡ output
  unfolding printed_from
  script_printed = printed_from_lem (replicate 3_937 0) (length-replicate {A = ℕ} 3_937 0)

-- Document 01's whole case.

abbrev pub whole_input : String
whole_input = "S 1 2 3\nB 0\nB 1\nI 0 0 1 7 0\nI 1 0 1 9 0\nI 1 0 3 0 0\nF 1\nF 0\nB 2\nI 2 0 2 0 0\nC 2\n"

abbrev pub whole_output : String
whole_output = "ok\nok\nok\nanswer 1 0\nanswer 1 0\nwait 1 0\nfinished\ncommitted 0 1\nok\nanswer 1 9\ncancelled\n"

pub whole_case_lem : script (ascii whole_input) ≡ ascii whole_output
unfolding call_in number_in printed decimal decimal_within members members_from has
whole_case_lem =
    script_printed whole_kinds whole_case (ascii whole_input) (ascii whole_output) refl (λ list. refl) whole_case_trace

-- Batches (02, No. 2): answered; empty; waiting; refused.

abbrev says : Call → Reply → Event
says call reply = record { call = call; outcome = outcome reply [] [] }

abbrev batch_events : List Event
batch_events =
    says (begin 0) ok
    ∷ says (begin 1) ok
    ∷ says (batch 0 (0 ∷ 1 ∷ 7 ∷ 0 ∷ 2 ∷ 7 ∷ 9 ∷ 3 ∷ [])) (answered (answering 1 0 ∷ answering 1 0 ∷ []))
    ∷ says (batch 0 []) (answered [])
    ∷ says (batch 1 (0 ∷ 1 ∷ 4 ∷ 0 ∷ 0 ∷ 3 ∷ 0 ∷ 0 ∷ [])) (wait 1 1)
    ∷ says (batch 1 (0 ∷ 1 ∷ 4 ∷ 0 ∷ 1 ∷ 4 ∷ 5 ∷ 0 ∷ [])) (refused 8)
    ∷ []

abbrev batch_kinds : List ℕ
batch_kinds = 1 ∷ 0 ∷ 3 ∷ replicate 13 0

batch_trace : (w : List ℕ) → BookLong w → ((desk (set_up batch_kinds) w).outcome.reply ≡ ok)
    × (trace desk (calls_of batch_events) (desk (set_up batch_kinds) w).book ≡ batch_events)
unfolding unchecked members members_from has
batch_trace = trace_computed batch_kinds refl (calls_of batch_events)

abbrev pub batch_input : String
batch_input = "S 1 0 3\nB 0\nB 1\nG 0 0 1 7 0 2 7 9 3\nG 0\nG 1 0 1 4 0 0 3 0 0\nG 1 0 1 4 0 1 4 5 0\n"

abbrev pub batch_output : String
batch_output = "ok\nok\nok\nanswer 1 0 1 0\nanswer\nwait 1 0\nrefused 8\n"

pub batches : script (ascii batch_input) ≡ ascii batch_output
unfolding call_in number_in printed decimal decimal_within members members_from has
batches =
    script_printed batch_kinds batch_events (ascii batch_input) (ascii batch_output) refl (λ list. refl) batch_trace
