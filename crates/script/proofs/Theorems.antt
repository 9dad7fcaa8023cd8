-- What holds of scripts.
use Rattle.std.specs.Prelude.{ℕ, ◌≤◌, ◌≡◌, refl, true, take}
use Rattle.std.proofs.Common.{sym, ◌∙◌}
use Rattle.std.proofs.Math.Path.{ap, subst}
use mathlib.Core.List.{List, [], ◌++◌, append-nil, drop_last, flatten}
use Rattle.std.proofs.Math.ListN.{length}
use Rattle.operations.specs.Operations.{All}
use Rattle.journal.specs.Records.{file, fits}
use Rattle.journal.specs.Journal.{journal}
use Rattle.dispatch.specs.Served.{LineServed}
use Rattle.script.specs.Script.{lines_in, ended_lines, served_lines, texts, records, as_lines, printed_from}
use Rattle.script.specs.Script.{recorded_from, calls_in}
use Rattle.script.specs.Sessions.{Session, Turn, opening, taken, closing, in_blocks}
use Rattle.script.specs.Feeding.{Turned, Fed}
use Rattle.script.specs.declared.Ends.{Ends}
use Rattle.script.proofs.Laws.Reading.{all_lines, last_left, closed_lines, blocks_taken}
use Rattle.script.proofs.Laws.Running.{fed_taken, issued_behind}
use Rattle.script.proofs.Laws.Lines.{replies_read, length_replies, records_journal}

-- Of any book that the program begins with: of zeros, or as it was left.
module _ (w : List ℕ) where
  -- However the input is cut into blocks, its lines are served alike: so what is printed, and what is recorded.
  pub in_blocks_lem : (blocks : List (List ℕ))
      → (as_lines (texts (in_blocks (opening w) blocks)) ≡ printed_from w (flatten blocks))
      × (records (in_blocks (opening w) blocks) ≡ recorded_from w (flatten blocks))
  unfolding printed_from recorded_from
  in_blocks_lem blocks =
      let alike : in_blocks (opening w) blocks ≡ served_lines w (lines_in (flatten blocks)) =
      ap (λ (t : Turn). t.ended ++ (closing t.after).ended) (blocks_taken (opening w) blocks)
      ∙ closed_lines w (flatten blocks) in
      (ap (λ (l : List LineServed). as_lines (texts l)) alike, ap records alike)

  -- Each line is served as soon as it has ended: before more is read, what was read is answered.
  pub at_once : (input : List ℕ) → (taken (opening w) input).ended ≡ served_lines w (ended_lines input)
  at_once input =
      sym (append-nil (taken (opening w) input).ended)
      ∙ all_lines (λ s. []) drop_last last_left (λ b line. refl) w input

  -- Both hold of the calls that the program makes: where it waits for more, the lines that have ended are answered,
  -- and what was appended to the journal is the file of their records,
  pub fed_at_once : {blocks : List (List ℕ)} {printed appended : List ℕ} {left : Session}
      → Fed (opening w) [] blocks printed appended left
      → let served : List LineServed = served_lines w (ended_lines (flatten blocks)) in
      (printed ≡ as_lines (texts served)) × (appended ≡ file (records served))
  fed_at_once {blocks} fed =
      let through = (fed_taken fed).through in
      let served = at_once (flatten blocks) in (
        through.output ∙ ap (λ (l : List LineServed). as_lines (texts l)) served,
        through.journal ∙ ap (λ (l : List LineServed). file (records l)) served,
      )

  -- and where `end_input` is called at the end of the input, and the front of each buffer appended and printed, all
  -- that was printed is the input's, all that was appended is the file of its records, and each of them fits.
  pub runs : {blocks : List (List ℕ)} {printed appended : List ℕ} {left : Session}
      → Fed (opening w) [] blocks printed appended left
      → {book out after buffer kept : List ℕ} {ends : Ends} → ends.written ≤ length out
      → ends.recorded ≤ length buffer → Turned (closing left) book out after buffer kept ends
      → (printed ++ take ends.written after ≡ printed_from w (flatten blocks))
      × (appended ++ take ends.recorded kept ≡ file (recorded_from w (flatten blocks)))
      × All (λ r. fits r ≡ true) (recorded_from w (flatten blocks))
  unfolding printed_from recorded_from
  runs {blocks} {left = left} fed {ends = ends} room space closed =
      let taken-all = fed_taken fed in
      let whole : (taken (opening w) (flatten blocks)).ended ++ (closing left).ended
      ≡ served_lines w (lines_in (flatten blocks)) =
      ap (λ (s : Session). (taken (opening w) (flatten blocks)).ended ++ (closing s).ended) (sym taken-all.after)
      ∙ closed_lines w (flatten blocks) in
      let last = issued_behind taken-all.through closed.1 room space in (
        last.output ∙ ap (λ (l : List LineServed). as_lines (texts l)) whole,
        last.journal ∙ ap (λ (l : List LineServed). file (records l)) whole,
        subst (λ (l : List LineServed). All (λ r. fits r ≡ true) (records l)) whole last.fit,
      )

  -- What is recorded is the journal of the calls that the lines ask for (02, No. 3): of each that is accepted, in turn.
  pub recorded_calls : (input : List ℕ) → recorded_from w input ≡ journal w (calls_in (lines_in input))
  unfolding recorded_from
  recorded_calls input = records_journal (lines_in input) w

  -- What is printed has exactly one line for each line of the input: its reply.
  pub one_reply_each : (input : List ℕ) → (lines_in (printed_from w input) ≡ texts (served_lines w (lines_in input)))
      × (length (lines_in (printed_from w input)) ≡ length (lines_in input))
  unfolding printed_from
  one_reply_each input =
      let each = replies_read w (lines_in input) in
      (each, ap length each ∙ length_replies w (lines_in input))
