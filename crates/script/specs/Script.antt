-- Document 01, "Script program", and 02, No. 3: what is printed for a whole input, and recorded.
use Rattle.std.specs.Prelude.{ℕ, replicate}
use Prim.Native.Char.{code}
use Rattle.std.proofs.Math.Option.{Option, none, some}
use mathlib.Core.List.{List, [], ◌∷◌, ◌++◌, map, drop_last}
use Rattle.store.specs.Layout.{book_words}
use Rattle.protocol.specs.Call.{Call}
use Rattle.text.specs.Text.{split}
use Rattle.lines.specs.Lines.{call_in}
use Rattle.journal.specs.Records.{Record}
use Rattle.dispatch.specs.Served.{LineServed, line_served}

-- A line ends at a line feed or at the end of the input; nothing after the last line feed is no line.
abbrev pub without_empty_last : List (List ℕ) → List (List ℕ)
without_empty_last [] = []
without_empty_last ([] ∷ []) = []
without_empty_last ((b ∷ line) ∷ []) = (b ∷ line) ∷ []
without_empty_last (line ∷ next ∷ lines) = line ∷ without_empty_last (next ∷ lines)

abbrev pub lines_in : List ℕ → List (List ℕ)
lines_in input = without_empty_last (split (code "\n") input)

-- The lines that have ended with a line feed: all pieces but what stands behind the last.
abbrev pub ended_lines : List ℕ → List (List ℕ)
ended_lines input = drop_last (split (code "\n") input)

-- What lines leave, each served on the book that the one before left.
abbrev pub served_lines : List ℕ → List (List ℕ) → List LineServed
served_lines w [] = []
served_lines w (line ∷ lines) = line_served w line ∷ served_lines (line_served w line).book lines

-- Their replies,
abbrev pub texts : List LineServed → List (List ℕ)
texts served = map (λ a. a.text) served

-- and their records.
abbrev pub records : List LineServed → List Record
records [] = []
records (a ∷ served) = a.records ++ records served

-- Texts, each with a line feed behind it.
abbrev pub as_lines : List (List ℕ) → List ℕ
as_lines [] = []
as_lines (text ∷ texts) = text ++ (code "\n" ∷ as_lines texts)

-- The book that a script begins with.
abbrev pub zeros : List ℕ
zeros = replicate book_words 0

-- What the program prints for an input, from a book on, and what it records.
unfoldable pub printed_from : List ℕ → List ℕ → List ℕ
printed_from w input = as_lines (texts (served_lines w (lines_in input)))

unfoldable pub recorded_from : List ℕ → List ℕ → List Record
recorded_from w input = records (served_lines w (lines_in input))

abbrev pub script : List ℕ → List ℕ
script input = printed_from zeros input

-- The calls that lines ask for.
abbrev pub or_passed : Option Call → List Call → List Call
or_passed none calls = calls
or_passed (some call) calls = call ∷ calls

abbrev pub calls_in : List (List ℕ) → List Call
calls_in [] = []
calls_in (line ∷ lines) = or_passed (call_in line) (calls_in lines)
