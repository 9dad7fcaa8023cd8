-- What is printed of a journal: a line for each record that can be read.
use Rattle.std.specs.Prelude.{ℕ, ◌+◌, ◌≤◌, ◌<◌, ◌≡◌, List, [], ◌∷◌, ◌++◌, length, drop}
use Rattle.std.specs.Prelude.{Option, None, Some, Result, Ok, Err}
use Rattle.text.specs.Fields.{Put}
use Rattle.journal.specs.Records.{Record}
use Rattle.journal.specs.Reading.{step, next, end, stopped}
use Rattle.journal.specs.Coded.{cause_of}
use Rattle.journal.specs.declared.Damage.{Damage}
use Rattle.listing.specs.Listing.{record_line, most_line}
use Rattle.journal_text.specs.declared.Listed.{Listed}

-- Records read from bytes, one after the other; the bytes behind them.
pub data ReadOff : List ℕ → List Record → List ℕ → Type 0 where
  here : {bytes : List ℕ} → ReadOff bytes [] bytes
  more : {bytes rest left : List ℕ} {records : List Record} {r : Record} → ReadOff bytes records rest
      → step rest ≡ next r left → ReadOff bytes (records ++ (r ∷ [])) left

-- Their lines.
abbrev pub lines_of : List Record → List ℕ
lines_of [] = []
lines_of (r ∷ records) = record_line r ++ lines_of records

-- What stands behind them: the end, what cannot be read, or a record for whose line there may be no room.
abbrev pub Stands : Result (Option ℕ) Damage → List ℕ → List ℕ → ℕ → List ℕ → Type 0
Stands (Ok (Some at)) bytes rest written out =
    ((r : Record) × (step rest ≡ next r (drop at bytes))) × (length out < written + most_line)
Stands (Ok None) bytes rest written out = step rest ≡ end
Stands (Err damage) bytes rest written out = step rest ≡ stopped (cause_of damage.cause) (drop damage.place bytes)

-- Lines of records were put at the front of a buffer.
pub record Listing (bytes out printed : List ℕ) (l : Listed) : Type 0 where
  pub records : List Record
  pub read : ReadOff bytes records (drop l.at bytes)
  pub within : l.at ≤ length bytes
  pub put : Put out 0 (lines_of records) printed l.written
  pub fits : l.written ≤ length out
  pub stands : Stands l.next bytes (drop l.at bytes) l.written out
