-- How the reader's answers are read. A place in the bytes stands for the bytes from it on.
use Rattle.std.specs.Prelude.{ℕ, List, [], length, drop, Option, Some, None, Result, Ok, Err}
use Rattle.journal.specs.Groups.{Read, found, bad}
use Rattle.journal.specs.Records as model
use Rattle.journal.specs.Reading.{Step, next, end, stopped}
use Rattle.journal.specs.Coded.{record_of, cause_of}
use Rattle.journal.specs.declared.Record.{Record}
use Rattle.journal.specs.declared.Damage.{Damage}

-- The step that the next record, or none, or the damage says.
abbrev pub reading_said : List ℕ → Result (Option (Record × ℕ)) Damage → Step
reading_said bytes (Ok (Some told)) = next (record_of told.0) (drop told.1 bytes)
reading_said bytes (Ok None) = end
reading_said bytes (Err damage) = stopped (cause_of damage.cause) (drop damage.place bytes)

-- The place that it has.
abbrev pub place_of : Result (Option (Record × ℕ)) Damage → ℕ
place_of (Ok (Some told)) = told.1
place_of (Ok None) = 0
place_of (Err damage) = damage.place

-- How many records were read.
abbrev pub count_said : List ℕ → Result ℕ Damage → Read ℕ
count_said bytes (Ok n) = found n []
count_said bytes (Err damage) = bad (cause_of damage.cause) (drop damage.place bytes)

-- Where it stopped.
abbrev pub count_place : Result ℕ Damage → ℕ
count_place (Ok n) = 0
count_place (Err damage) = damage.place

abbrev pub count_of : Read (List model.Record) → Read ℕ
count_of (found records rest) = found (length records) rest
count_of (bad cause rest) = bad cause rest
