-- What the structs of the journal's exports say.
use Rattle.std.specs.Prelude.{ℕ, ◌-◌, ◌≡◌, List, ◌++◌, length, drop, replicate}
use Rattle.std.proofs.Math.Option.{Option, none, some}
use Rattle.journal.specs.Groups.{Cause, cut, letter, code, owners, list, batch, long_form, width}
use Rattle.journal.specs.Groups.{Read, found, bad, refusal_of}
use Rattle.journal.specs.Reading.{Step, next, end, stopped}
use Rattle.journal.specs.Coded.{record_of}
use Rattle.capi.specs.declared.records.Written.{Written}
use Rattle.capi.specs.declared.records.NextRecord.{NextRecord}
use Rattle.capi.specs.declared.records.CountedRecords.{CountedRecords}

-- The most bytes of a record.
abbrev pub most_bytes : ℕ
most_bytes = 488

-- The bytes and their number, 0 in the places that they don't use; or 13 and none.
abbrev pub handed : Option (List ℕ) → Written
handed (some bytes) =
    record { refusal = 0; count = length bytes; bytes = bytes ++ replicate (most_bytes - length bytes) 0 }
handed none = record { refusal = 13; count = 0; bytes = replicate most_bytes 0 }

-- The number of a cause; 0 says that there is none.
abbrev pub cause_number : Cause → ℕ
cause_number cut = 1
cause_number letter = 2
cause_number code = 3
cause_number owners = 4
cause_number list = 5
cause_number batch = 6
cause_number long_form = 7
cause_number width = 8

-- The struct says that step of a reader of the bytes. A place stands for the bytes from it on; where no record is
-- found, the content says nothing.
abbrev pub SaysNext : List ℕ → NextRecord → Step → Type 0
SaysNext bytes r (next content rest) =
    (r.refusal ≡ 0) × (r.found ≡ 1) × (r.cause ≡ 0) × (record_of r.content ≡ content)
    × (drop r.place bytes ≡ rest)
SaysNext bytes r end = (r.refusal ≡ 0) × (r.found ≡ 0) × (r.cause ≡ 0) × (r.place ≡ 0)
SaysNext bytes r (stopped cause rest) =
    (r.refusal ≡ refusal_of cause) × (r.found ≡ 0) × (r.cause ≡ cause_number cause) × (drop r.place bytes ≡ rest)

-- The struct says that number of records, or why there is none.
abbrev pub SaysCount : List ℕ → CountedRecords → Read ℕ → Type 0
SaysCount bytes r (found n rest) = (r.refusal ≡ 0) × (r.cause ≡ 0) × (r.place ≡ 0) × (r.records ≡ n)
SaysCount bytes r (bad cause rest) =
    (r.refusal ≡ refusal_of cause) × (r.cause ≡ cause_number cause) × (drop r.place bytes ≡ rest)
    × (r.records ≡ 0)
