-- What holds of the journal's bytes: one file for each list of records, and nothing else is read.
use Rattle.std.specs.Prelude.{ℕ, ◌≤◌, ◌<◌, ◌≡◌, true, false, ◌↔◌, ◌⊎◌, List, [], ◌∷◌, ◌++◌, length}
use Rattle.std.proofs.Common.{sym, ap, ◌∙◌}
use Rattle.std.proofs.Math.Option.{none}
use Rattle.operations.specs.Operations.{All}
use Rattle.operations.proofs.Laws.Cases.{split}
use Rattle.journal.specs.Groups.{cut, found, bad}
use Rattle.journal.specs.Records.{Record, bytes_of, file, fits, written}
use Rattle.journal.specs.Reading.{record_in, step, stopped, records_in}
use Rattle.journal.proofs.Laws.ReadBack.{record_read}
use Rattle.journal.proofs.Laws.Files.{never_none, records_read, file_bytes, records_written, cut_record, cut_file}
use Rattle.journal.proofs.Laws.Lengths.{record_length}

-- The file of records that the writer takes is read back as they are.
pub read_written : (records : List Record) → All (λ (r : Record). fits r ≡ true) records
    → records_in (file records) ≡ found records []
read_written = records_read

-- Whatever the reader gives back, the writer takes, and the bytes are their file.
pub written_read : (bytes rest : List ℕ) (records : List Record) → All (λ (b : ℕ). b < 256) bytes
    → records_in bytes ≡ found records rest
    → (rest ≡ []) × All (λ (r : Record). fits r ≡ true) records × (bytes ≡ file records)
written_read bytes rest records all e =
    let so = records_written bytes all e in (so.none_left, so.fit, so.are)

-- The writer says 13 exactly for a record that the reader gives back of no bytes.
pub thirteen_exactly : (r : Record)
    → (written r ≡ none)
    ↔ ((bytes : List ℕ) → All (λ (b : ℕ). b < 256) bytes → records_in bytes ≡ found (r ∷ []) [] → ⊥)
thirteen_exactly r = (
  (λ thirteen bytes all e. never_none r (records_written bytes all e).fit.0 thirteen),
  (λ never.
      split (fits r)
      (λ (yes-so : fits r ≡ true).
      absurd (never (file (r ∷ [])) (file_bytes (r ∷ []) (yes-so, tt)) (records_read (r ∷ []) (yes-so, tt))))
      (λ (no-so : fits r ≡ false). rw no-so)),
)

-- Bytes begin with one record at most: no record's bytes begin another's.
pub prefix_free : (r s : Record) (more rest : List ℕ) → fits r ≡ true → fits s ≡ true
    → bytes_of r ++ more ≡ bytes_of s ++ rest → (r ≡ s) × (more ≡ rest)
prefix_free r s more rest p q e =
    let same : found r more ≡ found s rest = sym (record_read r more p) ∙ ap record_in e ∙ record_read s rest q in
    (cc, cc)

-- Two lists of records have two files: those with the same file are the same.
pub one_file : (records others : List Record) → All (λ (r : Record). fits r ≡ true) records
    → All (λ (r : Record). fits r ≡ true) others → file records ≡ file others → records ≡ others
one_file records others p q e =
    let same : found records [] ≡ found others [] =
    sym (records_read records p) ∙ ap records_in e ∙ records_read others q in
    cc

-- A record that is cut anywhere is told as cut.
pub cut_found : (r : Record) (front : List ℕ) (b : ℕ) (more : List ℕ) → fits r ≡ true
    → bytes_of r ≡ front ++ (b ∷ more) → (rest : List ℕ) × (record_in front ≡ bad cut rest)
cut_found = cut_record

-- A file that is cut anywhere begins with whole records, and then it ends or the next is told as cut.
pub cut_anywhere : (records : List Record) (front more : List ℕ) → All (λ (r : Record). fits r ≡ true) records
    → file records ≡ front ++ more
    → (whole : List Record) × (others : List Record) × (part : List ℕ) × (records ≡ whole ++ others)
    × (front ≡ file whole ++ part) × ((part ≡ []) ⊎ ((rest : List ℕ) × (step part ≡ stopped cut rest)))
cut_anywhere = cut_file

-- A record has at most 488 bytes.
pub most_bytes_lem : (r : Record) → fits r ≡ true → length (bytes_of r) ≤ 488
most_bytes_lem = record_length
