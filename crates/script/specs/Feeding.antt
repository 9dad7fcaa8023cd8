-- What the functions of the code leave.
use Rattle.std.specs.Prelude.{ℕ, ◌+◌, ◌-◌, ◌≤◌, ◌≡◌, true, ◌⊎◌, List, [], ◌∷◌, ◌++◌, length, take, drop}
use Prim.Native.Char.{code}
use Rattle.text.specs.Fields.{Put}
use Rattle.operations.specs.Operations.{All}
use Rattle.journal.specs.Records.{file, fits}
use Rattle.dispatch.specs.Served.{LineServed}
use Rattle.dispatch.specs.Replying.{most_printed, most_recorded}
use Rattle.script.specs.declared.Ends.{Ends}
use Rattle.script.specs.Script.{texts, records, as_lines}
use Rattle.script.specs.Sessions.{line_kept, Session, session, Turn, taken}
use Rattle.script.specs.declared.Progress.{Progress}

-- A line was served: its reply put at a place of a buffer, with a line feed, and its record, which fits, at a place of
-- another.
pub record LinePut (a : LineServed) (book out : List ℕ) (at : ℕ) (printed journal : List ℕ) (behind : ℕ)
    (recorded : List ℕ) (ends : Ends) : Type 0 where
  pub left : book ≡ a.book
  pub put : Put out at (a.text ++ (code "\n" ∷ [])) printed ends.written
  pub few : ends.written ≤ at + most_printed
  pub kept : Put journal behind (file a.records) recorded ends.recorded
  pub fit : All (λ r. fits r ≡ true) a.records
  pub short : ends.recorded ≤ behind + most_recorded

-- Lines were served: their replies put at a place of a buffer, and their records, which fit, at a place of another.
pub record Issued (served : List LineServed) (out : List ℕ) (at : ℕ) (printed : List ℕ) (end : ℕ) (journal : List ℕ)
    (behind : ℕ) (recorded : List ℕ) (last : ℕ) : Type 0 where
  pub put : Put out at (as_lines (texts served)) printed end
  pub kept : Put journal behind (file (records served)) recorded last
  pub fit : All (λ r. fits r ≡ true) (records served)

-- A line or the input has ended.
abbrev pub Turned : Turn → List ℕ → List ℕ → List ℕ → List ℕ → List ℕ → Ends → Type 0
Turned t book out printed journal recorded ends =
    (book ≡ t.after.book) × Issued t.ended out 0 printed ends.written journal 0 recorded ends.recorded

-- An array for a line, and how many bytes of it are kept there.
abbrev pub KeptIn : List ℕ → ℕ → Type 0
KeptIn line kept = (length line ≡ line_kept) × (kept ≤ line_kept)

-- The same with buffers that have room for a reply and a record.
abbrev pub Buffers : List ℕ → ℕ → List ℕ → List ℕ → Type 0
Buffers line kept out journal =
    KeptIn line kept × (most_printed ≤ length out) × (most_recorded ≤ length journal)

-- The bytes from one place to another.
abbrev pub chunk : List ℕ → ℕ → ℕ → List ℕ
chunk block from to = take (to - from) (drop from block)

-- More of a line is kept. What the array holds behind that is free.
abbrev pub Kept : List ℕ → List ℕ → List ℕ → ℕ → Type 0
Kept line part after kept = KeptIn after kept × (take kept after ≡ take line_kept (line ++ part))

-- There is room for another line's reply and record.
abbrev pub Room : List ℕ → List ℕ → Progress → Type 0
Room out journal p =
    (p.written + most_printed ≤ length out) × (p.recorded + most_recorded ≤ length journal)

-- A block was taken from one place to another, and what that issues put behind what was. How far it was taken is left
-- to the code.
pub record Took (s : Session) (block : List ℕ) (from : Progress) (book line out printed journal recorded : List ℕ)
    (to : Progress) : Type 0 where
  pub forward : from.at ≤ to.at
  pub within : to.at ≤ length block
  pub few : to.kept ≤ line_kept
  pub left : (taken s (chunk block from.at to.at)).after ≡ session book (take to.kept line)
  pub issued : Issued (taken s (chunk block from.at to.at)).ended out from.written printed to.written
      journal from.recorded recorded to.recorded
  pub fits : (to.written ≤ length out) × (to.recorded ≤ length journal)

abbrev pub begun : ℕ → Progress
begun kept = record { at = 0; kept = kept; written = 0; recorded = 0 }

-- All of a block was taken, or a buffer has less room than a line may need.
abbrev pub Stopped : List ℕ → List ℕ → List ℕ → Progress → Type 0
Stopped block out journal p = (p.at ≡ length block) ⊎ (Room out journal p → ⊥)

-- The program, up to where it waits for input: from a session, with what is left of the block that it read last and the
-- blocks that it reads after that; what it prints, what it appends to the journal, and the session left.
pub data Fed : Session → List ℕ → List (List ℕ) → List ℕ → List ℕ → Session → Type 0 where
  waits : {s : Session} → Fed s [] [] [] [] s
  -- A block is read where nothing is left of the one before.
  reads : {s left : Session} {block printed appended : List ℕ} {blocks : List (List ℕ)}
      → Fed s block blocks printed appended left
      → Fed s [] (block ∷ blocks) printed appended left
  -- `feed` is called with what is left of the block, and the front of the one buffer appended to the journal, then that
  -- of the other printed. The next call goes on where this one ended.
  feeds : {s left : Session} {block book line out after journal recorded printed appended : List ℕ}
      {blocks : List (List ℕ)} {kept : ℕ} {p : Progress}
      → Took s block (begun kept) book line out after journal recorded p
      → Fed (session book (take p.kept line)) (drop p.at block) blocks printed appended left
      → Fed s block blocks (take p.written after ++ printed) (take p.recorded recorded ++ appended) left
