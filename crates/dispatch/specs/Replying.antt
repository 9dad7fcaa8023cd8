-- What the functions of the code leave.
use Rattle.std.specs.Prelude as code
use Rattle.std.specs.Prelude.{ℕ, ◌≡◌, true, List, [], ◌∷◌, ◌++◌, Some, None}
use Prim.Native.Char.{code as char}
use Rattle.arrayvec.specs.ArrayVec.{ArrayVec}
use Rattle.operations.specs.Operations.{All}
use Rattle.journal.specs.Records.{Record, file, fits}
use Rattle.dispatch.specs.Served.{LineServed}
use Rattle.dispatch.specs.declared.Output.{Output}

-- The most bytes of a reply: `answer` and the answers of a batch. With its line feed it has one more.
abbrev pub most_reply : ℕ
most_reply = 358

abbrev pub most_printed : ℕ
most_printed = 359

-- The most bytes of a record.
abbrev pub most_recorded : ℕ
most_recorded = 488

-- The bytes of a record, where there is one.
abbrev pub bytes_kept : code.Option (ArrayVec ℕ) → List ℕ
bytes_kept None = []
bytes_kept (Some bytes) = bytes.items

-- These are the records that were kept, and each fits.
pub record Kept (records : List Record) (kept : code.Option (ArrayVec ℕ)) : Type 0 where
  pub bytes : bytes_kept kept ≡ file records
  pub fit : All (λ r. fits r ≡ true) records

-- A line was served: its reply with a line feed, and its record, no bytes where it has none.
pub record Answered (a : LineServed) (book : List ℕ) (output : Output) : Type 0 where
  pub left : book ≡ a.book
  pub text : output.reply.items ≡ a.text ++ (char "\n" ∷ [])
  pub kept : Kept a.records (Some output.record)
