-- 02, No. 3: a record of the journal as a value and as bytes, a file of records, and what a writer says.
use Rattle.std.specs.Prelude.{ℕ, ◌+◌, ◌*◌, ◌-◌, ◌/◌, ◌%◌, Bool, true, false, cond, not, ◌&&◌, ◌||◌, List, [], ◌∷◌, ◌++◌}
use Rattle.std.specs.Prelude.{eqb, ltb, leb, length, take, drop}
use Prim.Native.Char.{code}
use Rattle.std.proofs.Math.Option.{Option, none, some}
use Rattle.store.specs.Store.{object_count, transaction_count, list_length}
use Rattle.protocol.specs.Calls.{operation_words, batch_limit}
use Rattle.journal.specs.Groups.{grouped, narrow}

-- ---- Letters

-- How many numbers stand behind a letter first: all 16 kinds of a set up, the arguments of a call; of a batch its
-- transaction. No other letter is one.
abbrev pub arguments_of : ℕ → Option ℕ
arguments_of letter =
    cond (eqb letter (code "S")) (some object_count)
    (cond (eqb letter (code "I")) (some 5)
    (cond (eqb letter (code "B") || eqb letter (code "G") || eqb letter (code "F") || eqb letter (code "C")) (some 1)
    none))

-- Operations, counted, follow the transaction.
abbrev pub is_batch : ℕ → Bool
is_batch letter = eqb letter (code "G")

-- Set up and begin have no reply code.
abbrev pub has_reply : ℕ → Bool
has_reply letter = not (eqb letter (code "S") || eqb letter (code "B"))

-- The reply codes,
abbrev pub wait_code : ℕ
wait_code = 0

abbrev pub answered_code : ℕ
answered_code = 1

abbrev pub finished_code : ℕ
finished_code = 2

abbrev pub committed_code : ℕ
committed_code = 3

abbrev pub circle_code : ℕ
circle_code = 4

abbrev pub cancelled_code : ℕ
cancelled_code = 5

-- and which a letter's calls give.
abbrev pub gives : ℕ → ℕ → Bool
gives letter replyCode =
    cond (eqb letter (code "I") || eqb letter (code "G")) (leb replyCode answered_code)
    (cond (eqb letter (code "F")) (leb finished_code replyCode && leb replyCode circle_code)
    (eqb letter (code "C") && eqb replyCode cancelled_code))

-- ---- Records

pub data Reply : Type 0 where
  -- of a set up or begin
  nothing : Reply
  wait : (owners : List ℕ) → Reply
  -- code and value of each operation in turn
  answered : (answers : List ℕ) → Reply
  -- any other reply code, with the list of those that committed
  ended : (replyCode : ℕ) (list : List ℕ) → Reply

-- A call by its letter and arguments, as a script's line has them, a set up's all 16, and its reply.
pub record Record : Type 0 where
  pub letter : ℕ
  -- of a batch, its transaction and four numbers for each operation
  pub arguments : List ℕ
  pub reply : Reply

abbrev pub recorded : ℕ → List ℕ → Reply → Record
recorded letter arguments reply = record { letter = letter; arguments = arguments; reply = reply }

-- How many operations an operate or a batch asks for.
abbrev pub operations_of : ℕ → List ℕ → ℕ
operations_of letter arguments = cond (is_batch letter) ((length arguments - 1) / operation_words) 1

-- ---- Bytes

-- The arguments as they are written: a batch's operations behind their count.
abbrev pub argument_numbers : ℕ → List ℕ → List ℕ
argument_numbers letter arguments =
    cond (is_batch letter) (take 1 arguments ++ (operations_of letter arguments ∷ drop 1 arguments)) arguments

-- The reply code, then a list behind its count; answers stand uncounted.
abbrev pub reply_numbers : Reply → List ℕ
reply_numbers nothing = []
reply_numbers (wait owners) = wait_code ∷ length owners ∷ owners
reply_numbers (answered answers) = answered_code ∷ answers
reply_numbers (ended replyCode list) = replyCode ∷ length list ∷ list

-- The numbers that stand behind the letter.
abbrev pub numbers_of : Record → List ℕ
numbers_of r = argument_numbers r.letter r.arguments ++ reply_numbers r.reply

unfoldable pub bytes_of : Record → List ℕ
bytes_of r = r.letter ∷ grouped (numbers_of r)

-- A file: the bytes of its records in turn.
abbrev pub file : List Record → List ℕ
file [] = []
file (r ∷ records) = bytes_of r ++ file records

-- ---- What can be written

-- Owners at most 63, each at least so large and above the one before it.
abbrev pub ascending : ℕ → List ℕ → Bool
ascending least [] = true
ascending least (owner ∷ owners) = leb least owner && ltb owner transaction_count && ascending (owner + 1) owners

-- As many arguments as the letter has; a batch has up to 16 operations, four numbers for each.
abbrev pub arguments_fit : ℕ → List ℕ → Option ℕ → Bool
arguments_fit letter arguments none = false
arguments_fit letter arguments (some count) =
    let more = length arguments - count in
    leb count (length arguments)
    && cond (is_batch letter) (eqb (more % operation_words) 0 && leb more (operation_words * batch_limit)) (eqb more 0)

-- A reply that calls of the letter give, with as many answers as operations, and a list of at most 64.
abbrev pub reply_fits : ℕ → List ℕ → Reply → Bool
reply_fits letter arguments nothing = not (has_reply letter)
reply_fits letter arguments (wait owners) = gives letter wait_code && leb (length owners) list_length
    && ascending 0 owners
reply_fits letter arguments (answered answers) =
    gives letter answered_code && eqb (length answers) (2 * operations_of letter arguments)
reply_fits letter arguments (ended replyCode list) =
    leb finished_code replyCode && gives letter replyCode && leb (length list) list_length

abbrev pub shaped : Record → Bool
shaped r =
    arguments_fit r.letter r.arguments (arguments_of r.letter) && reply_fits r.letter r.arguments r.reply

-- Nothing that error 13 names is in it: the letter, the reply code, owners, lists and batches are right, and no number
-- is past 32 bits. A longer form and a cut are of bytes alone. That there are as many arguments and answers as the
-- format has is of these values alone: the code's records have no others.
unfoldable pub fits : Record → Bool
fits r = shaped r && narrow (numbers_of r)

-- What the writer hands back: a record's bytes, or 13 and none.
abbrev pub written : Record → Option (List ℕ)
written r = cond (fits r) (some (bytes_of r)) none
