-- 02, No. 3: what a reader gives back of any bytes: records, or 13.
use Rattle.std.specs.Prelude.{ℕ, zero, suc, ◌+◌, ◌*◌, cond, ◌&&◌, List, [], ◌∷◌, ◌++◌, eqb, ltb, leb, length}
use Rattle.std.proofs.Math.Option.{Option, none, some}
use Rattle.store.specs.Store.{transaction_count, list_length}
use Rattle.protocol.specs.Calls.{operation_words, batch_limit}
use Rattle.journal.specs.Groups.{Cause, list, batch, owners, letter, code, cut}
use Rattle.journal.specs.Groups.{Read, found, bad, then, number, numbers}
use Rattle.journal.specs.Records.{arguments_of, is_batch, has_reply, wait_code, answered_code, gives, operations_of}
use Rattle.journal.specs.Records.{Reply, nothing, wait, answered, ended, Record, recorded}

-- How many follow: at most so many.
abbrev pub count : ℕ → Cause → List ℕ → Read ℕ
count most past bytes = then (number bytes) (λ n rest. cond (leb n most) (found n rest) (bad past bytes))

-- So many owners, ascending from a least one on.
abbrev pub owners_from : ℕ → ℕ → List ℕ → Read (List ℕ)
owners_from zero least bytes = found [] bytes
owners_from (suc n) least bytes =
    then (number bytes)
    (λ owner rest.
    cond (leb least owner && ltb owner transaction_count)
    (then (owners_from n (owner + 1) rest) (λ others left. found (owner ∷ others) left)) (bad owners bytes))

-- A list behind its count.
abbrev pub list_in : List ℕ → Read (List ℕ)
list_in bytes = then (count list_length list bytes) numbers

-- Operations behind their count, four numbers for each.
abbrev pub operations_in : List ℕ → Read (List ℕ)
operations_in bytes = then (count batch_limit batch bytes) (λ n rest. numbers (operation_words * n) rest)

-- The arguments that stand behind a letter; a byte that is no letter is turned away.
abbrev pub arguments_in : ℕ → Option ℕ → List ℕ → Read (List ℕ)
arguments_in first none bytes = bad letter (first ∷ bytes)
arguments_in first (some n) bytes =
    then (numbers n bytes)
    (λ arguments rest.
    cond (is_batch first)
    (then (operations_in rest) (λ operations left. found (arguments ++ operations) left))
    (found arguments rest))

-- What stands behind a reply code.
abbrev pub reply_of : ℕ → ℕ → List ℕ → Read Reply
reply_of operations replyCode bytes =
    cond (eqb replyCode wait_code)
    (then (count list_length list bytes)
    (λ n rest. then (owners_from n 0 rest) (λ waited left. found (wait waited) left)))
    (cond (eqb replyCode answered_code)
    (then (numbers (2 * operations) bytes) (λ answers left. found (answered answers) left))
    (then (list_in bytes) (λ listed left. found (ended replyCode listed) left)))

abbrev pub reply_in : ℕ → ℕ → List ℕ → Read Reply
reply_in first operations bytes =
    cond (has_reply first)
    (then (number bytes)
    (λ replyCode rest. cond (gives first replyCode) (reply_of operations replyCode rest) (bad code bytes)))
    (found nothing bytes)

-- The record that begins the bytes.
unfoldable pub record_in : List ℕ → Read Record
record_in [] = bad cut []
record_in (first ∷ bytes) =
    then (arguments_in first (arguments_of first) bytes)
    (λ arguments rest.
    then (reply_in first (operations_of first arguments) rest)
    (λ reply left. found (recorded first arguments reply) left))

-- A step of the reader: the next record, the end, or 13.
pub data Step : Type 0 where
  next : (r : Record) (rest : List ℕ) → Step
  end : Step
  stopped : (cause : Cause) (rest : List ℕ) → Step

abbrev pub step_of : Read Record → Step
step_of (found r rest) = next r rest
step_of (bad cause rest) = stopped cause rest

abbrev pub step : List ℕ → Step
step [] = end
step (b ∷ bytes) = step_of (record_in (b ∷ bytes))

-- A step, and what is read behind its record.
abbrev pub continued : Step → (List ℕ → Read (List Record)) → Read (List Record)
continued (next r rest) more = then (more rest) (λ records left. found (r ∷ records) left)
continued end more = found [] []
continued (stopped cause rest) more = bad cause rest

abbrev pub records_within : ℕ → List ℕ → Read (List Record)
records_within zero bytes = bad cut bytes
records_within (suc k) bytes = continued (step bytes) (λ rest. records_within k rest)

-- All records of a file, or 13. Each takes a byte at least.
unfoldable pub records_in : List ℕ → Read (List Record)
records_in bytes = records_within (suc (length bytes)) bytes
