-- Document 01, "Script program", and 02, No. 2: a line of a script as a call.
use Rattle.std.specs.Prelude.{ℕ, ◌-◌, cond, not, ◌&&◌, List, [], ◌∷◌, ◌++◌, eqb, leb, length, get_or, replicate}
use Prim.Native.Char.{code}
use Rattle.std.proofs.Math.Option.{Option, none, some}
use Rattle.store.specs.Store.{object_count, list_length}
use Rattle.protocol.specs.Calls.{some_above, too_many}
use Rattle.protocol.specs.Call.{Call, set_up, begin, operate, batch, finish, cancel}
use Rattle.text.specs.Text.{split, number_in}

-- The list that finish and cancel are lent.
abbrev pub lent : List ℕ
lent = replicate list_length 0

abbrev pub with_first : Option ℕ → Option (List ℕ) → Option (List ℕ)
with_first none numbers = none
with_first (some n) none = none
with_first (some n) (some numbers) = some (n ∷ numbers)

-- The numbers that fields say, where each says one.
abbrev pub numbers_in : List (List ℕ) → Option (List ℕ)
numbers_in [] = some []
numbers_in (field ∷ fields) = with_first (number_in field) (numbers_in fields)

-- A call that takes so many arguments.
abbrev pub with_count : ℕ → List ℕ → Call → Option Call
with_count n arguments call = cond (eqb (length arguments) n) (some call) none

-- Up to 16 kinds, each at most 255; missing ones are 0.
abbrev pub set_up_of : List ℕ → Option Call
set_up_of kinds =
    cond (leb (length kinds) object_count && not (some_above 255 kinds))
    (some (set_up (kinds ++ replicate (object_count - length kinds) 0))) none

-- A transaction, then up to 16 operations, four numbers for each.
abbrev pub batch_of : List ℕ → Option Call
batch_of [] = none
batch_of (t ∷ operations) = cond (too_many operations) none (some (batch t operations))

-- The call of a letter, with these arguments.
abbrev pub asked : ℕ → List ℕ → Option Call
asked letter arguments =
    let argument : ℕ → ℕ = λ i. get_or arguments i 0 in
    cond (eqb letter (code "S")) (set_up_of arguments)
    (cond (eqb letter (code "B")) (with_count 1 arguments (begin (argument 0)))
    (cond (eqb letter (code "I"))
    (with_count 5 arguments (operate (argument 0) (argument 1) (argument 2) (argument 3) (argument 4)))
    (cond (eqb letter (code "G")) (batch_of arguments)
    (cond (eqb letter (code "F")) (with_count 1 arguments (finish (argument 0) lent))
    (cond (eqb letter (code "C")) (with_count 1 arguments (cancel (argument 0) lent))
    none)))))

abbrev pub asked_with : ℕ → Option (List ℕ) → Option Call
asked_with letter none = none
asked_with letter (some arguments) = asked letter arguments

-- The first field is a letter alone, the others are numbers.
abbrev pub call_of_fields : List (List ℕ) → Option Call
call_of_fields [] = none
call_of_fields ([] ∷ fields) = none
call_of_fields ((letter ∷ []) ∷ fields) = asked_with letter (numbers_in fields)
call_of_fields ((letter ∷ b ∷ word) ∷ fields) = none

-- The call that a line, without its line feed, stands for. One space stands between fields.
unfoldable pub call_in : List ℕ → Option Call
call_in line = call_of_fields (split (code " ") line)
