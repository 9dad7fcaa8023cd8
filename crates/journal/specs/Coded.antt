-- The record of the definitions that each record of the code is.
use Rattle.std.specs.Prelude.{ℕ, zero, suc, ◌+◌, ◌*◌, cond, List, [], ◌∷◌, eqb}
use Rattle.std.proofs.Math.Option.{Option, none, some}
use Rattle.bitset.specs.Bitset.{members}
use Rattle.protocol.specs.Calls.{operation_words}
use Rattle.journal.specs.Groups as groups
use Rattle.journal.specs.Records as model
use Rattle.journal.specs.Records.{arguments_of, is_batch, has_reply, wait_code, answered_code}
use Rattle.journal.specs.declared.Record.{Record}
use Rattle.journal.specs.declared.Cause.{Cause}
use Rattle.journal.specs.declared.Cause.TheVariants.{Cut, Letter, Code, Owners, List as Listed, Batch, LongForm}
use Rattle.journal.specs.declared.Cause.TheVariants.{Width}

-- So many of an array's numbers, 0 past its end.
abbrev pub front : ℕ → List ℕ → List ℕ
front zero numbers = []
front (suc n) [] = 0 ∷ front n []
front (suc n) (first ∷ numbers) = first ∷ front n numbers

abbrev pub or_zero : Option ℕ → ℕ
or_zero none = 0
or_zero (some n) = n

-- How many arguments a letter has, with so many operations where it is a batch's.
abbrev pub argument_count : ℕ → ℕ → ℕ
argument_count letter operations = or_zero (arguments_of letter) + cond (is_batch letter)
    (operation_words * operations) 0

-- How many numbers the answers have.
abbrev pub answer_count : ℕ → ℕ → ℕ
answer_count letter operations = 2 * cond (is_batch letter) operations 1

abbrev pub reply_of : Record → model.Reply
reply_of r =
    cond (has_reply r.letter)
    (cond (eqb r.code wait_code) (model.wait (members r.owners))
    (cond (eqb r.code answered_code) (model.answered (front (answer_count r.letter r.operations) r.numbers))
    (model.ended r.code (front r.listed r.numbers))))
    model.nothing

abbrev pub record_of : Record → model.Record
record_of r =
    model.recorded r.letter (front (argument_count r.letter r.operations) r.arguments) (reply_of r)

abbrev pub cause_of : Cause → groups.Cause
cause_of Cut = groups.cut
cause_of Letter = groups.letter
cause_of Code = groups.code
cause_of Owners = groups.owners
cause_of Listed = groups.list
cause_of Batch = groups.batch
cause_of LongForm = groups.long_form
cause_of Width = groups.width
