-- The parts of a record that the code makes: of its call, and of its reply.
use Rattle.std.specs.Prelude as code
use Rattle.std.specs.Prelude.{ℕ, ◌/◌, ◌≡◌, List, [], ◌∷◌, length, MatchOption}
use Rattle.protocol.specs.Call as model
use Rattle.protocol.specs.Calls.{operation_words}
use Rattle.codes.specs.declared.Numbers.{Numbers}
use Rattle.journal.specs.Coded.{front}
use Rattle.journal.specs.declared.Record.{Record}
use Rattle.recording.specs.Recording.{letter_of, arguments_asked}

-- How many operations the code counts: those of a batch alone.
abbrev pub operations_asked : model.Call → ℕ
operations_asked (model.set_up kinds) = 0
operations_asked (model.begin t) = 0
operations_asked (model.operate t o number k v) = 0
operations_asked (model.batch t operations) = length operations / operation_words
operations_asked (model.finish t list) = 0
operations_asked (model.cancel t list) = 0
operations_asked (model.contents o) = 0

-- An array begins with these numbers.
abbrev pub Begins : List ℕ → List ℕ → Type 0
Begins first numbers = front (length first) numbers ≡ first

-- A record has this letter, so many operations, and these arguments.
pub record Named (byte count : ℕ) (asked : List ℕ) (r : Record) : Type 0 where
  pub letter : r.letter ≡ byte
  pub operations : r.operations ≡ count
  pub arguments : Begins asked r.arguments

abbrev pub Called : model.Call → Record → Type 0
Called call r = Named (letter_of call) (operations_asked call) (arguments_asked call) r

-- The numbers behind a reply code: an answer's, where it is 1; of any other, a list.
pub record NumbersPut (told : Numbers) (list numbers : List ℕ) : Type 0 where
  pub answer : told.code ≡ 1 → Begins (told.answer ∷ told.value ∷ []) numbers
  pub others : (told.code ≡ 1 → ⊥) → Begins list numbers

-- A call's part of a record, with a reply's numbers.
pub record With (call : Record) (told : Numbers) (count : ℕ) (behind : List ℕ) (r : Record) : Type 0 where
  pub accepted : told.refusal ≡ 0
  pub letter : r.letter ≡ call.letter
  pub operations : r.operations ≡ call.operations
  pub arguments : r.arguments ≡ call.arguments
  pub code : r.code ≡ told.code
  pub owners : r.owners ≡ told.owners
  pub listed : r.listed ≡ count
  pub numbers : r.numbers ≡ behind

-- A call that is refused has none.
abbrev pub Completed : Record → Numbers → ℕ → List ℕ → code.Option Record → Type 0
Completed call told count behind r = MatchOption r (told.refusal ≡ 0 → ⊥) (With call told count behind)
