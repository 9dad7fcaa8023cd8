-- What the reader's parts read and keep.
use Rattle.std.specs.Prelude.{ℕ, ◌≡◌, cond, List}
use Rattle.journal.specs.Groups.{Read, found, bad, then, code, number}
use Rattle.journal.specs.Records.{gives}
use Rattle.journal.specs.declared.Record.{Record}

-- A reply code that calls of the letter give.
abbrev pub code_in : ℕ → List ℕ → Read ℕ
code_in letter bytes =
    then (number bytes) (λ replyCode rest. cond (gives letter replyCode) (found replyCode rest) (bad code bytes))

-- A reply that is read leaves the call as it was.
abbrev pub SameCall : Record → Record → Type 0
SameCall old new = (new.letter ≡ old.letter) × (new.operations ≡ old.operations) × (new.arguments ≡ old.arguments)
