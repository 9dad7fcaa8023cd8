-- Kinds of the code: their numbers, and which of those of `operations` they are.
use Rattle.std.specs.Prelude.{ℕ, ◌<◌, ◌≡◌, Result, MatchResult}
use Rattle.std.proofs.Math.Option.{Option, none, some}
use Rattle.operations.specs.Operations as model
use Rattle.operations.specs.declared.Kind.{Kind}
use Rattle.operations.specs.declared.Kind.TheVariants.{None, Stack, Set, Table}
use Rattle.operations.specs.declared.UnknownKind.{UnknownKind}

-- The kind of operations and rows; `None` has neither.
abbrev pub kind_in_model : Kind → Option model.Kind
kind_in_model None = none
kind_in_model Stack = some model.Stack
kind_in_model Set = some model.Set
kind_in_model Table = some model.Table

-- Its number, as the book has it.
abbrev pub number_of_kind : Kind → ℕ
number_of_kind None = 0
number_of_kind Stack = 1
number_of_kind Set = 2
number_of_kind Table = 3

-- The kind that a number names; an error where it names none.
abbrev pub NamesKind : ℕ → Result Kind UnknownKind → Type 0
NamesKind number r = MatchResult r (λ kind. number_of_kind kind ≡ number) (λ e. 3 < number)
