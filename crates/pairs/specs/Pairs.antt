-- What the tables of `pairs` say.
use Rattle.std.specs.Prelude.{ℕ, ◌+◌, ◌-◌, ◌<◌, ◌≡◌, Bool, false, List, map, get_or}
use Rattle.std.proofs.Math.Option.{Option, none, some}
use Rattle.operations.specs.Operations as model
use Rattle.operations.specs.PairRules.{Rule, always, never, apart, equal, agreeing, Rules, allows, rule_at}
use Rattle.operations.specs.PairRules.{first_number, last_number, OfKind, kind_numbered, recoverable_rules}
use Rattle.operations.specs.PairRules.{commuting_rules}
use Rattle.operations.specs.declared.Operation.{Operation}
use Rattle.operations.specs.Stored.{operation_of}
use Rattle.pairs.specs.declared.Tables.{Tables}

-- The code of a rule in the tables.
abbrev pub code_of : Rule → ℕ
code_of never = 0
code_of always = 1
code_of apart = 2
code_of equal = 3
code_of agreeing = 4

abbrev pub code_at : Rules → ℕ → ℕ → ℕ
code_at rules requested logged = code_of (rule_at rules requested logged)

-- A rule that goes by the keys alone, as all of the recoverable tables do.
abbrev pub ByKeys : Rule → Type 0
ByKeys always = Unit {0}
ByKeys never = Unit {0}
ByKeys apart = Unit {0}
ByKeys equal = ⊥
ByKeys agreeing = ⊥

-- A rule's test of two keys, as of two operations that have them.
abbrev pub allows_keys : Rule → ℕ → ℕ → Bool
allows_keys rule requested logged =
    allows rule (model.on_set (model.member requested)) (model.on_set (model.member logged))

abbrev pub OneKind : Operation → Operation → Type 0
OneKind requested logged = (kind : model.Kind) × OfKind kind requested.number × OfKind kind logged.number

-- A relation of two operations, asked of those that the numbers name.
abbrev pub both : (model.Operation → model.Operation → Bool) → Option model.Operation → Option model.Operation → Bool
both holds none logged = false
both holds (some requested) none = false
both holds (some requested) (some logged) = holds requested logged

abbrev pub pair_of : (model.Operation → model.Operation → Bool) → Operation → Operation → Bool
pair_of holds requested logged = both holds (operation_of requested) (operation_of logged)

-- ---- Operations by number

-- The first and the last number of a number's kind.
abbrev pub first_of : ℕ → ℕ
first_of number = first_number (kind_numbered number)

abbrev pub last_of : ℕ → ℕ
last_of number = last_number (kind_numbered number)

-- Its place among the operations of its kind.
abbrev pub column_of : ℕ → ℕ
column_of number = number - first_of number

-- How many operations its kind has.
abbrev pub width_of : ℕ → ℕ
width_of number = last_of number + 1 - first_of number

-- The codes for a requested operation, one for each logged one of its kind.
abbrev pub RowOf : (model.Kind → Rules) → ℕ → List ℕ → Type 0
RowOf rules requested row =
    (m : ℕ) → m < width_of requested → get_or row m 0 ≡ code_at (rules (kind_numbered requested))
    (column_of requested) m

-- The three tables have the codes of the rules.
abbrev pub HaveCodes : (model.Kind → Rules) → Tables → Type 0
HaveCodes rules tables =
    (tables.stack ≡ map (map code_of) (rules model.Stack)) × (tables.set ≡ map (map code_of) (rules model.Set))
    × (tables.table ≡ map (map code_of) (rules model.Table))

-- Its rows in both tables.
abbrev pub RowsOf : ℕ → List ℕ → List ℕ → Type 0
RowsOf requested recoverable commuting =
    RowOf recoverable_rules requested recoverable × RowOf commuting_rules requested commuting

-- A row of three codes, filled up.
abbrev pub Filled : List ℕ → List ℕ → Type 0
Filled row r = (m : ℕ) → m < 3 → get_or r m 0 ≡ get_or row m 0
