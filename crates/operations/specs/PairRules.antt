-- Document 01, "Pair rules": a requested operation against one already logged, on one object; the commuting tables as
-- document 02, No. 5, refines them.
use Rattle.std.specs.Prelude.{ℕ, ◌-◌, ◌≤◌, ◌≡◌, Bool, true, false, not, cond, ◌&&◌, ◌||◌, List, [], ◌∷◌, eqb, leb}
use Rattle.std.specs.Prelude.{get_or}
use Rattle.operations.specs.Operations.{Kind, Stack, Set, Table, Row, Operation, kind_of, number_of, key_of}
use Rattle.operations.specs.Operations.{value_of, next, answer, WellFormed}

-- What a table says of a pair: yes; no; yes where the keys differ ("apart"); yes where the items are equal; yes where
-- the keys differ or the values are equal.
pub data Rule : Type 0 where
  always never apart equal agreeing : Rule

-- Whether a rule says yes, by whether the two keys (of a stack, items) and the two values are the same.
abbrev pub says : Rule → (same_key same_value : Bool) → Bool
says always same_key same_value = true
says never same_key same_value = false
says apart same_key same_value = not same_key
says equal same_key same_value = same_key
says agreeing same_key same_value = not same_key || same_value

-- Whether it says yes to a requested and a logged operation; keys and values are compared as stored.
abbrev pub allows : Rule → Operation → Operation → Bool
allows rule requested logged =
    says rule (eqb (key_of requested) (key_of logged)) (eqb (value_of requested) (value_of logged))

-- A row for each requested operation, in it an entry for each logged one, both in the order of their numbers.
abbrev pub Rules : Type 0
Rules = List (List Rule)

-- ---- Recoverable: the requested operation's answer is the same from every state, whether or not the logged one ran

-- push, pop, top (figure 1b)
abbrev pub stack_recoverable : Rules
stack_recoverable =
    (always ∷ always ∷ always ∷ [])  -- push against
    ∷ (never ∷ never ∷ always ∷ [])  -- pop against
    ∷ (never ∷ never ∷ always ∷ [])  -- top against
    ∷ []

-- insert, delete, member (figure 2b)
abbrev pub set_recoverable : Rules
set_recoverable =
    (always ∷ always ∷ always ∷ [])  -- insert against
    ∷ (apart ∷ apart ∷ always ∷ [])  -- delete against
    ∷ (apart ∷ apart ∷ always ∷ [])  -- member against
    ∷ []

-- insert, delete, lookup, size, modify (figure 3b)
abbrev pub table_recoverable : Rules
table_recoverable =
    (apart ∷ apart ∷ always ∷ always ∷ always ∷ [])  -- insert against
    ∷ (apart ∷ apart ∷ always ∷ always ∷ always ∷ [])  -- delete against
    ∷ (apart ∷ apart ∷ always ∷ always ∷ apart ∷ [])  -- lookup against
    ∷ (never ∷ never ∷ always ∷ always ∷ always ∷ [])  -- size against
    ∷ (apart ∷ apart ∷ always ∷ always ∷ always ∷ [])  -- modify against
    ∷ []

-- ---- Commuting: the same answers and the same state either way round, from every state

-- push, pop, top (figure 1a, with its Yes-SP for two pushes)
abbrev pub stack_commuting : Rules
stack_commuting =
    (equal ∷ never ∷ never ∷ [])  -- push with
    ∷ (never ∷ never ∷ never ∷ [])  -- pop with
    ∷ (never ∷ never ∷ always ∷ [])  -- top with
    ∷ []

-- insert, delete, member (figure 2a)
abbrev pub set_commuting : Rules
set_commuting =
    (always ∷ apart ∷ apart ∷ [])  -- insert with
    ∷ (apart ∷ apart ∷ apart ∷ [])  -- delete with
    ∷ (apart ∷ apart ∷ always ∷ [])  -- member with
    ∷ []

-- insert, delete, lookup, size, modify (figure 3a, but for two modifies of one key with one value)
abbrev pub table_commuting : Rules
table_commuting =
    (apart ∷ apart ∷ apart ∷ never ∷ apart ∷ [])  -- insert with
    ∷ (apart ∷ apart ∷ apart ∷ never ∷ apart ∷ [])  -- delete with
    ∷ (apart ∷ apart ∷ always ∷ always ∷ apart ∷ [])  -- lookup with
    ∷ (never ∷ never ∷ always ∷ always ∷ always ∷ [])  -- size with
    ∷ (apart ∷ apart ∷ apart ∷ always ∷ agreeing ∷ [])  -- modify with
    ∷ []

-- ---- The two relations

abbrev pub recoverable_rules : Kind → Rules
recoverable_rules Stack = stack_recoverable
recoverable_rules Set = set_recoverable
recoverable_rules Table = table_recoverable

abbrev pub commuting_rules : Kind → Rules
commuting_rules Stack = stack_commuting
commuting_rules Set = set_commuting
commuting_rules Table = table_commuting

-- The number of a kind's first operation.
abbrev pub first_number : Kind → ℕ
first_number Stack = 1
first_number Set = 4
first_number Table = 7

-- The number of its last.
abbrev pub last_number : Kind → ℕ
last_number Stack = 3
last_number Set = 6
last_number Table = 11

-- The number is that of an operation of the kind,
abbrev pub OfKind : Kind → ℕ → Type 0
OfKind kind number = (first_number kind ≤ number) × (number ≤ last_number kind)

-- and of any.
abbrev pub Numbered : ℕ → Type 0
Numbered number = (first_number Stack ≤ number) × (number ≤ last_number Table)

-- The kind of the operation that a number names.
unfoldable pub kind_numbered : ℕ → Kind
kind_numbered number = cond (leb number (last_number Stack)) Stack (cond (leb number (last_number Set)) Set Table)

-- The entry at a row and a column, counted from 0.
abbrev pub rule_at : Rules → ℕ → ℕ → Rule
rule_at rules requested logged = get_or (get_or rules requested []) logged never

-- What the tables say of two operations of one kind; of two kinds nothing is meant.
abbrev pub rule_for : (Kind → Rules) → Operation → Operation → Rule
rule_for rules requested logged =
    let first = first_number (kind_of requested) in
    rule_at (rules (kind_of requested)) (number_of requested - first) (number_of logged - first)

-- The relation that tables of the three kinds define.
abbrev pub related : (Kind → Rules) → Operation → Operation → Bool
related rules requested logged = allows (rule_for rules requested logged) requested logged

abbrev pub recoverable : Operation → Operation → Bool
recoverable = related recoverable_rules

abbrev pub commutes : Operation → Operation → Bool
commutes = related commuting_rules

-- Each is recoverable against the other, yet rows tell which came last: two pushes of different items, or two modifies
-- of one key with different values. No other pair is meant. By their numbers, and whether keys and values are the same,
abbrev pub rewriting : (requested logged : ℕ) (same_key same_value : Bool) → Bool
rewriting requested logged same_key same_value =
    (eqb requested 1 && (eqb logged 1 && not same_key))
    || (eqb requested 11 && (eqb logged 11 && (same_key && not same_value)))

-- and of two operations.
abbrev pub rewrites : Operation → Operation → Bool
rewrites requested logged =
    rewriting (number_of requested) (number_of logged) (eqb (key_of requested) (key_of logged))
    (eqb (value_of requested) (value_of logged))

-- From these rows either order of the two reaches the same rows, and gives each the same answer.
abbrev pub EitherOrder : Operation → Operation → List Row → Type 0
EitherOrder o p rs =
    (next o (next p rs) ≡ next p (next o rs)) × (answer o (next p rs) ≡ answer o rs)
    × (answer p (next o rs) ≡ answer p rs)

-- From some rows of the kind's form it does not: they show the order.
abbrev pub OrderShows : (ℕ → ℕ) → Operation → Operation → Type 0
OrderShows reduce o p = (rs : List Row) × WellFormed reduce (kind_of o) rs × (EitherOrder o p rs → ⊥)
