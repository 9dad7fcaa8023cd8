-- Pairs of log entries that do not commute, or of which the later is not recoverable against the earlier, by index;
-- and sets of the owners of entries.
use Rattle.std.specs.Prelude.{ℕ, ◌+◌, ◌<◌, ◌≡◌, Bool, true, false, not, ◌&&◌, ◌||◌, cond, ◌⊎◌, List, [], eqb, length}
use Rattle.std.specs.Prelude.{get_or, ltb, Option, Some}
use Rattle.std.specs.Bool.{then_some}
use Rattle.dependencies.specs.declared.Blockers.{Blockers}
use Rattle.dependencies.specs.declared.Entry.{Entry}
use Rattle.dependencies.specs.declared.Rows.{Rows}
use Rattle.operations.specs.Operations.{Kind, Operation}
use Rattle.operations.specs.PairRules.{Rule, always, never, apart, equal, agreeing, Rules, rule_at}
use Rattle.operations.specs.PairRules.{Numbered, kind_numbered, recoverable, commutes, recoverable_rules}
use Rattle.operations.specs.PairRules.{commuting_rules}
use Rattle.bitset.specs.Bitset.{has, Members, In, Holds, Represents}
use Rattle.pairs.specs.Pairs.{first_of, column_of, width_of}
use Rattle.store.specs.Layout.{operation_at}
use Rattle.representatives.specs.Representatives.{entry_transaction, entry_object, entry_number, entry_key, entry_value}
use Rattle.representatives.specs.Representatives.{Alike, AlikeBy, First, FirstBy}

-- Some number below n is such.
abbrev pub SomeBelow : (ℕ → Type 0) → ℕ → Type 0
SomeBelow P n = (i : ℕ) × (i < n) × P i

-- ---- Pairs that fail

-- Entries i and j are of one object and of two transactions, and the relation does not hold of their operations.
pub record Fails (related : Operation → Operation → Bool) (w : List ℕ) (i j : ℕ) : Type 0 where
  pub object : entry_object w j ≡ entry_object w i
  pub other : entry_transaction w j ≡ entry_transaction w i → ⊥
  pub fails : related (operation_at w i) (operation_at w j) ≡ false

-- Transaction b has such an entry before entry i.
abbrev pub Bars : (Operation → Operation → Bool) → List ℕ → ℕ → ℕ → Type 0
Bars related w i b = SomeBelow (λ j. (entry_transaction w j ≡ b) × Fails related w i j) i

-- The owners of such entries, of both relations.
pub record Barred (w : List ℕ) (i : ℕ) (found : Blockers) : Type 0 where
  pub unrecoverables : Holds found.unrecoverable (Bars recoverable w i)
  pub conflictings : Holds found.conflicting (Bars commutes w i)

-- An entry of transaction a, below n, is barred by transaction b.
abbrev pub BarsBelow : (Operation → Operation → Bool) → List ℕ → ℕ → ℕ → ℕ → Type 0
BarsBelow related w n a b = SomeBelow (λ i. (entry_transaction w i ≡ a) × Bars related w i b) n

-- The owners that bar entries below n from being recoverable.
abbrev pub Unrecoverable : List ℕ → ℕ → ℕ → Type 0
Unrecoverable w n b = (a : ℕ) × BarsBelow recoverable w n a b

-- ---- What the rules pick

-- Where the owners of an operation's entries stand among those with their key; 4 where its key tells nothing.
unfoldable pub key_column : ℕ → ℕ
key_column number =
    cond (eqb number 1 || (eqb number 4 || (eqb number 7 || eqb number 8))) 0
    (cond (eqb number 5 || eqb number 9) 1 (cond (eqb number 6 || eqb number 11) 2 4))

-- What the rule for a requested operation and a logged one picks: of three sets, the owners of such entries on the
-- object, of those with the same key, and of those with another item or value.
abbrev pub picked : Rule → ℕ → ℕ → ℕ → ℕ
picked never whole same others = whole
picked always whole same others = 0
picked apart whole same others = same
picked equal whole same others = others
picked agreeing whole same others = others

abbrev pub picked_at : (Kind → Rules) → ℕ → List ℕ → List ℕ → ℕ → ℕ → ℕ
picked_at rules number whole same others m =
    picked (rule_at (rules (kind_numbered number)) (column_of number) m) (get_or whole m 0)
    (get_or same (key_column (first_of number + m)) 0) others

-- Transaction b is picked at a column below n.
abbrev pub Picked : (Kind → Rules) → ℕ → List ℕ → List ℕ → ℕ → ℕ → ℕ → Type 0
Picked rules number whole same others n b = SomeBelow (λ m. has (picked_at rules number whole same others m) b ≡ true) n

-- Those picked for a requested operation, by both tables of its kind.
pub record PickedBoth (number : ℕ) (whole same : List ℕ) (others : ℕ) (found : Blockers) : Type 0 where
  pub unrecoverables : Holds found.unrecoverable (Picked recoverable_rules number whole same others (width_of number))
  pub conflictings : Holds found.conflicting (Picked commuting_rules number whole same others (width_of number))

-- Two such pairs of sets, joined,
abbrev pub JoinedBoth : Blockers → Blockers → Blockers → Type 0
JoinedBoth some others r =
    Members r.unrecoverable (λ b. has some.unrecoverable b || has others.unrecoverable b)
    × Members r.conflicting (λ b. has some.conflicting b || has others.conflicting b)

-- and one without a transaction.
abbrev pub WithoutBoth : ℕ → Blockers → Blockers → Type 0
WithoutBoth t found r =
    Members r.unrecoverable (λ b. has found.unrecoverable b && not (eqb b t))
    × Members r.conflicting (λ b. has found.conflicting b && not (eqb b t))

-- What is read of entry i.
pub record EntryRead (w : List ℕ) (i : ℕ) (entry : Entry) : Type 0 where
  pub of_transaction : entry.transaction ≡ entry_transaction w i
  pub of_object : entry.object ≡ entry_object w i
  pub of_number : entry.number ≡ entry_number w i
  pub live : entry.transaction < 64
  pub within : entry.object < 16
  pub numbered : Numbered entry.number

-- ---- Owners of the entries so far

-- Transaction b has an entry below n, such a one,
abbrev pub Owner : (ℕ → Type 0) → List ℕ → ℕ → ℕ → Type 0
Owner P w n b = SomeBelow (λ j. P j × (entry_transaction w j ≡ b)) n

-- one whose operation stands at column m,
abbrev pub Owned : (ℕ → ℕ) → (ℕ → Type 0) → List ℕ → ℕ → ℕ → ℕ → Type 0
Owned column P w n m b = SomeBelow (λ j. P j × (column (entry_number w j) ≡ m) × (entry_transaction w j ≡ b)) n

-- one with another item than x, or another value,
abbrev pub Differing : (ℕ → Type 0) → (ℕ → ℕ) → ℕ → List ℕ → ℕ → ℕ → Type 0
Differing P item x w n b = SomeBelow (λ j. P j × (item j ≡ x → ⊥) × (entry_transaction w j ≡ b)) n

-- and two with different ones.
abbrev pub Varied : (ℕ → Type 0) → (ℕ → ℕ) → List ℕ → ℕ → ℕ → Type 0
Varied P item w n b = SomeBelow (λ j. P j × (entry_transaction w j ≡ b) × Differing P item (item j) w n b) n

-- A row has a set for each column, with the members that a relation tells.
pub record OwnersRow (n : ℕ) (row : List ℕ) (R : ℕ → ℕ → Type 0) : Type 0 where
  pub columns : length row ≡ n
  pub sets : Represents row R

-- A row of n columns, with more members at the column that is told, if one is.
abbrev pub Joined : ℕ → List ℕ → Option ℕ → ℕ → List ℕ → Type 0
Joined n row at more r = OwnersRow n r (λ k b. In (get_or row k 0) b ⊎ ((at ≡ Some k) × In more b))

-- Column m, where a row of n columns has it.
abbrev pub column_in : ℕ → ℕ → Option ℕ
column_in n m = then_some (ltb m n) m

abbrev pub On : List ℕ → ℕ → ℕ → Type 0
On w o j = entry_object w j ≡ o

-- Entry j has the object and key of entry i, and its key tells something.
abbrev pub AlikeByKey : List ℕ → ℕ → ℕ → Type 0
AlikeByKey w i j = Alike w i j × (key_column (entry_number w j) < 4)

-- Entry j is a push onto object o; a modify with the object and key of entry i.
abbrev pub Pushes : List ℕ → ℕ → ℕ → Type 0
Pushes w o j = On w o j × (entry_number w j ≡ 1)

abbrev pub Modifies : List ℕ → ℕ → ℕ → Type 0
Modifies w i j = Alike w i j × (entry_number w j ≡ 11)

-- The rows of an object and of the entries like entry i. At the last column stand owners of different items, or values.
abbrev pub ObjectRow : List ℕ → ℕ → ℕ → ℕ → ℕ → Type 0
ObjectRow w o n m b = Owned column_of (On w o) w n m b ⊎ ((5 ≡ m) × Varied (Pushes w o) (entry_key w) w n b)

abbrev pub KeyRow : List ℕ → ℕ → ℕ → ℕ → ℕ → Type 0
KeyRow w i n m b = Owned key_column (AlikeByKey w i) w n m b ⊎ ((3 ≡ m) × Varied (Modifies w i) (entry_value w) w n b)

-- Of the entries below n: the row of each object; at j that of the entries like entry j, where that is the first with
-- its object and key; and at j the owners of those like it with its value too, where that is the first such modify.
pub record Gathered (w : List ℕ) (n : ℕ) (rows : Rows) : Type 0 where
  pub objects : length rows.objects ≡ 16
  pub entries : length rows.keys ≡ 256
  pub values : length rows.values ≡ 256
  pub on_object : (o : ℕ) → o < 16 → OwnersRow 6 (get_or rows.objects o []) (ObjectRow w o n)
  pub represented : (j : ℕ) → j < 256 → First w j → OwnersRow 4 (get_or rows.keys j []) (KeyRow w j n)
  pub twins : (j : ℕ) → j < 256 → entry_number w j ≡ 11 → FirstBy true w j
      → Holds (get_or rows.values j 0) (Owner (AlikeBy true w j) w n)

-- ---- Those with another item or value

-- Of a push the owners of pushes of another item onto its object; of a modify those of modifies of its key to another
-- value.
pub record Others (w : List ℕ) (i others : ℕ) : Type 0 where
  pub pushes : entry_number w i ≡ 1
      → Holds others (Differing (Pushes w (entry_object w i)) (entry_key w) (entry_key w i) w i)
  pub modifies : entry_number w i ≡ 11
      → Holds others (Differing (Modifies w i) (entry_value w) (entry_value w i) w i)

-- Of three sets, who is in the first, or in the second and not in the third.
abbrev pub Beside : ℕ → ℕ → ℕ → ℕ → Type 0
Beside r varied any alike = Members r (λ b. has varied b || (has any b && not (has alike b)))

-- Those found by the rows of a push, and of a modify: who has different ones, and who has any and not this one.
pub record Found (number : ℕ) (whole same : List ℕ) (alike r : ℕ) : Type 0 where
  pub pushes : number ≡ 1 → Beside r (get_or whole 5 0) (get_or whole 0 0) (get_or same 0 0)
  pub modifies : number ≡ 11 → Beside r (get_or same 3 0) (get_or same 2 0) alike

-- The owners that bar entry i, and the rows with its own owner.
abbrev pub Entered : List ℕ → ℕ → Blockers → Rows → Type 0
Entered w i found rows = Barred w i found × Gathered w (i + 1) rows
