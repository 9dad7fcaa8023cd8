-- Sets, whose operations are a table's on rows with value 0.
use Rattle.std.specs.Prelude.{ℕ, ◌-◌, ◌≡◌, refl, Bool, true, List}
use Rattle.std.proofs.Common.{sym, ap, ◌∙◌}
use Rattle.operations.specs.Operations.{Row, SetOperation, set_insert, set_delete, member, table_insert, table_delete}
use Rattle.operations.specs.Operations.{lookup, TableOperation, Operation, on_set, on_table, number_of, key_of}
use Rattle.operations.specs.Operations.{present, is_some, set_next, table_next, set_answer, flag, All, NoValue}
use Rattle.operations.specs.Operations.{Reduced, KeyReduced, Ascending}
use Rattle.operations.specs.PairRules.{allows, rule_at, set_recoverable, recoverable}
use Rattle.operations.proofs.Laws.Rows.{kept, dropped, alter_all, inserted_alters, deleted_alters}
use Rattle.operations.proofs.Laws.Tables.{next_ascending, next_reduced, present_next, found_other, apart_commutes}
use Rattle.operations.proofs.Laws.Tables.{differ}

abbrev as_table : SetOperation → TableOperation
as_table (set_insert k) = table_insert k 0
as_table (set_delete k) = table_delete k
as_table (member k) = lookup k

next_as_table : (o : SetOperation) (rs : List Row) → set_next o rs ≡ table_next (as_table o) rs
next_as_table (set_insert k) rs = refl
next_as_table (set_delete k) rs = refl
next_as_table (member k) rs = refl

pub set_values : (o : SetOperation) (rs : List Row) → All NoValue rs → All NoValue (set_next o rs)
set_values (set_insert k) rs a = rw inserted_alters (alter_all k (kept 0) NoValue (refl, tt) (λ r e p. (p, tt)) rs a)
set_values (set_delete k) rs a = rw deleted_alters (alter_all k dropped NoValue tt (λ r e p. tt) rs a)
set_values (member k) rs a = a

pub set_reduced : (reduce : ℕ → ℕ) (o : SetOperation) (rs : List Row) → Reduced reduce (key_of (on_set o))
    → All (KeyReduced reduce) rs
    → All (KeyReduced reduce) (set_next o rs)
set_reduced reduce (set_insert k) rs red a = next_reduced reduce (table_insert k 0) rs red a
set_reduced reduce (set_delete k) rs red a = next_reduced reduce (table_delete k) rs red a
set_reduced reduce (member k) rs red a = a

pub set_ascending : (o : SetOperation) (rs : List Row) → Ascending rs → Ascending (set_next o rs)
set_ascending o rs a = rw next_as_table (next_ascending (as_table o) rs a)

abbrev pub SetView : SetOperation → Type 0
SetView (set_insert k) = Unit {0}
SetView (set_delete k) = Bool
SetView (member k) = Bool

abbrev pub set_view : (o : SetOperation) → List Row → SetView o
set_view (set_insert k) rs = tt
set_view (set_delete k) rs = present k rs
set_view (member k) rs = present k rs

pub set_answer_lem : (o : SetOperation) (s t : List Row) → set_view o s ≡ set_view o t → set_answer o s ≡ set_answer o t
set_answer_lem (set_insert k) s t e = refl
set_answer_lem (set_delete k) s t e = ap flag e
set_answer_lem (member k) s t e = ap flag e

present_carried : (p : SetOperation) (k : ℕ) (s t : List Row) → Ascending s → Ascending t → present k s ≡ present k t
    → present k (set_next p s) ≡ present k (set_next p t)
present_carried p k s t a b e = rw (next_as_table p s, next_as_table p t) (present_next (as_table p) k s t a b e)

pub set_view_next : (o p : SetOperation) (s t : List Row) → Ascending s → Ascending t → set_view o s ≡ set_view o t
    → set_view o (set_next p s) ≡ set_view o (set_next p t)
set_view_next (set_insert k) p s t a b e = refl
set_view_next (set_delete k) p s t a b e = present_carried p k s t a b e
set_view_next (member k) p s t a b e = present_carried p k s t a b e

-- where the rules of delete and member say yes, what is logged keeps the presence of the key
member_kept : (o : Operation) (p : SetOperation) (rs : List Row) → Ascending rs
    → allows (rule_at set_recoverable 1 (number_of (on_set p) - 4)) o (on_set p) ≡ true
    → present (key_of o) (set_next p rs) ≡ present (key_of o) rs
member_kept o (set_insert k) rs a e = ap is_some (found_other (table_insert k 0) rs a (key_of o) (differ
    (key_of o) k e))
member_kept o (set_delete k) rs a e = ap is_some (found_other (table_delete k) rs a (key_of o) (differ (key_of o) k e))
member_kept o (member k) rs a e = refl

pub set_view_recoverable : (o p : SetOperation) (rs : List Row) → Ascending rs → recoverable (on_set o) (on_set p)
    ≡ true
    → set_view o (set_next p rs) ≡ set_view o rs
set_view_recoverable (set_insert k) p rs a e = refl
set_view_recoverable (set_delete k) p rs a e = member_kept (on_set (set_delete k)) p rs a e
set_view_recoverable (member k) p rs a e = member_kept (on_set (member k)) p rs a e

key_as_table : (o : SetOperation) → key_of (on_table (as_table o)) ≡ key_of (on_set o)
key_as_table (set_insert k) = refl
key_as_table (set_delete k) = refl
key_as_table (member k) = refl

pub set_apart : (o p : SetOperation) (rs : List Row) → (key_of (on_set o) ≡ key_of (on_set p) → ⊥) → Ascending rs
    → set_next o (set_next p rs) ≡ set_next p (set_next o rs)
set_apart o p rs n a =
    ap (set_next o) (next_as_table p rs) ∙ next_as_table o (table_next (as_table p) rs)
    ∙ apart_commutes (as_table o) (as_table p) rs (rw (key_as_table o, key_as_table p) n) a
    ∙ sym (ap (set_next p) (next_as_table o rs) ∙ next_as_table p (table_next (as_table o) rs))
