-- Tables: every operation as a change at its key, the view that decides its answer, and what the pair rules say yes to.
use Rattle.std.specs.Prelude.{ℕ, ◌-◌, ◌≡◌, refl, Bool, true, false, not, List, eqb}
use Rattle.std.proofs.Common.{sym, ap, ◌∙◌}
use Rattle.std.proofs.Math.Path.{fun_ext}
use Rattle.std.proofs.lemmas.Bool.{false≢true, eqb-false, not-true}
use Rattle.std.proofs.Math.Option.{Option, none, some}
use Rattle.operations.specs.Operations.{Row, TableOperation, table_insert, table_delete, lookup, size, modify}
use Rattle.operations.specs.Operations.{Operation, on_table, number_of, key_of, found, is_some, present, modified}
use Rattle.operations.specs.Operations.{table_next, table_answer, answering, flag, valued, All, Reduced, KeyReduced}
use Rattle.operations.specs.Operations.{Ascending}
use Rattle.operations.specs.PairRules.{allows, rule_at, table_recoverable, recoverable}
use Rattle.operations.proofs.Laws.Cases.{by_key}
use Rattle.operations.proofs.Laws.Rows.{alter, kept, dropped, replaced, inserted_alters, deleted_alters}
use Rattle.operations.proofs.Laws.Rows.{modified_alters, unchanged_alters, alter_at, alter_apart, alter_all}
use Rattle.operations.proofs.Laws.Rows.{all_at, alter_ascending, alter_commutes, same_length}

abbrev table_key : TableOperation → ℕ
table_key o = key_of (on_table o)

-- What an operation makes of the value found at its key.
abbrev pub change : TableOperation → Option ℕ → Option ℕ
change (table_insert k v) = kept v
change (table_delete k) = dropped
change (lookup k) = λ x. x
change size = λ x. x
change (modify k v) = replaced v

next_alters : (o : TableOperation) (rs : List Row) → table_next o rs ≡ alter (table_key o) (change o) rs
next_alters (table_insert k v) rs = inserted_alters k v rs
next_alters (table_delete k) rs = deleted_alters k rs
next_alters (lookup k) rs = unchanged_alters k rs
next_alters size rs = unchanged_alters 0 rs
next_alters (modify k v) rs = modified_alters k v rs

-- whether its key is present afterwards
abbrev presence : TableOperation → Bool → Bool
presence (table_insert k v) b = true
presence (table_delete k) b = false
presence (lookup k) b = b
presence size b = b
presence (modify k v) b = b

change_presence : (o : TableOperation) (x : Option ℕ) → is_some (change o x) ≡ presence o (is_some x)
change_presence (table_insert k v) none = refl
change_presence (table_insert k v) (some w) = refl
change_presence (table_delete k) x = refl
change_presence (lookup k) x = refl
change_presence size x = refl
change_presence (modify k v) none = refl
change_presence (modify k v) (some w) = refl

module _ (o : TableOperation) (rs : List Row) (a : Ascending rs) where
  pub next_ascending : Ascending (table_next o rs)
  next_ascending = rw next_alters (alter_ascending (table_key o) (change o) rs a)

  pub found_own : found (table_key o) (table_next o rs) ≡ change o (found (table_key o) rs)
  found_own = rw next_alters (alter_at (table_key o) (change o) rs a)

  pub found_other : (j : ℕ) → (j ≡ table_key o → ⊥) → found j (table_next o rs) ≡ found j rs
  found_other j n = rw next_alters (alter_apart (table_key o) (change o) j rs n a)

pub next_reduced : (reduce : ℕ → ℕ) (o : TableOperation) (rs : List Row) → Reduced reduce (table_key o)
    → All (KeyReduced reduce) rs → All (KeyReduced reduce) (table_next o rs)
next_reduced reduce o rs red a =
    rw next_alters
    (alter_all (table_key o) (change o) (KeyReduced reduce)
    (all_at (KeyReduced reduce) (table_key o) (λ v. red) (change o none))
    (λ r e p. all_at (KeyReduced reduce) (table_key o) (λ v. red) (change o (some r.value))) rs a)

pub apart_commutes : (o p : TableOperation) (rs : List Row) → (table_key o ≡ table_key p → ⊥) → Ascending rs
    → table_next o (table_next p rs) ≡ table_next p (table_next o rs)
apart_commutes o p rs n a =
    ap (table_next o) (next_alters p rs) ∙ next_alters o (alter (table_key p) (change p) rs)
    ∙ alter_commutes (table_key o) (table_key p) (change o) (change p) rs n a
    ∙ sym (ap (table_next p) (next_alters o rs) ∙ next_alters p (alter (table_key o) (change o) rs))

-- the value at a key, and whether it is there, are carried along
pub found_next : (p : TableOperation) (j : ℕ) (s t : List Row) → Ascending s → Ascending t → found j s ≡ found j t
    → found j (table_next p s) ≡ found j (table_next p t)
found_next p j s t a b =
    by_key (λ (i : ℕ). found i s ≡ found i t → found i (table_next p s) ≡ found i (table_next p t)) j (table_key p)
    (λ e. found_own p s a ∙ ap (change p) e ∙ sym (found_own p t b))
    (λ n e. found_other p s a j n ∙ e ∙ sym (found_other p t b j n))

pub present_own : (p : TableOperation) (rs : List Row) → Ascending rs
    → present (table_key p) (table_next p rs) ≡ presence p (present (table_key p) rs)
present_own p rs a = ap is_some (found_own p rs a) ∙ change_presence p (found (table_key p) rs)

pub present_next : (p : TableOperation) (j : ℕ) (s t : List Row) → Ascending s → Ascending t → present j s ≡ present j t
    → present j (table_next p s) ≡ present j (table_next p t)
present_next p j s t a b =
    by_key (λ (i : ℕ). present i s ≡ present i t → present i (table_next p s) ≡ present i (table_next p t)) j
    (table_key p)
    (λ e. present_own p s a ∙ ap (presence p) e ∙ sym (present_own p t b))
    (λ n e. ap is_some (found_other p s a j n) ∙ e ∙ sym (ap is_some (found_other p t b j n)))

-- a modify keeps every key
modify_present : (k v j : ℕ) (rs : List Row) → Ascending rs → present j (modified k v rs) ≡ present j rs
modify_present k v j rs a =
    by_key (λ (i : ℕ). present i (modified k v rs) ≡ present i rs) j k (present_own (modify k v) rs a)
    (λ n. ap is_some (found_other (modify k v) rs a j n))

abbrev pub TableView : TableOperation → Type 0
TableView (table_insert k v) = Bool
TableView (table_delete k) = Bool
TableView (lookup k) = Option ℕ
TableView size = ℕ → Bool
TableView (modify k v) = Bool

abbrev pub table_view : (o : TableOperation) → List Row → TableView o
table_view (table_insert k v) rs = present k rs
table_view (table_delete k) rs = present k rs
table_view (lookup k) rs = found k rs
table_view size rs = λ j. present j rs
table_view (modify k v) rs = present k rs

pub table_answer_lem : (o : TableOperation) (s t : List Row) → Ascending s → Ascending t → table_view o s
    ≡ table_view o t
    → table_answer o s ≡ table_answer o t
table_answer_lem (table_insert k v) s t a b e = ap (λ (x : Bool). flag (not x)) e
table_answer_lem (table_delete k) s t a b e = ap flag e
table_answer_lem (lookup k) s t a b e = ap valued e
table_answer_lem size s t a b e = ap (answering 1) (same_length s t a b (λ j. ap (λ (f : ℕ → Bool). f j) e))
table_answer_lem (modify k v) s t a b e = ap flag e

pub table_view_next : (o p : TableOperation) (s t : List Row) → Ascending s → Ascending t
    → table_view o s ≡ table_view o t
    → table_view o (table_next p s) ≡ table_view o (table_next p t)
table_view_next (table_insert k v) p s t a b e = present_next p k s t a b e
table_view_next (table_delete k) p s t a b e = present_next p k s t a b e
table_view_next (lookup k) p s t a b e = found_next p k s t a b e
table_view_next size p s t a b e = fun_ext (λ j. present_next p j s t a b (ap (λ (f : ℕ → Bool). f j) e))
table_view_next (modify k v) p s t a b e = present_next p k s t a b e

-- ---- Where the rules say yes

-- the keys differ where "apart" says yes
pub differ : (j k : ℕ) → not (eqb j k) ≡ true → j ≡ k → ⊥
differ j k e = eqb-false j k (not-true (eqb j k) e)

-- where the rules of insert, delete and modify say yes, what is logged keeps the presence of the key
present_kept : (o : Operation) (p : TableOperation) (rs : List Row) → Ascending rs
    → allows (rule_at table_recoverable 1 (number_of (on_table p) - 7)) o (on_table p) ≡ true
    → present (key_of o) (table_next p rs) ≡ present (key_of o) rs
present_kept o (table_insert k v) rs a e =
    ap is_some (found_other (table_insert k v) rs a (key_of o) (differ (key_of o) k e))
present_kept o (table_delete k) rs a e = ap is_some (found_other (table_delete k) rs a (key_of o) (differ
    (key_of o) k e))
present_kept o (lookup k) rs a e = refl
present_kept o size rs a e = refl
present_kept o (modify k v) rs a e = modify_present k v (key_of o) rs a

found_kept : (o : Operation) (p : TableOperation) (rs : List Row) → Ascending rs
    → allows (rule_at table_recoverable 2 (number_of (on_table p) - 7)) o (on_table p) ≡ true
    → found (key_of o) (table_next p rs) ≡ found (key_of o) rs
found_kept o (table_insert k v) rs a e = found_other (table_insert k v) rs a (key_of o) (differ (key_of o) k e)
found_kept o (table_delete k) rs a e = found_other (table_delete k) rs a (key_of o) (differ (key_of o) k e)
found_kept o (lookup k) rs a e = refl
found_kept o size rs a e = refl
found_kept o (modify k v) rs a e = found_other (modify k v) rs a (key_of o) (differ (key_of o) k e)

keys_kept : (o : Operation) (p : TableOperation) (j : ℕ) (rs : List Row) → Ascending rs
    → allows (rule_at table_recoverable 3 (number_of (on_table p) - 7)) o (on_table p) ≡ true
    → present j (table_next p rs) ≡ present j rs
keys_kept o (table_insert k v) j rs a e = absurd (false≢true e)
keys_kept o (table_delete k) j rs a e = absurd (false≢true e)
keys_kept o (lookup k) j rs a e = refl
keys_kept o size j rs a e = refl
keys_kept o (modify k v) j rs a e = modify_present k v j rs a

pub table_view_recoverable : (o p : TableOperation) (rs : List Row) → Ascending rs
    → recoverable (on_table o) (on_table p) ≡ true
    → table_view o (table_next p rs) ≡ table_view o rs
table_view_recoverable (table_insert k v) p rs a e = present_kept (on_table (table_insert k v)) p rs a e
table_view_recoverable (table_delete k) p rs a e = present_kept (on_table (table_delete k)) p rs a e
table_view_recoverable (lookup k) p rs a e = found_kept (on_table (lookup k)) p rs a e
table_view_recoverable size p rs a e = fun_ext (λ j. keys_kept (on_table size) p j rs a e)
table_view_recoverable (modify k v) p rs a e = present_kept (on_table (modify k v)) p rs a e
