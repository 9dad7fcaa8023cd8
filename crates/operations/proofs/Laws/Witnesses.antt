-- Where the tables say no: a state of at most one row that shows it.
use Rattle.std.specs.Prelude.{ℕ, ◌-◌, ◌≤◌, ◌<◌, ◌^◌, ◌≡◌, refl, Bool, true, false, not, cond, List, [], ◌∷◌, eqb}
use Rattle.std.specs.Prelude.{length, get_or}
use Rattle.std.proofs.Common.{sym, ap, subst₂, ◌∙◌, true≢false, arith, eqb-true}
use Rattle.std.proofs.Math.Bool.{and-eq-true_iff}
use Rattle.std.proofs.Math.Option.{none, some}
use Rattle.std.proofs.lemmas.Bool.{not-false}
use Rattle.operations.specs.Operations.{Kind, Stack, Set, Table, Row, row, Answer, flag, valued, answering}
use Rattle.operations.specs.Operations.{top_item, StackOperation, push, pop, top, SetOperation, set_insert}
use Rattle.operations.specs.Operations.{set_delete, member, TableOperation, table_insert, table_delete, lookup, size}
use Rattle.operations.specs.Operations.{modify, Operation, on_stack, on_set, on_table, kind_of, number_of, key_of}
use Rattle.operations.specs.Operations.{value_of}
use Rattle.operations.specs.Operations.{found, present, stack_next, stack_answer, set_next, set_answer, table_next}
use Rattle.operations.specs.Operations.{table_answer, next, answer, WellFormed, Holdable, StoredKey, Fits}
use Rattle.operations.specs.PairRules.{allows, rule_at, stack_recoverable, set_recoverable, table_recoverable}
use Rattle.operations.specs.PairRules.{recoverable, commutes, rewrites, EitherOrder}
use Rattle.operations.proofs.Laws.Cases.{split, either}
use Rattle.operations.proofs.Laws.Storing.{named}
use Rattle.operations.proofs.Laws.Rows.{by_order_equal}
use Rattle.operations.proofs.Laws.Tables.{differ}
use Rattle.operations.proofs.Laws.Grid.{commuting_mutual}
use Rattle.operations.proofs.Laws.Objects.{by_kind, by_kinds}

-- The state that shows a no against the logged operation: empty, or one row that it takes away or changes.
abbrev pub witness : Operation → List Row
witness (on_stack (push x)) = []
witness (on_stack pop) = row 0 0 ∷ []
witness (on_stack top) = []
witness (on_set (set_insert k)) = []
witness (on_set (set_delete k)) = row k 0 ∷ []
witness (on_set (member k)) = []
witness (on_table (table_insert k v)) = []
witness (on_table (table_delete k)) = row k 0 ∷ []
witness (on_table (lookup k)) = []
witness (on_table size) = []
witness (on_table (modify k v)) = row k (1 - v) ∷ []

pub witness_holdable : (p : Operation) → key_of p < 2 ^ 32 → (length (witness p) ≤ 1) × Holdable (witness p)
witness_holdable (on_stack (push x)) h = omega arith
witness_holdable (on_stack pop) h = omega arith
witness_holdable (on_stack top) h = omega arith
witness_holdable (on_set (set_insert k)) h = omega arith
witness_holdable (on_set (set_delete k)) h = omega arith
witness_holdable (on_set (member k)) h = omega arith
witness_holdable (on_table (table_insert k v)) h = omega arith
witness_holdable (on_table (table_delete k)) h = omega arith
witness_holdable (on_table (lookup k)) h = omega arith
witness_holdable (on_table size) h = omega arith
witness_holdable (on_table (modify k v)) h = omega arith

module _ (reduce : ℕ → ℕ) where
  stack_witness : (p : StackOperation) → WellFormed reduce Stack (witness (on_stack p))
  stack_witness (push x) = tt
  stack_witness pop = (refl, tt)
  stack_witness top = tt

  set_witness : (p : SetOperation) → StoredKey reduce (on_set p) → WellFormed reduce Set (witness (on_set p))
  set_witness (set_insert k) red = (tt, tt, tt)
  set_witness (set_delete k) red = ((refl, tt), (red, tt), (tt, tt))
  set_witness (member k) red = (tt, tt, tt)

  table_witness : (p : TableOperation) → StoredKey reduce (on_table p) → WellFormed reduce Table (witness (on_table p))
  table_witness (table_insert k v) red = (tt, tt)
  table_witness (table_delete k) red = ((red, tt), (tt, tt))
  table_witness (lookup k) red = (tt, tt)
  table_witness size red = (tt, tt)
  table_witness (modify k v) red = ((red, tt), (tt, tt))

  pub witness_valid : (kind : Kind) (p : Operation) → Fits reduce kind p → WellFormed reduce kind (witness p)
  witness_valid kind p f =
      by_kind (λ (k : Kind) (q : Operation). StoredKey reduce q → WellFormed reduce k (witness q))
      (λ q red. stack_witness q) set_witness table_witness kind p
      f.0 f.1

-- ---- Each no

abbrev Differ : Answer → Answer → Type 0
Differ r s = r ≡ s → ⊥

codes_differ : (r s : Answer) → (r.code ≡ s.code → ⊥) → Differ r s
codes_differ r s n e = n (ap (λ (q : Answer). q.code) e)

values_differ : (r s : Answer) → (r.value ≡ s.value → ⊥) → Differ r s
values_differ r s n e = n (ap (λ (q : Answer). q.value) e)

flags_differ : (b : Bool) → Differ (flag (not b)) (flag b)
flags_differ true = codes_differ (flag false) (flag true) (omega arith)
flags_differ false = codes_differ (flag true) (flag false) (omega arith)

-- the keys are equal where "apart" says no
equal : (j k : ℕ) → not (eqb j k) ≡ false → j ≡ k
equal j k e = eqb-true j k (not-false (eqb j k) e)

-- where the rules of pop and top say no, the witness changes whether there is an item
stack_differs : (o : Operation) (p : StackOperation)
    → allows (rule_at stack_recoverable 1 (number_of (on_stack p) - 1)) o (on_stack p) ≡ false
    → Differ (valued (top_item (stack_next p (witness (on_stack p))))) (valued (top_item (witness (on_stack p))))
stack_differs o (push x) e = codes_differ (valued (some x)) (valued none) (omega arith)
stack_differs o pop e = codes_differ (valued none) (valued (some 0)) (omega arith)
stack_differs o top e = absurd (true≢false e)

stack_no : (o p : StackOperation) → recoverable (on_stack o) (on_stack p) ≡ false
    → Differ (stack_answer o (stack_next p (witness (on_stack p)))) (stack_answer o (witness (on_stack p)))
stack_no (push x) (push y) e = absurd (true≢false e)
stack_no (push x) pop e = absurd (true≢false e)
stack_no (push x) top e = absurd (true≢false e)
stack_no pop p e = stack_differs (on_stack pop) p e
stack_no top p e = stack_differs (on_stack top) p e

-- where the rules of insert, delete and modify say no, the witness changes whether the key is present
present_turns : (o : Operation) (p : TableOperation)
    → allows (rule_at table_recoverable 1 (number_of (on_table p) - 7)) o (on_table p) ≡ false
    → present (key_of o) (table_next p (witness (on_table p))) ≡ not (present (key_of o) (witness (on_table p)))
present_turns o (table_insert k v) e = rw (equal (key_of o) k e) (simp by_order_equal)
present_turns o (table_delete k) e = rw (equal (key_of o) k e) (simp by_order_equal)
present_turns o (lookup k) e = absurd (true≢false e)
present_turns o size e = absurd (true≢false e)
present_turns o (modify k v) e = absurd (true≢false e)

lookup_differs : (o : Operation) (p : TableOperation)
    → allows (rule_at table_recoverable 2 (number_of (on_table p) - 7)) o (on_table p) ≡ false
    → Differ (valued (found (key_of o) (table_next p (witness (on_table p)))))
    (valued (found (key_of o) (witness (on_table p))))
lookup_differs o (table_insert k v) e =
    rw (equal (key_of o) k e) (simp by_order_equal (codes_differ (valued (some v)) (valued none) (omega arith)))
lookup_differs o (table_delete k) e =
    rw (equal (key_of o) k e) (simp by_order_equal (codes_differ (valued none) (valued (some 0)) (omega arith)))
lookup_differs o (lookup k) e = absurd (true≢false e)
lookup_differs o size e = absurd (true≢false e)
lookup_differs o (modify k v) e =
    rw (equal (key_of o) k e) (simp by_order_equal
    (values_differ (valued (some v)) (valued (some (1 - v))) (omega arith)))

size_differs : (o : Operation) (p : TableOperation)
    → allows (rule_at table_recoverable 3 (number_of (on_table p) - 7)) o (on_table p) ≡ false
    → Differ (answering 1 (length (table_next p (witness (on_table p))))) (answering 1 (length (witness (on_table p))))
size_differs o (table_insert k v) e = values_differ (answering 1 1) (answering 1 0) (omega arith)
size_differs o (table_delete k) e = simp by_order_equal (values_differ (answering 1 0) (answering 1 1) (omega arith))
size_differs o (lookup k) e = absurd (true≢false e)
size_differs o size e = absurd (true≢false e)
size_differs o (modify k v) e = absurd (true≢false e)

table_no : (o p : TableOperation) → recoverable (on_table o) (on_table p) ≡ false
    → Differ (table_answer o (table_next p (witness (on_table p)))) (table_answer o (witness (on_table p)))
table_no (table_insert k v) p e =
    rw (present_turns (on_table (table_insert k v)) p e) (flags_differ (not (present k (witness (on_table p)))))
table_no (table_delete k) p e =
    rw (present_turns (on_table (table_delete k)) p e) (flags_differ (present k (witness (on_table p))))
table_no (lookup k) p e = lookup_differs (on_table (lookup k)) p e
table_no size p e = size_differs (on_table size) p e
table_no (modify k v) p e =
    rw (present_turns (on_table (modify k v)) p e) (flags_differ (present k (witness (on_table p))))

member_turns : (o : Operation) (p : SetOperation)
    → allows (rule_at set_recoverable 1 (number_of (on_set p) - 4)) o (on_set p) ≡ false
    → present (key_of o) (set_next p (witness (on_set p))) ≡ not (present (key_of o) (witness (on_set p)))
member_turns o (set_insert k) e = rw (equal (key_of o) k e) (simp by_order_equal)
member_turns o (set_delete k) e = rw (equal (key_of o) k e) (simp by_order_equal)
member_turns o (member k) e = absurd (true≢false e)

set_no : (o p : SetOperation) → recoverable (on_set o) (on_set p) ≡ false
    → Differ (set_answer o (set_next p (witness (on_set p)))) (set_answer o (witness (on_set p)))
set_no (set_insert k) (set_insert j) e = absurd (true≢false e)
set_no (set_insert k) (set_delete j) e = absurd (true≢false e)
set_no (set_insert k) (member j) e = absurd (true≢false e)
set_no (set_delete k) p e = rw (member_turns (on_set (set_delete k)) p e) (flags_differ (present k (witness
    (on_set p))))
set_no (member k) p e = rw (member_turns (on_set (member k)) p e) (flags_differ (present k (witness (on_set p))))

pub witness_differs : (kind : Kind) (o p : Operation) → kind_of o ≡ kind → kind_of p ≡ kind → recoverable o p ≡ false
    → Differ (answer o (next p (witness p))) (answer o (witness p))
witness_differs =
    by_kinds (λ (k : Kind) (q r : Operation). recoverable q r ≡ false
    → Differ (answer q (next r (witness r))) (answer q (witness r))) stack_no set_no table_no

-- ---- Where the commuting tables say no

-- The state that shows it: where one of the two is not recoverable against the other, that of the other.
abbrev pub order_witness : Operation → Operation → List Row
order_witness o p = cond (recoverable p o) (witness p) (witness o)

-- two pushes of different items, from an empty stack
pushes_differ : (x y : ℕ) → (x ≡ y → ⊥)
    → stack_next (push x) (stack_next (push y) []) ≡ stack_next (push y) (stack_next (push x) []) → ⊥
pushes_differ x y n e = n (sym (ap (λ (rs : List Row). (get_or rs 0 (row 0 0)).key) e))

-- two modifies of one key with different values, from a table that has it
modifies_differ : (k v w r : ℕ) → (v ≡ w → ⊥)
    → table_next (modify k v) (table_next (modify k w) (row k r ∷ []))
    ≡ table_next (modify k w) (table_next (modify k v) (row k r ∷ [])) → ⊥
modifies_differ k v w r n e = n (ap (λ (rs : List Row). (get_or rs 0 (row 0 0)).value) (simp by_order_equal at e))

abbrev RowsDiffer : Operation → Operation → Type 0
RowsDiffer o p = next o (next p (witness p)) ≡ next p (next o (witness p)) → ⊥

rewritten : (o p : Operation) → rewrites o p ≡ true → RowsDiffer o p
rewritten o p e =
    either _ e
    (λ pushes.
    let (first, rest) = (and-eq-true_iff (eqb (number_of o) 1) _).0 pushes in
    let (second, items) = (and-eq-true_iff (eqb (number_of p) 1) _).0 rest in
    subst₂ RowsDiffer (named o _ 1 first refl) (named p _ 1 second refl)
    (pushes_differ (key_of o) (key_of p) (differ _ _ items)))
    (λ modifies.
    let (first, rest) = (and-eq-true_iff (eqb (number_of o) 11) _).0 modifies in
    let (second, at) = (and-eq-true_iff (eqb (number_of p) 11) _).0 rest in
    let (key, values) = (and-eq-true_iff (eqb (key_of o) (key_of p)) _).0 at in
    subst₂ RowsDiffer
    (ap (λ (k : ℕ). on_table (modify k (value_of o))) (sym (eqb-true (key_of o) (key_of p) key))
    ∙ named o _ 11 first refl)
    (named p _ 11 second refl)
    (modifies_differ (key_of p) (value_of o) (value_of p) (1 - value_of p) (differ _ _ values)))

pub order_differs : (kind : Kind) (o p : Operation) → kind_of o ≡ kind → kind_of p ≡ kind → commutes o p ≡ false
    → EitherOrder o p (order_witness o p) → ⊥
order_differs kind o p k l e same =
    split (recoverable p o)
    (λ (r : recoverable p o ≡ true).
    let at-witness : EitherOrder o p (witness p) = rw r at same in
    split (recoverable o p)
    (λ (q : recoverable o p ≡ true).
    split (rewrites o p) (λ (f : rewrites o p ≡ true). rewritten o p f at-witness.0)
    (λ (f : rewrites o p ≡ false). true≢false (sym ((commuting_mutual o p (l ∙ sym k)).1 (q, r, f)) ∙ e)))
    (λ (q : recoverable o p ≡ false). witness_differs kind o p k l q at-witness.1))
    (λ (r : recoverable p o ≡ false). witness_differs kind p o l k r (rw r at same).2)

pub order_valid : (reduce : ℕ → ℕ) (kind : Kind) (o p : Operation) → Fits reduce kind o → Fits reduce kind p
    → WellFormed reduce kind (order_witness o p)
order_valid reduce kind o p fo fp =
    split (recoverable p o) (λ (r : recoverable p o ≡ true). rw r (witness_valid reduce kind p fp))
    (λ (r : recoverable p o ≡ false). rw r (witness_valid reduce kind o fo))

pub order_holdable : (o p : Operation) → key_of o < 2 ^ 32 → key_of p < 2 ^ 32
    → (length (order_witness o p) ≤ 1) × Holdable (order_witness o p)
order_holdable o p l m =
    split (recoverable p o) (λ (r : recoverable p o ≡ true). rw r (witness_holdable p m))
    (λ (r : recoverable p o ≡ false). rw r (witness_holdable o l))
