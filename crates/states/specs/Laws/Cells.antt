-- An operation on a key: the value at its key and at others after it, the number of rows, and its answer.
use Rattle.std.specs.Prelude.{ℕ, ◌+◌, ◌-◌, ◌≤◌, ◌<◌, ◌≡◌, cond, not, List, [], ◌∷◌, eqb, length}
use Rattle.std.proofs.Math.Path.{refl, ap}
use Rattle.std.proofs.Common.{sym, ◌∙◌, arith, length-append}
use Rattle.std.proofs.Math.Option.{Option, none, some}
use Rattle.operations.specs.Operations.{Stack, Row, answering, flag, valued, set_insert, set_delete, member}
use Rattle.operations.specs.Operations.{table_insert}
use Rattle.operations.specs.Operations.{table_delete, lookup, size, modify, Operation, on_stack, on_set, on_table}
use Rattle.operations.specs.Operations.{kind_of}
use Rattle.operations.specs.Operations.{key_of, value_of, number_of, next, answer, found, is_some}
use Rattle.operations.proofs.Laws.Rows.{order, by_order_less, by_order_equal, by_order_greater, rows_at, alter, kept}
use Rattle.operations.proofs.Laws.Rows.{dropped, replaced, inserted_alters, deleted_alters, modified_alters, alter_at}
use Rattle.operations.proofs.Laws.Rows.{alter_apart, alter_ascending}
use Rattle.states.specs.States.{state_after, count_after, keyed_answer, Ordered}

-- ---- Answers of lookup

inserts : (v : ℕ) (x : Option ℕ) → cond (eqb (valued x).code 0) (answering 1 v) (valued x) ≡ valued (kept v x)
inserts v none = refl
inserts v (some w) = refl

modifies : (v : ℕ) (x : Option ℕ) → cond (eqb (valued x).code 0) (valued x) (answering 1 v) ≡ valued (replaced v x)
modifies v none = refl
modifies v (some w) = refl

kept_code : (v : ℕ) (x : Option ℕ) → (valued (kept v x)).code ≡ 1
kept_code v none = refl
kept_code v (some w) = refl

replaced_code : (v : ℕ) (x : Option ℕ) → (valued (replaced v x)).code ≡ (valued x).code
replaced_code v none = refl
replaced_code v (some w) = refl

is_there : (x : Option ℕ) → answering (valued x).code 0 ≡ flag (is_some x)
is_there none = refl
is_there (some v) = refl

is_absent : (x : Option ℕ) → answering (1 - (valued x).code) 0 ≡ flag (not (is_some x))
is_absent none = refl
is_absent (some v) = refl

pub code_few : (x : Option ℕ) → (valued x).code ≤ 1
code_few none = omega arith
code_few (some v) = omega arith

pub code_rows : (k : ℕ) (rs : List Row) → (valued (found k rs)).code ≤ length rs
code_rows k [] = omega arith
code_rows k (r ∷ rs) = omega (arith, code_few (found k (r ∷ rs)))

-- ---- The number of rows

rows_code : (k : ℕ) (x : Option ℕ) → length (rows_at k x) ≡ (valued x).code
rows_code k none = refl
rows_code k (some v) = refl

-- A key's row goes and the new one comes.
alter_counts : (k : ℕ) (f : Option ℕ → Option ℕ) (rs : List Row)
    → length (alter k f rs) + (valued (found k rs)).code ≡ length rs + (valued (f (found k rs))).code
alter_counts k f [] = omega (arith, length-append (rows_at k (f none)) [], rows_code k (f none))
alter_counts k f (r ∷ rs) =
    let there = rows_at k (f (some r.value)) in
    let absent = rows_at k (f none) in
    order r.key k (λ (h : r.key < k). simp by_order_less (omega (arith, alter_counts k f rs)))
    (λ (h : r.key ≡ k).
    simp by_order_equal (omega (arith, length-append there rs, rows_code k (f (some r.value)))))
    (λ (h : k < r.key). simp by_order_greater (omega (arith, length-append absent (r ∷ rs), rows_code k (f none))))

module _ (rs : List Row) where
  count_inserted : (k v : ℕ) → length rs + 1 - (valued (found k rs)).code ≡ length (next (on_table
      (table_insert k v)) rs)
  count_inserted k v = rw (inserted_alters k v rs) (omega (arith, alter_counts k (kept v) rs, kept_code v (found k rs)))

  count_deleted : (k : ℕ) → length rs - (valued (found k rs)).code ≡ length (next (on_table (table_delete k)) rs)
  count_deleted k = rw (deleted_alters k rs) (omega (arith, alter_counts k dropped rs))

  pub count_right : (o : Operation) → (kind_of o ≡ Stack → ⊥)
      → count_after (number_of o) (valued (found (key_of o) rs)).code (length rs) ≡ length (next o rs)
  unfolding count_after
  count_right (on_stack o) n = absurd (n refl)
  count_right (on_set (set_insert k)) n = count_inserted k 0
  count_right (on_set (set_delete k)) n = count_deleted k
  count_right (on_set (member k)) n = refl
  count_right (on_table (table_insert k v)) n = count_inserted k v
  count_right (on_table (table_delete k)) n = count_deleted k
  count_right (on_table (lookup k)) n = refl
  count_right (on_table size) n = refl
  count_right (on_table (modify k v)) n =
      rw (modified_alters k v rs) (omega (arith, alter_counts k (replaced v) rs, replaced_code v (found k rs)))

  -- ---- The answer

  pub answer_right : (o : Operation) → (kind_of o ≡ Stack → ⊥)
      → keyed_answer (number_of o) (valued (found (key_of o) rs)) (length rs) ≡ answer o rs
  unfolding keyed_answer
  answer_right (on_stack o) n = absurd (n refl)
  answer_right (on_set (set_insert k)) n = refl
  answer_right (on_set (set_delete k)) n = is_there (found k rs)
  answer_right (on_set (member k)) n = is_there (found k rs)
  answer_right (on_table (table_insert k v)) n = is_absent (found k rs)
  answer_right (on_table (table_delete k)) n = is_there (found k rs)
  answer_right (on_table (lookup k)) n = refl
  answer_right (on_table size) n = refl
  answer_right (on_table (modify k v)) n = is_there (found k rs)

  -- ---- The value at a key

  pub ordered_next : (o : Operation) → Ordered (kind_of o) rs → Ordered (kind_of o) (next o rs)
  ordered_next (on_stack o) a = tt
  ordered_next (on_set (set_insert k)) a = rw inserted_alters (alter_ascending k (kept 0) rs a)
  ordered_next (on_set (set_delete k)) a = rw deleted_alters (alter_ascending k dropped rs a)
  ordered_next (on_set (member k)) a = a
  ordered_next (on_table (table_insert k v)) a = rw inserted_alters (alter_ascending k (kept v) rs a)
  ordered_next (on_table (table_delete k)) a = rw deleted_alters (alter_ascending k dropped rs a)
  ordered_next (on_table (lookup k)) a = a
  ordered_next (on_table size) a = a
  ordered_next (on_table (modify k v)) a = rw modified_alters (alter_ascending k (replaced v) rs a)

  pub changed_right : (o : Operation) → (kind_of o ≡ Stack → ⊥) → Ordered (kind_of o) rs
      → state_after (number_of o) (value_of o) (valued (found (key_of o) rs)) ≡ valued (found (key_of o) (next o rs))
  unfolding state_after
  changed_right (on_stack o) n a = absurd (n refl)
  changed_right (on_set (set_insert k)) n a =
      rw inserted_alters (inserts 0 (found k rs) ∙ ap valued (sym (alter_at k (kept 0) rs a)))
  changed_right (on_set (set_delete k)) n a = rw deleted_alters (ap valued (sym (alter_at k dropped rs a)))
  changed_right (on_set (member k)) n a = refl
  changed_right (on_table (table_insert k v)) n a =
      rw inserted_alters (inserts v (found k rs) ∙ ap valued (sym (alter_at k (kept v) rs a)))
  changed_right (on_table (table_delete k)) n a = rw deleted_alters (ap valued (sym (alter_at k dropped rs a)))
  changed_right (on_table (lookup k)) n a = refl
  changed_right (on_table size) n a = refl
  changed_right (on_table (modify k v)) n a =
      rw modified_alters (modifies v (found k rs) ∙ ap valued (sym (alter_at k (replaced v) rs a)))

  pub found_other : (o : Operation) → (kind_of o ≡ Stack → ⊥) → Ordered (kind_of o) rs → (j : ℕ) → (j ≡ key_of o → ⊥)
      → found j (next o rs) ≡ found j rs
  found_other (on_stack o) n a j d = absurd (n refl)
  found_other (on_set (set_insert k)) n a j d = rw inserted_alters (alter_apart k (kept 0) j rs d a)
  found_other (on_set (set_delete k)) n a j d = rw deleted_alters (alter_apart k dropped j rs d a)
  found_other (on_set (member k)) n a j d = refl
  found_other (on_table (table_insert k v)) n a j d = rw inserted_alters (alter_apart k (kept v) j rs d a)
  found_other (on_table (table_delete k)) n a j d = rw deleted_alters (alter_apart k dropped j rs d a)
  found_other (on_table (lookup k)) n a j d = refl
  found_other (on_table size) n a j d = refl
  found_other (on_table (modify k v)) n a j d = rw modified_alters (alter_apart k (replaced v) j rs d a)
