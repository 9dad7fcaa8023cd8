-- Next rows and answer by an operation's number.
use Rattle.std.specs.Prelude.{ℕ, ◌+◌, ◌-◌, ◌<◌, ◌≤◌, ◌≡◌, ◌⊎◌, true, false, not, List, [], ◌∷◌, ◌++◌, map, length, take}
use Rattle.std.proofs.Common.{ap, sym, ◌∙◌, inl, inr, ⊎_elim, arith, add-zero}
use mir.Val.{bool_byte}
use Rattle.std.proofs.Math.Option.{none, some}
use Rattle.std.proofs.Math.ListN.{get_or-eq_default}
use Rattle.operations.specs.Operations.{Row, row, numbered, stored, inserted, deleted, modified, present}
use Rattle.operations.specs.declared.Operation.{Operation}
use Rattle.operations.proofs.Laws.Cases.{same, split}
use Rattle.operations.specs.Stored.{operation_of}
use Rattle.replay.specs.Replay.{rows_of, next_named, next_by, BeginsWith}
use Rattle.replay.specs.Laws.Positions.{inserted_same, inserted_more, deleted_less, deleted_same, modified_same}
use Rattle.replay.specs.Laws.Copies.{count_rows, kept, popped}

past : {n : ℕ} (k : ℕ) → (n ≡ k → ⊥) → k ≤ n → k < n
past k other h = omega arith

module _ (o : Operation) where
  named : {n : ℕ} → o.number ≡ n → operation_of o ≡ stored (λ k. k) n o.key o.value
  named e = ap (λ m. stored (λ k. k) m o.key o.value) e

  unnamed : 11 < o.number → operation_of o ≡ none
  unnamed h = get_or-eq_default (none ∷ map some (numbered (λ k. k) o.key o.value)) none h

  module _ (rs : List Row) where
    next_at : {n : ℕ} → o.number ≡ n → next_named o rs ≡ next_by (stored (λ k. k) n o.key o.value) rs
    next_at e = ap (λ q. next_by q rs) (named e)

    pub next_push : o.number ≡ 1 → next_named o rs ≡ rs ++ (row o.key 0 ∷ [])
    next_push e = next_at e

    pub next_pop : o.number ≡ 2 → next_named o rs ≡ take (length rs - 1) rs
    next_pop e = next_at e

    pub next_set_insert : o.number ≡ 4 → next_named o rs ≡ inserted o.key 0 rs
    next_set_insert e = next_at e

    pub next_table_insert : o.number ≡ 7 → next_named o rs ≡ inserted o.key o.value rs
    next_table_insert e = next_at e

    pub next_delete : (o.number ≡ 5) ⊎ (o.number ≡ 8) → next_named o rs ≡ deleted o.key rs
    next_delete = ⊎_elim (λ e. next_at e) (λ e. next_at e)

    pub next_modify : o.number ≡ 11 → next_named o rs ≡ modified o.key o.value rs
    next_modify e = next_at e

    -- Of every other number.
    pub next_same : (o.number ≡ 1 → ⊥) → (o.number ≡ 2 → ⊥) → (o.number ≡ 4 → ⊥) → (o.number ≡ 5 → ⊥)
        → (o.number ≡ 7 → ⊥) → (o.number ≡ 8 → ⊥) → (o.number ≡ 11 → ⊥) → next_named o rs ≡ rs
    next_same n1 n2 n4 n5 n7 n8 n11 =
        same o.number 0 (λ e. next_at e)
        (λ n0. same o.number 3 (λ e. next_at e)
        (λ n3. same o.number 6 (λ e. next_at e)
        (λ n6. same o.number 9 (λ e. next_at e)
        (λ n9. same o.number 10 (λ e. next_at e)
        (λ n10.
        let above-3 : 3 < o.number = past 3 n3 (past 2 n2 (past 1 n1 (past 0 n0 (omega arith)))) in
        let above-7 : 7 < o.number = past 7 n7 (past 6 n6 (past 5 n5 (past 4 n4 above-3))) in
        ap (λ q. next_by q rs) (unnamed (past 11 n11 (past 10 n10 (past 9 n9 (past 8 n8 above-7))))))))))

-- A number that is none of these leaves the copy as it is.
module _ (o : Operation) (rows : List (List ℕ)) (count : ℕ) where
  pub unchanged_holds : (o.number ≡ 1 → ⊥) → (o.number ≡ 4 → ⊥) → ((o.number ≡ 5) ⊎ (o.number ≡ 8) → ⊥)
      → (o.number ≡ 7 → ⊥) → (o.number ≡ 11 → ⊥)
      → BeginsWith rows (next_named o (rows_of rows count))
  unchanged_holds n1 n4 n58 n7 n11 =
      same o.number 2
      (λ e. rw (next_pop o (rows_of rows count) e) (popped rows count))
      (λ n2. rw (next_same o (rows_of rows count) n1 n2 n4 (λ e. n58 (inl e)) n7 (λ e. n58 (inr e)) n11)
      (kept rows count))

-- Of a copy of `count` rows: how many there are afterwards.
module _ (o : Operation) (rows : List (List ℕ)) (count : ℕ) (fits : count ≤ length rows) where
  counted : (next : List Row) (n : ℕ) → next_named o (rows_of rows count) ≡ next
      → (length (rows_of rows count) ≡ count → length next ≡ n)
      → n ≡ length (next_named o (rows_of rows count))
  counted next n e l = sym (ap length e ∙ l (count_rows rows count fits))

  next_insert : (o.number ≡ 4) ⊎ (o.number ≡ 7)
      → (v : ℕ) × (next_named o (rows_of rows count) ≡ inserted o.key v (rows_of rows count))
  next_insert =
      ⊎_elim (λ e. (0, next_set_insert o (rows_of rows count) e))
      (λ e. (o.value, next_table_insert o (rows_of rows count) e))

  pub count_insert : (o.number ≡ 4) ⊎ (o.number ≡ 7)
      → count + bool_byte (not (present o.key (rows_of rows count))) ≡ length (next_named o (rows_of rows count))
  count_insert e =
      let i = next_insert e in
      counted _ _ i.1 (λ l.
      split (present o.key (rows_of rows count))
      (λ (h : present o.key (rows_of rows count) ≡ true).
      rw h (inserted_same o.key (rows_of rows count) i.0 h ∙ l ∙ sym (add-zero count)))
      (λ (h : present o.key (rows_of rows count) ≡ false).
      rw h (inserted_more o.key (rows_of rows count) i.0 h ∙ ap (λ n. n + 1) l)))

  pub count_delete : (o.number ≡ 5) ⊎ (o.number ≡ 8)
      → count - bool_byte (present o.key (rows_of rows count)) ≡ length (next_named o (rows_of rows count))
  count_delete e =
      counted _ _ (next_delete o (rows_of rows count) e) (λ l.
      split (present o.key (rows_of rows count))
      (λ (h : present o.key (rows_of rows count) ≡ true).
      rw h (deleted_less o.key (rows_of rows count) h ∙ ap (λ n. n - 1) l))
      (λ (h : present o.key (rows_of rows count) ≡ false).
      rw h (deleted_same o.key (rows_of rows count) h ∙ l ∙ omega arith)))

  pub count_same : (o.number ≡ 1 → ⊥) → (o.number ≡ 2 → ⊥) → ((o.number ≡ 4) ⊎ (o.number ≡ 7) → ⊥)
      → ((o.number ≡ 5) ⊎ (o.number ≡ 8) → ⊥)
      → count ≡ length (next_named o (rows_of rows count))
  count_same n1 n2 n47 n58 =
      same o.number 11
      (λ e. counted _ _ (next_modify o (rows_of rows count) e)
      (λ l. modified_same o.key (rows_of rows count) o.value ∙ l))
      (λ n11. counted _ _
      (next_same o (rows_of rows count) n1 n2 (λ e. n47 (inl e)) (λ e. n58 (inl e))
      (λ e. n47 (inr e)) (λ e. n58 (inr e)) n11)
      (λ l. l))
