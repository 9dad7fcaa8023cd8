-- How many rows an operation and an object's entries add, and that objects past the last have room.
use Rattle.std.specs.Prelude.{ℕ, suc, ◌+◌, ◌-◌, ◌≤◌, ◌<◌, ◌≡◌, refl, Bool, true, false, cond, List, [], ◌∷◌, length}
use Rattle.std.proofs.Common.{sym, ap, ◌∙◌, arith, ne_eqb, length-append, length-take}
use Rattle.std.proofs.Math.Option.{Option, none, some, none-ne-some}
use Rattle.operations.specs.Operations.{Row, row, Answer, push, pop, top, set_insert, set_delete, member, table_insert}
use Rattle.operations.specs.Operations.{table_delete, lookup, size, modify, Operation, on_stack, on_set, on_table}
use Rattle.operations.specs.Operations.{kind_of}
use Rattle.operations.specs.Operations.{next, All}
use Rattle.operations.specs.Log.{Entry}
use Rattle.operations.proofs.Laws.Cases.{same}
use Rattle.operations.proofs.Laws.Rows.{order, by_order_less, by_order_equal, by_order_greater, rows_at, alter, kept}
use Rattle.operations.proofs.Laws.Rows.{dropped, replaced, inserted_alters, deleted_alters, modified_alters}
use Rattle.operations.specs.Operations.{adds}
use Rattle.store.specs.Store.{Object, Logged, Store, object_of, on_object}
use Rattle.store.specs.Layout.{additions, base}
use Rattle.store.specs.Soundness.{EntriesFit}
use Rattle.store.proofs.Laws.Statuses.{object_past}

-- ---- How many rows an operation adds

alter_grows : (k : ℕ) (f : Option ℕ → Option ℕ) (n : ℕ) → length (rows_at k (f none)) ≤ n
    → ((v : ℕ) → length (rows_at k (f (some v))) ≤ n + 1)
    → (rs : List Row) → length (alter k f rs) ≤ length rs + n
alter_grows k f n absent there [] = omega (arith, absent, length-append (rows_at k (f none)) [])
alter_grows k f n absent there (r ∷ rs) =
    order r.key k (λ (h : r.key < k). simp (by_order_less) (omega (arith, alter_grows k f n absent there rs)))
    (λ (h : r.key ≡ k). simp (by_order_equal)
    (omega (arith, there r.value, length-append (rows_at k (f (some r.value))) rs)))
    (λ (h : k < r.key). simp (by_order_greater) (omega (arith, absent, length-append (rows_at k (f none)) (r ∷ rs))))

module _ (k : ℕ) (rs : List Row) where
  inserted_grows : (v : ℕ) → length (next (on_table (table_insert k v)) rs) ≤ length rs + 1
  inserted_grows v = rw (inserted_alters k v rs) (alter_grows k (kept v) 1 (omega arith) (λ w. omega arith) rs)

  deleted_grows : length (next (on_table (table_delete k)) rs) ≤ length rs + 0
  deleted_grows = rw (deleted_alters k rs) (alter_grows k dropped 0 (omega arith) (λ w. omega arith) rs)

  modified_grows : (v : ℕ) → length (next (on_table (modify k v)) rs) ≤ length rs + 0
  modified_grows v = rw (modified_alters k v rs) (alter_grows k (replaced v) 0 (omega arith) (λ w. omega arith) rs)

-- Only a push or an insert adds a row, and only one.
pub grows : (o : Operation) (rs : List Row) → length (next o rs) ≤ length rs + cond (adds o) 1 0
grows (on_stack (push x)) rs = omega (arith, length-append rs (row x 0 ∷ []))
grows (on_stack pop) rs = omega (arith, length-take (length rs - 1) rs)
grows (on_stack top) rs = omega arith
grows (on_set (set_insert k)) rs = inserted_grows k rs 0
grows (on_set (set_delete k)) rs = deleted_grows k rs
grows (on_set (member k)) rs = omega arith
grows (on_table (table_insert k v)) rs = inserted_grows k rs v
grows (on_table (table_delete k)) rs = deleted_grows k rs
grows (on_table (lookup k)) rs = omega arith
grows (on_table size) rs = omega arith
grows (on_table (modify k v)) rs = modified_grows k rs v

pub additions_first : (e : Entry Operation Answer) (l : List (Entry Operation Answer))
    → additions (e ∷ l) ≡ cond (adds e.operation) 1 0 + additions l
additions_first e l = by (adds e.operation)
  where
    by : (b : Bool) → cond b (suc (additions l)) (additions l) ≡ cond b 1 0 + additions l
    by true = omega arith
    by false = omega arith

-- ---- Objects without a kind

-- Entries fit their objects' kinds, so an object without one has no entries.
pub unkinded : (s : Store) (o : ℕ) → (object_of s o).kind ≡ none → (log : List Logged)
    → All (λ (l : Logged). (object_of s l.object).kind ≡ some (kind_of l.entry.operation)) log → on_object o log ≡ []
unkinded s o k [] fits = refl
unkinded s o k (e ∷ log) fits =
    same e.object o
    (λ (p : e.object ≡ o).
    absurd (none-ne-some _ (sym k ∙ ap (λ (m : ℕ). (object_of s m).kind) (sym p) ∙ fits.0)))
    (λ (n : e.object ≡ o → ⊥).
    ap (λ (b : Bool). cond b (e.entry ∷ on_object o log) (on_object o log)) (ne_eqb e.object o n)
    ∙ unkinded s o k log fits.1)

pub past_room : (s : Store) → EntriesFit s → (o : ℕ) → length s.objects ≤ o → base.used s o ≤ 64
past_room s fits o past =
    let x = object_past s o past in
    omega (
      arith,
      ap (λ (x : Object). length x.rows) x,
      ap additions (unkinded s o (ap (λ (x : Object). x.kind) x) s.log fits),
    )
