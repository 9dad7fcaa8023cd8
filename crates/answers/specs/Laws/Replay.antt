-- One entry replayed: the rows after it, and how many there are.
use Rattle.std.specs.Prelude.{ℕ, ◌+◌, ◌≤◌, ◌≡◌, cond, List, length, take}
use Rattle.std.proofs.Common.{ap, arith, length-take}
use Rattle.std.proofs.lemmas.List.{length-map}
use Rattle.operations.specs.Operations as model
use Rattle.operations.specs.declared.Operation.{Operation}
use Rattle.replay.specs.Replay.{row_of, rows_of, next_named, next_by}
use Rattle.operations.specs.Operations.{adds}
use Rattle.store.specs.Layout.{operation_at}
use Rattle.store.proofs.Laws.Capacity.{grows}
use Rattle.answers.specs.Laws.Entries.{EntryOperation, named}

rows_counted : (rows : List (List ℕ)) (count : ℕ) → length (rows_of rows count) ≤ count
rows_counted rows count = omega (arith, length-map (take count rows) row_of, length-take count rows)

module _ {w : List ℕ} {i : ℕ} {operation : Operation} (at : EntryOperation w i operation) where
  pub next_named_lem : (rs : List model.Row) → next_named operation rs ≡ model.next (operation_at w i) rs
  next_named_lem rs = ap (λ q. next_by q rs) (named at)

  pub next_grows : (rows : List (List ℕ)) (count : ℕ)
      → length (next_named operation (rows_of rows count)) ≤ count + cond (adds (operation_at w i)) 1 0
  next_grows rows count =
      let rs = rows_of rows count in
      omega (arith, ap length (next_named_lem rs), grows (operation_at w i) rs, rows_counted rows count)
