-- What is read from words, by number.
use Rattle.std.specs.Prelude.{ℕ, ◌+◌, ◌≤◌, ◌<◌, ◌≡◌, List}
use Rattle.std.proofs.Common.{sym, ap, ◌∙◌, arith}
use Rattle.std.proofs.Math.Option.{some}
use Rattle.operations.specs.Operations.{Kind}
use Rattle.operations.specs.declared.Operation.{Operation}
use Rattle.operations.specs.Stored.{operation_of}
use Rattle.operations.proofs.Laws.Storing.{read_back}
use Rattle.store.specs.Store.{absent, no_object, status_of, object_of, Live}
use Rattle.store.specs.Layout.{Format, decode, word, entry_start, operation_at, status_at, read_status, Packed}
use Rattle.store.proofs.Laws.Lists.{length_tabulate, get_d_tabulate, get_d_past}
use Rattle.store.proofs.Laws.Statuses.{live_within, kind_within}

module _ (format : Format) (w : List ℕ) where
  pub status_read : (t : ℕ) → t < 64 → status_of (decode format w) t ≡ status_at w t
  status_read t l = get_d_tabulate 64 (status_at w) t absent l

  pub status_by_word : (t status : ℕ) → t < 64 → status ≡ word w (1 + t)
      → status_of (decode format w) t ≡ read_status status
  status_by_word t status l e = status_read t l ∙ ap read_status (sym e)

  pub status_past : (t : ℕ) → 64 ≤ t → status_of (decode format w) t ≡ absent
  status_past t l = get_d_past 64 (status_at w) t absent l

  pub object_read : (o : ℕ) → o < 16 → object_of (decode format w) o ≡ format.object_at w o
  object_read o l = get_d_tabulate 16 (format.object_at w) o no_object l

  pub object_past : (o : ℕ) → 16 ≤ o → object_of (decode format w) o ≡ no_object
  object_past o l = get_d_past 16 (format.object_at w) o no_object l

  -- Only transactions below 64 are live, and only objects below 16 have a kind.
  pub live_below : (t : ℕ) → Live (decode format w) t → t < 64
  live_below t live = omega (arith, live_within (decode format w) t live, length_tabulate 64 (status_at w))

  pub kind_below : (o : ℕ) (kind : Kind) → (object_of (decode format w) o).kind ≡ some kind → o < 16
  kind_below o kind e = omega (arith, kind_within (decode format w) o kind e, length_tabulate 16 (format.object_at w))

  -- The words of an entry name its operation.
  pub entry_named : (i : ℕ) (operation : Operation) → Packed format w → i < word w 0
      → (operation.number ≡ word w (entry_start i + 2)) × (operation.key ≡ word w (entry_start i + 3))
      × (operation.value ≡ word w (entry_start i + 4))
      → operation_of operation ≡ some (operation_at w i)
  entry_named i operation p l (number, key, value) =
      let stored = p.log.as_stored i l in
      cc (read_back (operation_at w i))
