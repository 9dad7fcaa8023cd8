-- A log that is read by index, from the definitions of the store.
use Rattle.std.specs.Prelude.{ℕ, ◌<◌, ◌≡◌, List}
use Rattle.std.proofs.Common.{sym, ap, ◌∙◌}
use Rattle.std.proofs.Math.Option.{some, some-injective}
use Rattle.operations.specs.Operations.{kind_of}
use Rattle.store.specs.Store.{Logged, object_of, Live}
use Rattle.store.specs.Layout.{word, entry_at, operation_at, base, decode, Packed}
use Rattle.store.specs.Soundness.{EntriesLive, EntriesFit}
use Rattle.store.proofs.Laws.Lists.{all_each}
use Rattle.store.proofs.Laws.Reading.{live_below, kind_below}
use Rattle.representatives.specs.Representatives.{entry_transaction, entry_object, Readable}

module _ (w : List ℕ) where
  pub of_kind_lem : EntriesFit (decode base w) → (i : ℕ) → i < word w 0
      → (object_of (decode base w) (entry_object w i)).kind ≡ some (kind_of (operation_at w i))
  of_kind_lem =
      all_each (λ (l : Logged). (object_of (decode base w) l.object).kind ≡ some (kind_of l.entry.operation))
      (word w 0) (entry_at w)

  pub readable : EntriesLive (decode base w) → EntriesFit (decode base w) → Packed base w → Readable w
  readable live fits packed =
      record {
        words = packed.words;
        entries = packed.log.entries;
        stored = packed.log.as_stored;
        transactions = λ i l.
            live_below base w (entry_transaction w i)
            (all_each (λ (e : Logged). Live (decode base w) e.entry.transaction) (word w 0) (entry_at w) live i l);
        objects = λ i l. kind_below base w (entry_object w i) (kind_of (operation_at w i)) (of_kind_lem fits i l);
        kinds = λ i j l m e.
            some-injective (kind_of (operation_at w j)) (kind_of (operation_at w i))
            (sym (of_kind_lem fits j m) ∙ (ap (λ (o : ℕ). (object_of (decode base w) o).kind) e
            ∙ of_kind_lem fits i l));
      }
