-- What the scan of the log goes by.
use Rattle.std.specs.Prelude.{ℕ, ◌<◌, ◌≡◌, List}
use Rattle.std.proofs.Math.Option.{some}
use Rattle.operations.specs.Operations as model
use Rattle.operations.specs.declared.Operation.{Operation}
use Rattle.store.specs.Store.{object_count, object_of}
use Rattle.store.specs.Layout.{decode, Packed, base}
use Rattle.store.specs.Soundness.{EntriesLive, EntriesFit}
use Rattle.entry_log.specs.Log.{StoredAs}

-- Packed words, whose entries are of live transactions and fit their objects; and a request of the object's kind.
pub record Asked (w : List ℕ) (object : ℕ) (requested : Operation) : Type 0 where
  pub packed : Packed base w
  pub live : EntriesLive (decode base w)
  pub fits : EntriesFit (decode base w)
  pub below : object < object_count
  pub kinded : (o : model.Operation) × StoredAs requested o
      × ((object_of (decode base w) object).kind ≡ some (model.kind_of o))
