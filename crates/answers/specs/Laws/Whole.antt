-- An object's rows as read; all entries served, and all objects with room, said of the store.
use Rattle.std.specs.Prelude.{ℕ, ◌+◌, ◌≤◌, ◌<◌, ◌≡◌, refl, List, length}
use Rattle.std.proofs.Common.{ap}
use Rattle.std.proofs.Math.Option.{Option, none, some}
use Rattle.operations.specs.Operations.{Kind, answer, next}
use Rattle.operations.specs.Log.{Answered}
use Rattle.store.specs.Store.{Object, object_of}
use Rattle.store.specs.Layout.{word, decode, base, object_start, row_at, rows_at}
use Rattle.store.specs.Soundness.{EntriesFit, EntriesAnswered, Room}
use Rattle.store.proofs.Laws.Entries.{entries_from}
use Rattle.store.proofs.Laws.Capacity.{unkinded, past_room}
use Rattle.store.proofs.Laws.Lists.{length_tabulate}
use Rattle.store.proofs.Laws.Reading.{object_read, kind_below}
use Rattle.store.proofs.Laws.Words.{below}

pub row_count : (w : List ℕ) (o : ℕ) → length (rows_at w o) ≡ word w (object_start o + 1)
row_count w o = length_tabulate (word w (object_start o + 1)) (row_at w o)

pub rows_read : (w : List ℕ) (o : ℕ) → o < 16 → (object_of (decode base w) o).rows ≡ rows_at w o
rows_read w o l = ap (λ (x : Object). x.rows) (object_read base w o l)

kinded : {A : Type 0} (k : Option Kind) → (k ≡ none → A) → ((kind : Kind) → k ≡ some kind → A) → A
kinded none f g = f refl
kinded (some kind) f g = g kind refl

-- Entries fit their objects' kinds, so only the 16 objects matter.
module _ (w : List ℕ) (fits : EntriesFit (decode base w)) where
  pub all_room : ((o : ℕ) → o < 16 → base.used (decode base w) o ≤ 64) → Room base (decode base w)
  all_room h o = below o 16 (h o) (λ l. past_room (decode base w) fits o (rw (length_tabulate 16 (base.object_at w)) l))

  pub all_answered : ((o : ℕ) → o < 16 → Answered next answer (entries_from w o 0) (rows_at w o))
      → EntriesAnswered (decode base w)
  all_answered h o kind k =
      let l = kind_below base w o kind k in
      rw (rows_read w o l) (h o l)

  pub each_answered : EntriesAnswered (decode base w) → (o : ℕ) → o < 16
      → Answered next answer (entries_from w o 0) (rows_at w o)
  each_answered answers o l =
      kinded (object_of (decode base w) o).kind
      (λ (k : (object_of (decode base w) o).kind ≡ none). rw (unkinded (decode base w) o k (decode base w).log fits) tt)
      (λ kind (k : (object_of (decode base w) o).kind ≡ some kind).
      rw (rows_read w o l) at (answers o kind k))
