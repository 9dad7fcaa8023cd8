-- A store without entries, transactions and rows is sound, and a book of zeros is that of one.
use Rattle.std.specs.Prelude.{ℕ, ◌+◌, ◌<◌, ◌≡◌, List, [], length}
use Rattle.std.proofs.Common.{sym, ap, ◌∙◌, subst, not-suc-le-zero, arith}
use Rattle.operations.specs.Operations.{Kind, Stack, Set, Table, WellFormed, All}
use Rattle.store.specs.Layout.{BookLong}
use Rattle.store.specs.Store.{pseudo_committed, absent, Object, Logged, Store, status_of, object_of, on_object}
use Rattle.store.specs.Layout.{Format, word, tabulate, read_status, entry_at, object_start, row_at, rows_at}
use Rattle.store.specs.Layout.{ObjectPacked, additions, decode, Packed, base}
use Rattle.store.specs.Soundness.{Room, SoundStore, Sound}
use Rattle.store.proofs.Laws.Lists.{tabulate_zero}
use Rattle.store.proofs.Laws.Reading.{status_read, status_past, object_read, object_past}
use Rattle.store.proofs.Laws.Statuses.{absent_unranked}
use Rattle.store.proofs.Laws.Words.{below}

-- No entry, no transaction, no rows.
pub record Empty (s : Store) : Type 0 where
  pub log : s.log ≡ []
  pub statuses : (t : ℕ) → status_of s t ≡ absent
  pub rows : (o : ℕ) → (object_of s o).rows ≡ []

no_rows : (reduce : ℕ → ℕ) (kind : Kind) → WellFormed reduce kind []
no_rows reduce Stack = tt
no_rows reduce Set = (tt, tt, tt)
no_rows reduce Table = (tt, tt)

module _ (s : Store) (empty : Empty s) where
  no_entry_lem : (P : Logged → Type 0) → All P s.log
  no_entry_lem P = subst (All P) (sym empty.log) tt

  no_rank : (t rank : ℕ) → status_of s t ≡ pseudo_committed rank → ⊥
  no_rank t rank e = absent_unranked rank (sym (empty.statuses t) ∙ e)

  pub empty_sound : (format : Format) → Room format s → SoundStore format s
  empty_sound format room =
      record {
        unsettled = record {
          rows = λ o kind e. rw (empty.rows o) (no_rows format.reduce kind);
          live = no_entry_lem _;
          fits = no_entry_lem _;
          reduced = no_entry_lem _;
          recoverable = λ o kind e. rw empty.log tt;
          answered = λ o kind e. rw empty.log tt;
          room = room;
          once = λ t u rank e. absurd (no_rank t rank e);
          gapless = λ t rank lower e. absurd (no_rank t rank e);
          acyclic = λ t p. absurd (no_rank t p.0 p.1);
        };
        dependent = λ t p. absurd (no_rank t p.0 p.1);
      }

  pub base_room : Room base s
  base_room o =
      omega (arith, ap length (empty.rows o), ap (λ (l : List Logged). additions (on_object o l)) empty.log)

module _ (w : List ℕ) (zeros : (i : ℕ) → word w i ≡ 0) where
  zeros_empty : (format : Format) → ((o : ℕ) → o < 16 → (format.object_at w o).rows ≡ []) → Empty (decode format w)
  zeros_empty format absence =
      record {
        log = ap (λ (n : ℕ). tabulate n (entry_at w)) (zeros 0) ∙ tabulate_zero (entry_at w);
        statuses = λ t. below t 64 (λ l. status_read format w t l ∙ ap read_status (zeros (1 + t)))
            (status_past format w t);
        rows = λ o.
            below o 16 (λ l. ap (λ (x : Object). x.rows) (object_read format w o l) ∙ absence o l)
            (λ l. ap (λ (x : Object). x.rows) (object_past format w o l));
      }

  zeros_packed : (format : Format) → BookLong w → format.ObjectsPacked w → Packed format w
  zeros_packed format size objects =
      record {
        words = size;
        objects = objects;
        log = record {
          entries = omega (arith, zeros 0);
          as_stored = λ i l. absurd (not-suc-le-zero (rw (zeros 0) at l));
          unused = λ i l. zeros i;
        };
      }

  -- ---- The base

  rows_zero : (o : ℕ) → rows_at w o ≡ []
  rows_zero o = ap (λ (n : ℕ). tabulate n (row_at w o)) (zeros (object_start o + 1)) ∙ tabulate_zero (row_at w o)

  object_packed : (o : ℕ) → ObjectPacked w o
  object_packed o =
      record {
        kind = omega (arith, zeros (object_start o));
        rows = omega (arith, zeros (object_start o + 1));
        none = λ e. zeros (object_start o + 1);
        unused = λ i l m. zeros (object_start o + 2 + i);
      }

  pub base_zeros_sound : BookLong w → Sound base w
  base_zeros_sound size =
      let empty : Empty (decode base w) = zeros_empty base (λ o l. rows_zero o) in
      record {
        packed = zeros_packed base size (λ o l. object_packed o);
        store = empty_sound (decode base w) empty base (base_room (decode base w) empty);
      }
