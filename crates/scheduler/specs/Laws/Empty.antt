-- The words of an empty book: the kinds of its objects, and all else 0.
use Rattle.std.specs.Prelude.{ℕ, ◌+◌, ◌≤◌, ◌<◌, ◌≡◌, refl, false, List, [], ◌∷◌, map, length, get_or, set, replicate}
use Rattle.std.proofs.Common.{sym, ap, ◌∙◌, subst, not-suc-le-zero, arith, length-set, get_or-set_same, le-ltb}
use Rattle.std.proofs.Common.{get_or-set_other}
use Rattle.std.proofs.lemmas.List.{length-map, length-replicate, get_or-replicate}
use Rattle.std.proofs.Math.ListN.{get_or-map}
use Rattle.operations.specs.Operations.{All}
use Rattle.operations.proofs.Laws.Cases.{same}
use Rattle.store.specs.Layout.{BookLong}
use Rattle.store.specs.Store.{absent, Object}
use Rattle.store.specs.Layout.{base, word, tabulate, encode, decode, read_status, read_kind, status_at, object_start}
use Rattle.store.specs.Layout.{read_object, row_at, rows_at, entry_at, ObjectPacked, Packed}
use Rattle.store.proofs.Theorems.{encoded}
use Rattle.store.proofs.Laws.Lists.{tabulate_zero}
use Rattle.store.proofs.Laws.Words.{below, zeros_word, all_get_d, tabulate_list}
use Rattle.protocol.specs.Calls.{empty, some_above}

-- None is above n where each is at most n.
pub known_below : (n : ℕ) (kinds : List ℕ) → All (λ k. k ≤ n) kinds → some_above n kinds ≡ false
known_below n [] known = refl
known_below n (k ∷ kinds) known = rw (le-ltb n k known.0) (known_below n kinds known.1)

-- The kinds of the first n objects stand, and all else is 0.
pub record Written (kinds : List ℕ) (n : ℕ) (w : List ℕ) : Type 0 where
  pub words : BookLong w
  pub kind : (o : ℕ) → o < n → word w (object_start o) ≡ get_or kinds o 0
  pub rest : (p : ℕ) → ((o : ℕ) → o < n → p ≡ object_start o → ⊥) → word w p ≡ 0

pub none_written : (kinds w zeros : List ℕ) → BookLong w → zeros ≡ replicate (length w) 0 → Written kinds 0 zeros
none_written kinds w zeros size e =
    record {
      words = ap length e ∙ length-replicate (length w) 0 ∙ size;
      kind = λ o l. absurd (not-suc-le-zero l);
      rest = λ p other. ap (λ (x : List ℕ). word x p) e ∙ zeros_word (length w) p;
    }

pub one_written : (kinds : List ℕ) (n : ℕ) (w : List ℕ) → n < 16 → Written kinds n w
    → Written kinds (n + 1) (set w (object_start n) (get_or kinds n 0))
one_written kinds n w l before =
    record {
      words = length-set w (object_start n) (get_or kinds n 0) ∙ before.words;
      kind = λ o m. same o n
          (λ (e : o ≡ n).
          subst (λ (u : ℕ). word (set w (object_start n) (get_or kinds n 0)) (object_start u) ≡ get_or kinds u 0)
          (sym e)
          (get_or-set_same w (object_start n) (get_or kinds n 0) 0 (omega (arith, before.words))))
          (λ (other : o ≡ n → ⊥).
          get_or-set_other w (object_start n) (object_start o) (get_or kinds n 0) 0 (λ e. other (omega arith))
          ∙ before.kind o (omega arith));
      rest = λ p other.
          get_or-set_other w (object_start n) p (get_or kinds n 0) 0 (other n (omega arith))
          ∙ before.rest p (λ o m. other o (omega arith));
    }

-- ---- All are written

module _ (kinds w : List ℕ) (written : Written kinds 16 w) (size : length kinds ≡ 16)
    (known : All (λ k. k ≤ 3) kinds) where
  no_status : (t : ℕ) → t < 64 → word w (1 + t) ≡ 0
  no_status t l = written.rest (1 + t) (λ o m e. omega arith)

  -- Past the word of its kind, an object has zeros.
  no_rows : (o j : ℕ) → j < 129 → word w (object_start o + 1 + j) ≡ 0
  no_rows o j l =
      written.rest (object_start o + 1 + j)
      (λ u m e. below o u (λ (n : o < u). absurd (omega arith)) (λ (n : u ≤ o). absurd (omega arith)))

  no_entries : word w 0 ≡ 0
  no_entries = written.rest 0 (λ o m e. omega arith)

  count : (o : ℕ) → word w (object_start o + 1) ≡ 0
  count o = ap (word w) (omega arith) ∙ no_rows o 0 (omega arith)

  object_packed : (o : ℕ) → o < 16 → ObjectPacked w o
  object_packed o l =
      record {
        kind = rw (written.kind o l) (all_get_d (λ k. k ≤ 3) kinds known o 0 (rw size l));
        rows = omega (arith, count o);
        none = λ e. count o;
        unused = λ i m n. ap (word w) (omega arith) ∙ no_rows o (1 + i) (omega arith);
      }

  is_packed : Packed base w
  is_packed =
      record {
        words = written.words;
        objects = object_packed;
        log = record {
          entries = omega (arith, no_entries);
          as_stored = λ i l. absurd (not-suc-le-zero (rw no_entries at l));
          unused = λ i l. written.rest i (λ o m e. omega (arith, no_entries));
        };
      }

  abbrev object : ℕ → Object
  object k = record { kind = read_kind k; rows = [] }

  object_read : (o : ℕ) → o < 16 → read_object w o ≡ get_or (map object kinds) o (object 0)
  object_read o l =
      let rows : rows_at w o ≡ [] = ap (λ (n : ℕ). tabulate n (row_at w o)) (count o) ∙ tabulate_zero (row_at w o) in
      let read : read_object w o ≡ object (get_or kinds o 0) =
      λ i. record { kind = read_kind (written.kind o l i); rows = rows i } in
      read ∙ sym (get_or-map object kinds o 0)

  pub all_written : w ≡ encode base (empty kinds)
  all_written =
      let statuses : tabulate 64 (status_at w) ≡ replicate 64 absent =
      tabulate_list (replicate 64 absent) absent 64 (status_at w) (length-replicate 64 absent)
      (λ t l. ap read_status (no_status t l) ∙ sym (get_or-replicate 64 t absent absent l)) in
      let objects : tabulate 16 (read_object w) ≡ map object kinds =
      tabulate_list (map object kinds) (object 0) 16 (read_object w) (length-map kinds object ∙ size) object_read in
      let log : tabulate (word w 0) (entry_at w) ≡ [] =
      ap (λ (n : ℕ). tabulate n (entry_at w)) no_entries ∙ tabulate_zero (entry_at w) in
      let read : decode base w ≡ empty kinds =
      λ i. record { statuses = statuses i; objects = objects i; log = log i } in
      sym (encoded w is_packed) ∙ ap (encode base) read
