-- Status words lowered, and the store that the book then holds.
use Prim.Native.Nat.{ℕ, ◌+◌, ◌<◌, ◌≤◌}
use Rattle.std.specs.Prelude.{◌≡◌, take, drop, set, get_or}
use Rattle.std.proofs.Math.Path.{refl}
use Rattle.std.proofs.Common.{sym, ap, ap₂, ◌∙◌, drop_at, take_all, append-nil, arith}
use Rattle.std.proofs.lemmas.List.{get_or_default}
use Rattle.std.proofs.lemmas.List.Edits.{map_over_more}
use Rattle.std.proofs.Math.ListN.{drop_of_length-le}
use borrow.Rule.Slice.PartMut.{put_mid}
use mathlib.Core.List.{List, [], ◌∷◌, ◌++◌, map}
use Rattle.std.proofs.Math.ListN.{length, length-map}
use Rattle.std.proofs.Math.Seq.{take-append_seam}
use Rattle.store.specs.Store.{Status, Store}
use Rattle.store.specs.Layout.{base, decode, encode, Packed, status_word}
use Rattle.store.specs.Steps.{lowered, closed_up}
use Rattle.store.proofs.Laws.Encoding.{status_read}
use Rattle.store.proofs.Theorems.{encoded, representable}
use Rattle.statuses.specs.Statuses.{lowered_word}

-- The words before place i changed by f, and then one more, and then all.
module _ (f : ℕ → ℕ) (ws part : List ℕ) (i : ℕ) where
  abbrev pub ChangedBefore : Type 0
  ChangedBefore = part ≡ map f (take i ws) ++ drop i ws

  pub changed_turn : (x : ℕ) → i < length ws → length part ≡ length ws → ChangedBefore → x ≡ f (get_or part i 0)
      → set part i x ≡ map f (take (i + 1) ws) ++ drop (i + 1) ws
  changed_turn x l long before e =
      ap (set part i) e
      ∙ map_over_more f ws part i (get_or part i 0) l before (get_or_default part i 0 (get_or part i 0) (omega arith))

  pub changed_all : length ws ≤ i → ChangedBefore → part ≡ map f ws
  changed_all l before =
      before
      ∙ ap₂ (λ (p r : List ℕ). map f p ++ r) (take_all i ws l) (drop_of_length-le ws l)
      ∙ append-nil (map f ws)

-- A part of the book changed.
mapped_part : (f : ℕ → ℕ) (x : ℕ) (ws rest : List ℕ)
    → put_mid 1 (length ws) (x ∷ (ws ++ rest)) (map f (take (length ws) (ws ++ rest))) ≡ x ∷ (map f ws ++ rest)
mapped_part f x ws rest =
    ap₂ (λ (p r : List ℕ). x ∷ (map f p ++ r)) (take-append_seam ws rest) (drop_at ws rest (length ws) refl)

module _ (out : ℕ) where
  words_lowered : (l : List Status) → map (lowered_word out) (map status_word l) ≡ map status_word (map (lowered out) l)
  words_lowered [] = refl
  words_lowered (x ∷ l) =
      ap₂ (λ (n : ℕ) (m : List ℕ). n ∷ m)
      (ap (λ (y : Status). status_word (lowered out y)) (status_read x)) (words_lowered l)

  store_lowered : (s : Store) → length s.statuses ≡ 64
      → put_mid 1 64 (encode base s) (map (lowered_word out) (take 64 (drop 1 (encode base s))))
      ≡ encode base (closed_up out s)
  unfolding encode
  store_lowered s l =
      let size : length (map status_word s.statuses) ≡ 64 = length-map s.statuses status_word ∙ l in
      rw (← words_lowered s.statuses)
      (ap
      (λ (n : ℕ). put_mid 1 n (encode base s) (map (lowered_word out) (take n (drop 1 (encode base s)))))
      (sym size)
      ∙ mapped_part (lowered_word out) (length s.log) (map status_word s.statuses) _)

  pub all_lowered : (w part : List ℕ) → Packed base w → part ≡ map (lowered_word out) (take 64 (drop 1 w))
      → put_mid 1 64 w part ≡ encode base (closed_up out (decode base w))
  all_lowered w part packed e =
      ap (put_mid 1 64 w) e
      ∙ ap (λ (b : List ℕ). put_mid 1 64 b (map (lowered_word out) (take 64 (drop 1 b)))) (sym (encoded w packed))
      ∙ store_lowered (decode base w) (representable w packed).statuses
