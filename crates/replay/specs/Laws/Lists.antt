-- A list with an element put in at a place, or left out: as loops do it, its length, and what a map makes of it.
use Rattle.std.specs.Prelude.{ℕ, zero, suc, ◌+◌, ◌-◌, ◌<◌, ◌≤◌, ◌≡◌, refl, List, [], ◌∷◌, ◌++◌, map, length, get_or}
use Rattle.std.specs.Prelude.{take, set, drop}
use Rattle.std.proofs.Common.{ap, sym, ◌∙◌, append-nil, append_assoc, not-suc-le-zero, le_of_suc-le-suc, arith}
use Rattle.std.proofs.Common.{length-append, length-take, length-drop, drop_of_length-le, take-take}
use Rattle.std.proofs.Math.Seq.{take-set-lt}
use Rattle.std.proofs.lemmas.List.{drop-take, take_more_set, set-append_left}
use Rattle.std.specs.List.{copy_within}
use Rattle.replay.specs.Replay.{put_at, removed_at}

module _ {A : Type 0} where
  pub take_taken : (n : ℕ) (xs : List A) → take (length (take n xs)) xs ≡ take n xs
  take_taken zero xs = refl
  take_taken (suc n) [] = refl
  take_taken (suc n) (x ∷ xs) = ap (λ q. x ∷ q) (take_taken n xs)

  pub put_last_lem : (xs : List A) (x : A) → put_at (length xs) x xs ≡ xs ++ (x ∷ [])
  put_last_lem [] x = refl
  put_last_lem (y ∷ ys) x = ap (λ q. y ∷ q) (put_last_lem ys x)

  pub removed_last : (xs : List A) (i : ℕ) → length xs ≤ suc i → removed_at i xs ≡ take i xs
  removed_last xs i h = rw (drop_of_length-le xs h, append-nil)

  pub length_put : (i : ℕ) (x : A) (xs : List A) → length (put_at i x xs) ≡ length xs + 1
  length_put i x xs = simp (length-append, length-take, length-drop) (omega arith)

  pub length_removed : (i : ℕ) (xs : List A) → i < length xs → length (removed_at i xs) ≡ length xs - 1
  length_removed i xs h = simp (length-append, length-take, length-drop) (omega arith)

  pub get_d_default : (xs : List A) (i : ℕ) (d e : A) → i < length xs → get_or xs i d ≡ get_or xs i e
  get_d_default [] i d e h = absurd (not-suc-le-zero h)
  get_d_default (x ∷ xs) zero d e h = refl
  get_d_default (x ∷ xs) (suc i) d e h = get_d_default xs i d e (le_of_suc-le-suc h)

  -- A gap opened in a list whose last element is free.
  pub opened : (xs : List A) (i : ℕ) (x : A) → i < length xs
      → set (copy_within xs i (length xs - 1) (i + 1)) i x ≡ put_at i x (take (length xs - 1) xs)
  opened xs i x h =
      let last = length xs - 1 in
      let moved = take (last - i) (drop i xs) in
      let end : i + 1 + (last - i) ≡ length xs = omega arith in
      let middle : drop i (take last xs) ≡ moved =
      ap (λ n. drop i (take n xs)) (omega arith) ∙ drop-take i (last - i) xs in
      let front : set (take (i + 1) xs) i x ≡ take i xs ++ (x ∷ []) =
      sym (take-set-lt (i + 1) xs i x (omega arith)) ∙ take_more_set xs i x h in
      let none : drop (length xs) xs ≡ [] = drop_of_length-le xs {i = length xs} (omega arith) in
      let within : i < length (take (i + 1) xs) = omega (arith, length-take (i + 1) xs) in
      rw (end, none, append-nil, set-append_left (take (i + 1) xs) moved i x, front, middle)
      (rw (take-take i last xs (omega arith)) (append_assoc (take i xs) (x ∷ []) moved))

module _ {A B : Type 0} (f : A → B) where
  pub map_take : (n : ℕ) (xs : List A) → map f (take n xs) ≡ take n (map f xs)
  map_take zero xs = refl
  map_take (suc n) [] = refl
  map_take (suc n) (x ∷ xs) = ap (λ q. f x ∷ q) (map_take n xs)

  pub map_put : (i : ℕ) (x : A) (xs : List A) → map f (put_at i x xs) ≡ put_at i (f x) (map f xs)
  map_put zero x xs = refl
  map_put (suc i) x [] = refl
  map_put (suc i) x (y ∷ ys) = ap (λ q. f y ∷ q) (map_put i x ys)

  pub map_removed : (i : ℕ) (xs : List A) → map f (removed_at i xs) ≡ removed_at i (map f xs)
  map_removed zero [] = refl
  map_removed (suc i) [] = refl
  map_removed zero (x ∷ xs) = refl
  map_removed (suc i) (x ∷ xs) = ap (λ q. f x ∷ q) (map_removed i xs)
