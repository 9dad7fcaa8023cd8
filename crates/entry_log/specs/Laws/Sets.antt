-- Words written over a list from a place on.
use Rattle.std.specs.Prelude.{ℕ, suc, ◌+◌, ◌-◌, ◌≤◌, ◌≡◌, List, [], ◌∷◌, ◌++◌, length, set, take, drop}
use Rattle.std.proofs.Common.{sym, ap, ◌∙◌, append_assoc, arith, length-append, length-drop, length-take-le}
use Rattle.std.proofs.Common.{drop-drop}
use borrow.Rule.Slice.PartMut.{put_mid}
use Rattle.std.proofs.lemmas.List.{length-replicate, replicate-append-replicate}
use Rattle.std.proofs.lemmas.List.Edits.{sets, sets-eq}
use Rattle.store.specs.Layout.{padded}
use Rattle.store.proofs.Laws.Writing.{zeros, sets_seam}

module _ {A : Type 0} where
  pub sets_append : (l : List A) (i : ℕ) (xs ys : List A) → sets (sets l i xs) (i + length xs) ys ≡ sets l i (xs ++ ys)
  sets_append l i [] ys =
      let e : i + 0 ≡ i = omega arith in
      ap (λ (n : ℕ). sets l n ys) e
  sets_append l i (x ∷ xs) ys =
      let e : i + suc (length xs) ≡ suc i + length xs = omega arith in
      ap (λ (n : ℕ). sets (sets (set l i x) (suc i) xs) n ys) e ∙ sets_append (set l i x) (suc i) xs ys

-- A part with other words, as many.
pub part_written : (l part : List ℕ) (a k : ℕ) → length part ≡ k → a + k ≤ length l → put_mid a k l part ≡ sets l a part
part_written l part a k many fits =
    let within : a + length part ≤ length l = omega arith in
    ap (λ (r : List ℕ). take a l ++ (part ++ r)) (drop-drop k a l ∙ ap (λ (m : ℕ). drop (a + m) l) (sym many))
    ∙ sym (append_assoc (take a l) part (drop (a + length part) l)) ∙ sym (sets-eq part l a within)

-- Zeros from place a to place b.
module _ (l : List ℕ) (a b : ℕ) where
  abbrev pub Cleared : List ℕ → Type 0
  Cleared m = m ≡ sets l a (zeros (b - a))

  pub part_cleared : (part : List ℕ) → a ≤ b → b ≤ length l → part ≡ zeros (length (take (b - a) (drop a l)))
      → Cleared (put_mid a (b - a) l part)
  part_cleared part h k e =
      let size : length (take (b - a) (drop a l)) ≡ b - a = length-take-le (b - a) (drop a l)
      (rw length-drop (omega arith)) in
      let zeroed : part ≡ zeros (b - a) = e ∙ ap zeros size in
      part_written l part a (b - a) (ap length zeroed ∙ length-replicate (b - a) 0) (omega arith)
      ∙ ap (sets l a) zeroed

-- ---- Words that zeros fill up

-- Filled up to n first.
padded_from : (size : ℕ) (ws : List ℕ) (n : ℕ) → length ws ≤ n → n ≤ size
    → (ws ++ zeros (n - length ws)) ++ zeros (size - n) ≡ padded size ws
padded_from size ws n h m =
    let more : (n - length ws) + (size - n) ≡ size - length ws = omega arith in
    rw (append_assoc, replicate-append-replicate, more)

-- Others in their place, no more than they, with zeros for those left over.
pub padded_over : (size : ℕ) (p j ws : List ℕ) → length ws ≤ length j → length j ≤ size
    → sets (p ++ padded size j) (length p) (ws ++ zeros (length j - length ws)) ≡ p ++ padded size ws
padded_over size p j ws h m =
    let many : length j ≡ length (ws ++ zeros (length j - length ws)) =
    simp (length-append, length-replicate) (omega arith) in
    sets_seam p j (ws ++ zeros (length j - length ws)) (zeros (size - length j)) many
    ∙ ap (λ (l : List ℕ). p ++ l) (padded_from size ws (length j) h m)
