-- Elements of a list moved up or down by `copy_within`, and others written where they stood.
use Rattle.std.specs.Prelude.{ℕ, ◌+◌, ◌-◌, ◌≡◌, List, ◌++◌, length, take, drop}
use Rattle.std.proofs.Common.{sym, ap, ap₂, ◌∙◌, append_assoc, arith, length-append, length-take-le}
use Rattle.std.proofs.lemmas.List.{take_at, drop_at, drop-drop}
use Rattle.std.proofs.Math.Seq.{take-append-add, drop-append-add}
use Rattle.std.specs.List.{copy_within}
use borrow.Rule.Slice.PartMut.{put_mid}

module _ {A : Type 0} (a b c d x : List A) where
  -- b, behind a, moves up over c; x is written behind a.
  pub moved_up : (i j k m : ℕ) → length a ≡ i → i + length b ≡ j → length c ≡ k → m ≡ k
      → put_mid i m (copy_within (a ++ (b ++ (c ++ d))) i j (i + k)) x ≡ a ++ (x ++ (b ++ d))
  moved_up i j k m ea eb ec em =
      let whole = a ++ (b ++ (c ++ d)) in
      let kept = take k (b ++ (c ++ d)) in
      let size : length kept ≡ k =
      length-take-le k (b ++ (c ++ d)) (omega (arith, length-append b (c ++ d), length-append c d)) in
      let head : take (i + k) whole ≡ a ++ kept =
      ap (λ n. take (n + k) whole) (sym ea) ∙ take-append-add a (b ++ (c ++ d)) k in
      let middle : take (j - i) (drop i whole) ≡ b =
      ap (take (j - i)) (drop_at a (b ++ (c ++ d)) i ea) ∙ take_at b (c ++ d) (j - i) (omega arith) in
      let end : drop (i + k + (j - i)) whole ≡ d =
      ap₂ (λ (n : ℕ) (l : List A). drop n l) (omega (arith, length-append b c))
      (ap (λ l. a ++ l) (sym (append_assoc b c d)))
      ∙ drop-append-add a ((b ++ c) ++ d) (length (b ++ c)) ∙ drop_at (b ++ c) d (length (b ++ c)) (omega arith) in
      let moved : copy_within whole i j (i + k) ≡ (a ++ kept) ++ (b ++ d) =
      ap₂ (λ (u v : List A). u ++ v) (ap₂ (λ (u v : List A). u ++ v) head middle) end
      ∙ append_assoc (a ++ kept) b d in
      let front : take i ((a ++ kept) ++ (b ++ d)) ≡ a =
      ap (take i) (append_assoc a kept (b ++ d)) ∙ take_at a (kept ++ (b ++ d)) i ea in
      let behind : drop m (drop i ((a ++ kept) ++ (b ++ d))) ≡ b ++ d =
      ap (drop m) (ap (drop i) (append_assoc a kept (b ++ d)) ∙ drop_at a (kept ++ (b ++ d)) i ea)
      ∙ drop_at kept (b ++ d) m (size ∙ sym em) in
      ap (λ l. put_mid i m l x) moved ∙ ap₂ (λ (u v : List A). u ++ (x ++ v)) front behind

  -- b, behind c, moves down over c; x is written behind b.
  pub moved_down : (i j k n m : ℕ) → length a ≡ i → length c ≡ k → i + k + length b ≡ j → n ≡ i + length b → m ≡ k
      → put_mid n m (copy_within (a ++ (c ++ (b ++ d))) (i + k) j i) x ≡ a ++ (b ++ (x ++ d))
  moved_down i j k n m ea ec eb en em =
      let whole = a ++ (c ++ (b ++ d)) in
      let rest = drop (i + (j - (i + k))) whole in
      let head : take i whole ≡ a = take_at a (c ++ (b ++ d)) i ea in
      let middle : take (j - (i + k)) (drop (i + k) whole) ≡ b =
      ap (take (j - (i + k))) (ap (λ p. drop (p + k) whole) (sym ea) ∙ drop-append-add a (c ++ (b ++ d)) k
      ∙ drop_at c (b ++ d) k ec) ∙ take_at b d (j - (i + k)) (omega arith) in
      let moved : copy_within whole (i + k) j i ≡ (a ++ b) ++ rest =
      ap (λ l. l ++ rest) (ap₂ (λ (u v : List A). u ++ v) head middle) in
      let size : length (a ++ b) ≡ n = omega (arith, length-append a b) in
      let end : drop m rest ≡ d =
      drop-drop m (i + (j - (i + k))) whole
      ∙ ap₂ (λ (p : ℕ) (l : List A). drop p l) (omega (arith, length-append c b))
      (ap (λ l. a ++ l) (sym (append_assoc c b d)))
      ∙ drop-append-add a ((c ++ b) ++ d) (length (c ++ b)) ∙ drop_at (c ++ b) d (length (c ++ b)) (omega arith) in
      ap (λ l. put_mid n m l x) moved
      ∙ ap₂ (λ (u v : List A). u ++ (x ++ v)) (take_at (a ++ b) rest n size)
      (ap (drop m) (drop_at (a ++ b) rest n size) ∙ end)
      ∙ append_assoc a b (x ++ d)
