-- A key sought by halves among an object's rows in the book, whose keys ascend.
use Rattle.std.specs.Prelude.{ℕ, zero, suc, ◌+◌, ◌-◌, ◌≤◌, ◌<◌, ◌≡◌, refl, List}
use Rattle.std.proofs.Common.{sym, ap, ◌∙◌, arith}
use Rattle.std.proofs.Math.Option.{none, some}
use Rattle.operations.specs.Operations.{Row, answering, valued, found, Ascending}
use Rattle.operations.proofs.Laws.Rows.{order, by_order_less, by_order_equal, by_order_greater}
use Rattle.store.specs.Layout.{word, tabulate, object_start, row_at, rows_at}
use Rattle.store.proofs.Laws.Lists.{all_each}

-- ---- Rows by place

rising : (n : ℕ) (f : ℕ → Row) → Ascending (tabulate n f) → (p q : ℕ) → p < q → q < n → (f p).key < (f q).key
unfolding tabulate
rising zero f a p q l m = absurd (omega arith)
rising (suc n) f a zero zero l m = absurd (omega arith)
rising (suc n) f a zero (suc q) l m =
    all_each (λ (r : Row). (f 0).key < r.key) n (λ i. f (suc i)) a.0 q (omega arith)
rising (suc n) f a (suc p) zero l m = absurd (omega arith)
rising (suc n) f a (suc p) (suc q) l m = rising n (λ i. f (suc i)) a.1 p q (omega arith) (omega arith)

found_at : (n : ℕ) (f : ℕ → Row) → Ascending (tabulate n f) → (p : ℕ) → p < n
    → found (f p).key (tabulate n f) ≡ some (f p).value
unfolding tabulate
found_at zero f a p l = absurd (omega arith)
found_at (suc n) f a zero l = by_order_equal _ _ _ refl
found_at (suc n) f a (suc p) l =
    by_order_less _ _ _ (rising (suc n) f a 0 (suc p) (omega arith) l)
    ∙ found_at n (λ i. f (suc i)) a.1 p (omega arith)

found_none : (n : ℕ) (f : ℕ → Row) (k : ℕ) → ((p : ℕ) → p < n → (f p).key ≡ k → ⊥) → found k (tabulate n f) ≡ none
unfolding tabulate
found_none zero f k h = refl
found_none (suc n) f k h =
    order (f 0).key k
    (λ (l : (f 0).key < k). by_order_less _ _ _ l ∙ found_none n (λ i. f (suc i)) k (λ p m. h (suc p) (omega arith)))
    (λ (e : (f 0).key ≡ k). absurd (h 0 (omega arith) e)) (λ (l : k < (f 0).key). by_order_greater _ _ _ l)

-- ---- The search

-- The key, if it is there, is at one of `left` places from `low` on.
pub record Seeking (w : List ℕ) (o key low left : ℕ) : Type 0 where
  pub within : low + left ≤ word w (object_start o + 1)
  pub between : (p : ℕ) → p < word w (object_start o + 1) → (row_at w o p).key ≡ key → (low ≤ p) × (p < low + left)

module _ (w : List ℕ) (o key : ℕ) where
  module _ (ascending : Ascending (rows_at w o)) {low left : ℕ} (s : Seeking w o key low left) where
    rises : (p q : ℕ) → p < q → q < word w (object_start o + 1) → (row_at w o p).key < (row_at w o q).key
    rises = rising (word w (object_start o + 1)) (row_at w o) ascending

    pub seek_above : (half : ℕ) → half < left → (row_at w o (low + half)).key ≤ key
        → Seeking w o key (low + half) (left - half)
    seek_above half h l =
        record {
          within = omega (arith, s.within);
          between = λ p m e.
              order p (low + half)
              (λ (b : p < low + half). absurd (omega (arith, rises p (low + half) b (omega (arith, s.within)), l, e)))
              (λ (b : p ≡ low + half). (omega arith, omega (arith, s.between p m e)))
              (λ (b : low + half < p). (omega arith, omega (arith, s.between p m e)));
        }

    pub seek_below : (half : ℕ) → half + half ≤ left → key < (row_at w o (low + half)).key
        → Seeking w o key low (left - half)
    seek_below half h l =
        record {
          within = omega (arith, s.within);
          between = λ p m e.
              order p (low + half) (λ (b : p < low + half). ((s.between p m e).0, omega arith))
              (λ (b : p ≡ low + half). absurd (omega (arith, l, e, ap (λ (q : ℕ). (row_at w o q).key) b)))
              (λ (b : low + half < p). absurd (omega (arith, rises (low + half) p b m, l, e)));
        }

    pub seek_found : left ≡ 1 → (row_at w o low).key ≡ key
        → answering 1 (row_at w o low).value ≡ valued (found key (rows_at w o))
    seek_found one e =
        ap valued (sym (found_at (word w (object_start o + 1)) (row_at w o) ascending low (omega (arith, s.within))))
        ∙ ap (λ (k : ℕ). valued (found k (rows_at w o))) e

    pub seek_absent : left ≤ 1 → (left ≡ 1 → (row_at w o low).key ≡ key → ⊥)
        → answering 0 0 ≡ valued (found key (rows_at w o))
    seek_absent l n =
        ap valued
        (sym
        (found_none (word w (object_start o + 1)) (row_at w o) key
        (λ p m e.
        let b = s.between p m e in
        let here : p ≡ low = omega (arith, b, l) in
        n (omega (arith, b, l)) (ap (λ (q : ℕ). (row_at w o q).key) (sym here) ∙ e))))
