-- Lists of the first values of a function, by index.
use Prim.Native.Nat.{ℕ, zero, suc, ◌+◌, ◌≤◌, ◌<◌}
use Rattle.std.specs.Prelude.{◌≡◌, length, get_or, drop}
use Rattle.std.proofs.Math.Path.{refl, ap, ap₂}
use Rattle.std.proofs.Common.{sym, ◌∙◌, not-suc-le-zero, add-one, arith, drop_of_length-le, drop-cons}
use Rattle.std.proofs.Math.Logic.{inl, inr}
use mathlib.Core.List.{List, [], ◌∷◌, ◌++◌}
use Rattle.std.proofs.Math.Nat.{zero-lt-suc}
use Rattle.operations.specs.Operations.{All}
use Rattle.store.specs.Dependency.{Any, Follows}
use Rattle.store.specs.Layout.{tabulate}

module _ {A : Type 0} where
  pub tabulate_zero : (f : ℕ → A) → tabulate 0 f ≡ []
  unfolding tabulate
  tabulate_zero f = refl

  pub length_tabulate : (n : ℕ) (f : ℕ → A) → length (tabulate n f) ≡ n
  unfolding tabulate
  length_tabulate zero f = refl
  length_tabulate (suc n) f = ap suc (length_tabulate n (λ i. f (suc i)))

  pub get_d_tabulate : (n : ℕ) (f : ℕ → A) (i : ℕ) (d : A) → i < n → get_or (tabulate n f) i d ≡ f i
  unfolding tabulate
  get_d_tabulate zero f i d l = absurd (not-suc-le-zero l)
  get_d_tabulate (suc n) f zero d l = refl
  get_d_tabulate (suc n) f (suc i) d l = get_d_tabulate n (λ j. f (suc j)) i d (omega arith)

  pub get_d_past : (n : ℕ) (f : ℕ → A) (i : ℕ) (d : A) → n ≤ i → get_or (tabulate n f) i d ≡ d
  unfolding tabulate
  get_d_past zero f i d l = refl
  get_d_past (suc n) f zero d l = absurd (not-suc-le-zero l)
  get_d_past (suc n) f (suc i) d l = get_d_past n (λ j. f (suc j)) i d (omega arith)

  -- The values from a place on.
  pub drop_tabulate : (n : ℕ) (f : ℕ → A) (i : ℕ) → i < n → drop i (tabulate n f) ≡ f i ∷ drop (i + 1) (tabulate n f)
  drop_tabulate n f i l =
      drop-cons (tabulate n f) i (f i) (rw length_tabulate l)
      ∙ ap₂ (λ (x : A) (j : ℕ). x ∷ drop j (tabulate n f)) (get_d_tabulate n f i (f i) l) (sym (add-one i))

  pub drop_past : (n : ℕ) (f : ℕ → A) (i : ℕ) → n ≤ i → drop i (tabulate n f) ≡ []
  drop_past n f i l = drop_of_length-le (tabulate n f) {i = i} (rw length_tabulate l)

  pub tabulate_same : (n : ℕ) (f g : ℕ → A) → ((i : ℕ) → i < n → f i ≡ g i) → tabulate n f ≡ tabulate n g
  unfolding tabulate
  tabulate_same zero f g e = refl
  tabulate_same (suc n) f g e =
      ap₂ (λ (x : A) (l : List A). x ∷ l) (e 0 (zero-lt-suc n))
      (tabulate_same n (λ i. f (suc i)) (λ i. g (suc i)) (λ i l. e (suc i) (omega arith)))

  pub tabulate_snoc : (n : ℕ) (f : ℕ → A) → tabulate (suc n) f ≡ tabulate n f ++ (f n ∷ [])
  unfolding tabulate
  tabulate_snoc zero f = refl
  tabulate_snoc (suc n) f = ap (λ (l : List A). f 0 ∷ l) (tabulate_snoc n (λ i. f (suc i)))

  -- A list is the values at its places.
  pub tabulate_get_d : (l : List A) (d : A) → tabulate (length l) (λ i. get_or l i d) ≡ l
  unfolding tabulate
  tabulate_get_d [] d = refl
  tabulate_get_d (x ∷ l) d = ap (λ (m : List A). x ∷ m) (tabulate_get_d l d)

  pub all_each : (P : A → Type 0) (n : ℕ) (f : ℕ → A) → All P (tabulate n f) → (i : ℕ) → i < n → P (f i)
  unfolding tabulate
  all_each P zero f p i l = absurd (not-suc-le-zero l)
  all_each P (suc n) f p zero l = p.0
  all_each P (suc n) f p (suc i) l = all_each P n (λ j. f (suc j)) p.1 i (omega arith)

  pub all_of : (P : A → Type 0) (n : ℕ) (f : ℕ → A) → ((i : ℕ) → i < n → P (f i)) → All P (tabulate n f)
  unfolding tabulate
  all_of P zero f h = tt
  all_of P (suc n) f h = (h 0 (zero-lt-suc n), all_of P n (λ i. f (suc i)) (λ i l. h (suc i) (omega arith)))

  -- Some value below n is such.
  abbrev pub Below : (A → Type 0) → ℕ → (ℕ → A) → Type 0
  Below P n f = (i : ℕ) × (i < n) × P (f i)

  any_suc : (P : A → Type 0) (n : ℕ) (f : ℕ → A) → Below P n (λ i. f (suc i)) → Below P (suc n) f
  any_suc P n f (i, l, p) = (suc i, omega arith, p)

  pub any_some : (P : A → Type 0) (n : ℕ) (f : ℕ → A) → Any P (tabulate n f) → Below P n f
  unfolding tabulate
  any_some P zero f p = absurd p
  any_some P (suc n) f (inl p) = (0, zero-lt-suc n, p)
  any_some P (suc n) f (inr p) = any_suc P n f (any_some P n (λ i. f (suc i)) p)

  pub any_of : (P : A → Type 0) (n : ℕ) (f : ℕ → A) (i : ℕ) → i < n → P (f i) → Any P (tabulate n f)
  unfolding tabulate
  any_of P zero f i l p = absurd (not-suc-le-zero l)
  any_of P (suc n) f zero l p = inl p
  any_of P (suc n) f (suc i) l p = inr (any_of P n (λ j. f (suc j)) i (omega arith) p)

  -- The values at some place and at a later one are so related.
  abbrev pub PairBelow : (A → A → Type 0) → ℕ → (ℕ → A) → Type 0
  PairBelow R n f = (j i : ℕ) × (j < i) × (i < n) × R (f j) (f i)

  follows_first : (R : A → A → Type 0) (n : ℕ) (f : ℕ → A) → Below (R (f 0)) n (λ i. f (suc i)) → PairBelow R (suc n) f
  follows_first R n f (i, l, p) = (0, suc i, zero-lt-suc i, omega arith, p)

  follows_suc : (R : A → A → Type 0) (n : ℕ) (f : ℕ → A) → PairBelow R n (λ i. f (suc i)) → PairBelow R (suc n) f
  follows_suc R n f (j, i, l, m, p) = (suc j, suc i, omega arith, omega arith, p)

  pub follows_some : (R : A → A → Type 0) (n : ℕ) (f : ℕ → A) → Follows R (tabulate n f) → PairBelow R n f
  unfolding tabulate
  follows_some R zero f p = absurd p
  follows_some R (suc n) f (inl p) = follows_first R n f (any_some (R (f 0)) n (λ i. f (suc i)) p)
  follows_some R (suc n) f (inr p) = follows_suc R n f (follows_some R n (λ i. f (suc i)) p)

  pub follows_of : (R : A → A → Type 0) (n : ℕ) (f : ℕ → A) (j i : ℕ) → j < i → i < n → R (f j) (f i)
      → Follows R (tabulate n f)
  unfolding tabulate
  follows_of R zero f j i l m p = absurd (not-suc-le-zero m)
  follows_of R (suc n) f zero zero l m p = absurd (omega arith)
  follows_of R (suc n) f zero (suc i) l m p = inl (any_of (R (f 0)) n (λ k. f (suc k)) i (omega arith) p)
  follows_of R (suc n) f (suc j) zero l m p = absurd (omega arith)
  follows_of R (suc n) f (suc j) (suc i) l m p = inr (follows_of R n (λ k. f (suc k)) j i (omega arith) (omega arith) p)
