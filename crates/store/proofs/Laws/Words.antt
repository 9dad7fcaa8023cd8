-- Words by place: of lists after each other, of zeros, and of tables, whose rows have k words each.
use Rattle.std.specs.Prelude.{ℕ, zero, suc, ◌+◌, ◌-◌, ◌*◌, ◌/◌, ◌%◌, ◌≤◌, ◌<◌, ◌≡◌, refl, true, false, List, [], ◌∷◌}
use Rattle.std.specs.Prelude.{◌++◌, ltb, length, get_or, replicate}
use Rattle.std.proofs.Common.{sym, ap, ◌∙◌, subst, append_assoc, not-suc-le-zero, mul-zero, mul-suc, mul-le-mul_left}
use Rattle.std.proofs.Common.{zero-mul, mod-lt, arith, ltb-true, ltb-false, length-append, get_or-append-add}
use Rattle.std.proofs.Math.Nat.{div-add-mod, lt_of_mul-lt-mul_left}
use Rattle.std.proofs.lemmas.List.{length-replicate, get_or-replicate}
use Rattle.std.proofs.Math.ListN.{get_or-append, get_or-eq_default}
use Rattle.operations.specs.Operations.{All}
use Rattle.operations.proofs.Laws.Cases.{split}
use Rattle.store.specs.Layout.{word, tabulate, joined, padded}
use Rattle.store.proofs.Laws.Lists.{length_tabulate, get_d_tabulate, tabulate_same, tabulate_get_d, all_of}

pub below : {A : Type 0} (i n : ℕ) → (i < n → A) → (n ≤ i → A) → A
below i n less more =
    split (ltb i n) (λ (e : ltb i n ≡ true). less (ltb-true i n e)) (λ (e : ltb i n ≡ false). more (ltb-false i n e))

module _ {A : Type 0} where
  pub all_any : (P : A → Type 0) → ((x : A) → P x) → (l : List A) → All P l
  all_any P h [] = tt
  all_any P h (x ∷ l) = (h x, all_any P h l)

  pub all_get_d : (P : A → Type 0) (l : List A) → All P l → (i : ℕ) (d : A) → i < length l → P (get_or l i d)
  all_get_d P [] a i d l = absurd (not-suc-le-zero l)
  all_get_d P (x ∷ xs) a zero d l = a.0
  all_get_d P (x ∷ xs) a (suc i) d l = all_get_d P xs a.1 i d (omega arith)

  -- A function that has a list's elements at its places gives the list.
  pub tabulate_list : (l : List A) (d : A) (n : ℕ) (f : ℕ → A) → length l ≡ n
      → ((i : ℕ) → i < n → f i ≡ get_or l i d) → tabulate n f ≡ l
  tabulate_list l d n f e h =
      tabulate_same n f (λ i. get_or l i d) h ∙ ap (λ (m : ℕ). tabulate m (λ i. get_or l i d)) (sym e)
      ∙ tabulate_get_d l d

-- What holds at each place below a given number, as a tuple.
abbrev Each : (ℕ → Type 0) → ℕ → Type 0
Each P zero = Unit {0}
Each P (suc n) = P 0 × Each (λ i. P (suc i)) n

pub each : (P : ℕ → Type 0) (n : ℕ) → Each P n → (i : ℕ) → i < n → P i
each P zero e i l = absurd (not-suc-le-zero l)
each P (suc n) e zero l = e.0
each P (suc n) e (suc i) l = each (λ j. P (suc j)) n e.1 i (omega arith)

-- ---- Words of two lists after each other, and of zeros

pub word_after : (xs ys : List ℕ) (n i : ℕ) → length xs ≡ n → word (xs ++ ys) (n + i) ≡ word ys i
word_after xs ys n i e = subst (λ (m : ℕ). word (xs ++ ys) (m + i) ≡ word ys i) e (get_or-append-add xs ys i 0)

pub zeros_word : (n i : ℕ) → word (replicate n 0) i ≡ 0
zeros_word n i =
    below i n (get_or-replicate n i 0 0) (λ (l : n ≤ i). get_or-eq_default (replicate n 0) 0 (rw length-replicate l))

module _ (n : ℕ) (ws : List ℕ) where
  pub padded_length : length ws ≤ n → length (padded n ws) ≡ n
  padded_length l = simp (length-append, length-replicate) (omega arith)

  padded_word : (i : ℕ) → i < length ws → word (padded n ws) i ≡ word ws i
  padded_word i l = get_or-append ws (replicate (n - length ws) 0) 0 i l

  pub padded_past : (i : ℕ) → length ws ≤ i → word (padded n ws) i ≡ 0
  padded_past i l =
      let e : i ≡ length ws + (i - length ws) = omega arith in
      ap (word (padded n ws)) e ∙ get_or-append-add ws (replicate (n - length ws) 0) (i - length ws) 0
      ∙ zeros_word (n - length ws) (i - length ws)

pub joined_append : {A : Type 0} (f : A → List ℕ) (xs ys : List A) → joined f (xs ++ ys) ≡ joined f xs ++ joined f ys
joined_append f [] ys = refl
joined_append f (x ∷ xs) ys =
    ap (λ (l : List ℕ). f x ++ l) (joined_append f xs ys) ∙ sym (append_assoc (f x) (joined f xs) (joined f ys))

-- ---- Rows of k words

module _ {A : Type 0} (f : A → List ℕ) (k : ℕ) where
  -- Each element has k words.
  abbrev pub Rows : List A → Type 0
  Rows xs = All (λ (x : A). length (f x) ≡ k) xs

  pub joined_length : (xs : List A) → Rows xs → length (joined f xs) ≡ k * length xs
  joined_length [] r = sym (mul-zero k)
  joined_length (x ∷ xs) r =
      omega (arith, length-append (f x) (joined f xs), joined_length xs r.1, r.0, mul-suc k (length xs))

  pub joined_word : (xs : List A) → Rows xs → (d : A) (i j : ℕ) → i < length xs → j < k
      → word (joined f xs) (k * i + j) ≡ word (f (get_or xs i d)) j
  joined_word [] r d i j l m = absurd (not-suc-le-zero l)
  joined_word (x ∷ xs) r d zero j l m =
      let e : k * 0 + j ≡ j = omega (arith, mul-zero k) in
      ap (word (f x ++ joined f xs)) e ∙ get_or-append (f x) (joined f xs) 0 j (rw r.0 m)
  joined_word (x ∷ xs) r d (suc i) j l m =
      let e : k * suc i + j ≡ k + (k * i + j) = omega (arith, mul-suc k i) in
      ap (word (f x ++ joined f xs)) e ∙ word_after (f x) (joined f xs) k (k * i + j) r.0
      ∙ joined_word xs r.1 d i j (omega arith) m

  pub padded_row : (size : ℕ) (xs : List A) → Rows xs → (d : A) (i j : ℕ) → i < length xs → j < k
      → word (padded size (joined f xs)) (k * i + j) ≡ word (f (get_or xs i d)) j
  padded_row size xs r d i j l m =
      padded_word size (joined f xs) (k * i + j) (omega (arith, joined_length xs r, mul-suc k i, mul-le-mul_left k l))
      ∙ joined_word xs r d i j l m

  -- A place in rows is a place in one of them.
  by_row : (P : ℕ → Type 0) (n : ℕ) → ((i j : ℕ) → i < n → j < k → P (k * i + j)) → (p : ℕ) → p < k * n → P p
  by_row P n h p l =
      let positive : 0 < k =
      below 0 k (λ m. m)
      (λ (m : k ≤ 0). let e : k ≡ 0 = omega arith in absurd (omega (arith, ap (λ (j : ℕ). j * n) e, zero-mul n))) in
      subst P (div-add-mod p k)
      (h (p / k) (p % k) (lt_of_mul-lt-mul_left k (omega (arith, div-add-mod p k))) (mod-lt p positive))

  -- Rows that have certain words, each at each place, have them throughout.
  pub joined_same : (n : ℕ) (g : ℕ → A) (ws : ℕ → ℕ) → ((i : ℕ) → i < n → length (f (g i)) ≡ k)
      → ((i j : ℕ) → i < n → j < k → word (f (g i)) j ≡ ws (k * i + j)) → (p : ℕ) → p < k * n
      → word (joined f (tabulate n g)) p ≡ ws p
  joined_same n g ws r h =
      by_row (λ (p : ℕ). word (joined f (tabulate n g)) p ≡ ws p) n
      (λ (i j : ℕ) (l : i < n) (m : j < k). joined_word (tabulate n g) (all_of (λ (x : A). length (f x) ≡ k) n g r)
      (g 0) i j (rw length_tabulate l) m
      ∙ ap (λ (x : A). word (f x) j) (get_d_tabulate n g i (g 0) l) ∙ h i j l m)

  -- So too with zeros after them.
  pub padded_same : (size n : ℕ) (g : ℕ → A) (ws : ℕ → ℕ) → ((i : ℕ) → i < n → length (f (g i)) ≡ k)
      → ((i j : ℕ) → i < n → j < k → word (f (g i)) j ≡ ws (k * i + j)) → ((p : ℕ) → k * n ≤ p → p < size → ws p ≡ 0)
      → (p : ℕ) → p < size → word (padded size (joined f (tabulate n g))) p ≡ ws p
  padded_same size n g ws r h z p l =
      let e : length (joined f (tabulate n g)) ≡ k * n =
      joined_length (tabulate n g) (all_of (λ (x : A). length (f x) ≡ k) n g r)
      ∙ ap (λ (m : ℕ). k * m) (length_tabulate n g) in
      below p (k * n)
      (λ (m : p < k * n). padded_word size (joined f (tabulate n g)) p (rw e m) ∙ joined_same n g ws r h p m)
      (λ (m : k * n ≤ p). padded_past size (joined f (tabulate n g)) p (rw e m) ∙ sym (z p m l))
