-- Laws of rows with ascending keys: what each change does to the value found at a key, and that ascending rows with the
-- same values are equal.
use Rattle.std.specs.Prelude.{ℕ, ◌<◌, ◌≤◌, ◌≡◌, refl, Bool, true, false, cond, List, [], ◌∷◌, ◌++◌, map, ltb, eqb}
use Rattle.std.specs.Prelude.{length}
use Rattle.std.proofs.Common.{sym, ap, ◌∙◌, lt_of_le_of_lt, lt_trans, arith}
use Rattle.std.proofs.Math.Option.{Option, none, some, none-ne-some}
use borrow.Author.Tests.{lt-ltb, le-ltb, eq-eqb, ne_eqb, ltb-true, ltb-false, eqb-true, eqb-false}
use Rattle.std.proofs.lemmas.List.{length-map}
use Rattle.operations.specs.Operations.{Row, row, All, Ascending, by_order, found, present, inserted, deleted}
use Rattle.operations.specs.Operations.{modified}
use Rattle.operations.proofs.Laws.Cases.{split, by_key, all_map, all_append}

-- ---- The three cases of an order

pub order : {A : Type 0} (j k : ℕ) → (j < k → A) → (j ≡ k → A) → (k < j → A) → A
order j k less equal greater =
    split (ltb j k) (λ (e : ltb j k ≡ true). less (ltb-true j k e))
    (λ (l : ltb j k ≡ false).
    split (eqb j k) (λ (e : eqb j k ≡ true). equal (eqb-true j k e))
    (λ (e : eqb j k ≡ false). greater (below (ltb-false j k l) (eqb-false j k e))))
  where
    below : k ≤ j → (j ≡ k → ⊥) → k < j
    below h n = omega arith

module _ {A : Type 0} {j k : ℕ} (a b c : A) where
  pub by_order_less : j < k → by_order j k a b c ≡ a
  unfolding by_order
  by_order_less h = rw (lt-ltb j k h)

  pub by_order_equal : j ≡ k → by_order j k a b c ≡ b
  unfolding by_order
  by_order_equal h = rw (le-ltb j k (omega arith), eq-eqb j k h)

  pub by_order_greater : k < j → by_order j k a b c ≡ c
  unfolding by_order
  by_order_greater h = rw (le-ltb j k (omega arith), ne_eqb j k (omega arith))

ruleset ordered = (by_order_less, by_order_equal, by_order_greater)

abbrev Over : ℕ → Row → Type 0
Over j q = j < q.key

-- ---- One change of the row at a key, of which insert, delete and modify are instances

abbrev pub rows_at : ℕ → Option ℕ → List Row
rows_at k none = []
rows_at k (some v) = row k v ∷ []

-- the rows with f of the value found at key k in its place, none being no row
abbrev pub alter : ℕ → (Option ℕ → Option ℕ) → List Row → List Row
alter k f [] = rows_at k (f none) ++ []
alter k f (r ∷ rs) =
    by_order r.key k (r ∷ alter k f rs) (rows_at k (f (some r.value)) ++ rs) (rows_at k (f none) ++ r ∷ rs)

abbrev pub kept : ℕ → Option ℕ → Option ℕ
kept v none = some v
kept v (some w) = some w

abbrev pub dropped : Option ℕ → Option ℕ
dropped x = none

abbrev pub replaced : ℕ → Option ℕ → Option ℕ
replaced v none = none
replaced v (some w) = some v

-- a function that goes on below the key, and at it and above it does as `alter` does
as_alter : (k : ℕ) (f : Option ℕ → Option ℕ) (F : List Row → List Row) → F [] ≡ rows_at k (f none) ++ []
    → ((r : Row) (rs : List Row) → r.key < k → F (r ∷ rs) ≡ r ∷ F rs)
    → ((r : Row) (rs : List Row) → r.key ≡ k → F (r ∷ rs) ≡ rows_at k (f (some r.value)) ++ rs)
    → ((r : Row) (rs : List Row) → k < r.key → F (r ∷ rs) ≡ rows_at k (f none) ++ r ∷ rs) → (rs : List Row)
    → F rs ≡ alter k f rs
as_alter k f F z l e g [] = z
as_alter k f F z l e g (r ∷ rs) =
    order r.key k (λ (h : r.key < k). simp ordered
    (l r rs h ∙ ap (λ (t : List Row). r ∷ t) (as_alter k f F z l e g rs)))
    (λ (h : r.key ≡ k). simp ordered (e r rs h)) (λ (h : k < r.key). simp ordered (g r rs h))

-- a row is the row of its key and value
row_at : (r : Row) (k : ℕ) (rs : List Row) → r.key ≡ k → r ∷ rs ≡ row k r.value ∷ rs
row_at r k rs h = λ i. record { key = h i; value = r.value } ∷ rs

pub inserted_alters : (k v : ℕ) (rs : List Row) → inserted k v rs ≡ alter k (kept v) rs
inserted_alters k v =
    as_alter k (kept v) (inserted k v) refl (λ r rs h. simp ordered) (λ r rs h. simp ordered (row_at r k rs h))
    (λ r rs h. simp ordered)

pub deleted_alters : (k : ℕ) (rs : List Row) → deleted k rs ≡ alter k dropped rs
deleted_alters k =
    as_alter k dropped (deleted k) refl (λ r rs h. simp ordered) (λ r rs h. simp ordered) (λ r rs h. simp ordered)

pub modified_alters : (k v : ℕ) (rs : List Row) → modified k v rs ≡ alter k (replaced v) rs
modified_alters k v =
    as_alter k (replaced v) (modified k v) refl (λ r rs h. simp ordered) (λ r rs h. simp ordered)
    (λ r rs h. simp ordered)

pub unchanged_alters : (k : ℕ) (rs : List Row) → rs ≡ alter k (λ x. x) rs
unchanged_alters k = as_alter k (λ x. x) (λ rs. rs) refl (λ r rs h. refl) (λ r rs h. row_at r k rs h) (λ r rs h. refl)

-- ---- What is found

found_self : (k v : ℕ) (rs : List Row) → found k (row k v ∷ rs) ≡ some v
found_self k v rs = by_order_equal (found k rs) (some v) none refl

-- below every key nothing is found
found_below : (j : ℕ) (rs : List Row) → All (Over j) rs → found j rs ≡ none
found_below j [] b = refl
found_below j (r ∷ rs) b = by_order_greater (found j rs) (some r.value) none b.0

-- what is not above the first key is below every later one
above : (j : ℕ) (r : Row) (rs : List Row) → Ascending (r ∷ rs) → j ≤ r.key → All (Over j) rs
above j r rs a h = all_map {Q = Over j} (λ (q : Row) (i : r.key < q.key). lt_of_le_of_lt h i) rs a.0

found_at : (k : ℕ) (x : Option ℕ) (rs : List Row) → All (Over k) rs → found k (rows_at k x ++ rs) ≡ x
found_at k none rs b = found_below k rs b
found_at k (some v) rs b = found_self k v rs

found_apart : (j k : ℕ) (x : Option ℕ) (rs : List Row) → (j ≡ k → ⊥) → All (Over k) rs
    → found j (rows_at k x ++ rs) ≡ found j rs
found_apart j k none rs n b = refl
found_apart j k (some v) rs n b =
    order k j (λ (h : k < j). simp ordered) (λ (h : k ≡ j). absurd (n (sym h)))
    (λ (h : j < k). simp ordered (sym (found_below j rs
    (all_map {Q = Over j} (λ (q : Row) (i : k < q.key). lt_trans h i) rs b))))

pub all_at : (P : Row → Type 0) (k : ℕ) → ((v : ℕ) → P (row k v)) → (x : Option ℕ) → All P (rows_at k x)
all_at P k n none = tt
all_at P k n (some v) = (n v, tt)

ascending_at : (k : ℕ) (x : Option ℕ) (rs : List Row) → All (Over k) rs → Ascending rs → Ascending (rows_at k x ++ rs)
ascending_at k none rs b a = a
ascending_at k (some v) rs b a = (b, a)

module _ (k : ℕ) (f : Option ℕ → Option ℕ) where
  pub alter_at : (rs : List Row) → Ascending rs → found k (alter k f rs) ≡ f (found k rs)
  alter_at [] a = found_at k (f none) [] tt
  alter_at (r ∷ rs) a =
      order r.key k (λ (h : r.key < k). simp ordered (alter_at rs a.1))
      (λ (h : r.key ≡ k). simp ordered (found_at k (f (some r.value)) rs (above k r rs a (omega arith))))
      (λ (h : k < r.key). simp ordered (found_at k (f none) (r ∷ rs) (h, above k r rs a (omega arith))))

  pub alter_apart : (j : ℕ) (rs : List Row) → (j ≡ k → ⊥) → Ascending rs → found j (alter k f rs) ≡ found j rs
  alter_apart j [] n a = found_apart j k (f none) [] n tt
  alter_apart j (r ∷ rs) n a =
      order r.key k
      (λ (h : r.key < k).
      order r.key j (λ (i : r.key < j). simp ordered (alter_apart j rs n a.1)) (λ (i : r.key ≡ j). simp ordered)
      (λ (i : j < r.key). simp ordered))
      (λ (h : r.key ≡ k).
      simp ordered
      (found_apart j k (f (some r.value)) rs n (above k r rs a (omega arith))
      ∙ sym (found_apart j k (some r.value) rs n (above k r rs a (omega arith))) ∙ (rw h)))
      (λ (h : k < r.key). simp ordered (found_apart j k (f none) (r ∷ rs) n (h, above k r rs a (omega arith))))

  -- ---- What holds of every row, and the order

  pub alter_all : (P : Row → Type 0) → All P (rows_at k (f none))
      → ((r : Row) → r.key ≡ k → P r → All P (rows_at k (f (some r.value)))) → (rs : List Row)
      → All P rs → All P (alter k f rs)
  alter_all P n s [] a = all_append P (rows_at k (f none)) [] n tt
  alter_all P n s (r ∷ rs) a =
      order r.key k (λ (h : r.key < k). simp ordered (a.0, alter_all P n s rs a.1))
      (λ (h : r.key ≡ k). simp ordered (all_append P (rows_at k (f (some r.value))) rs (s r h a.0) a.1))
      (λ (h : k < r.key). simp ordered (all_append P (rows_at k (f none)) (r ∷ rs) n a))

  pub alter_ascending : (rs : List Row) → Ascending rs → Ascending (alter k f rs)
  alter_ascending [] a = ascending_at k (f none) [] tt tt
  alter_ascending (r ∷ rs) a =
      order r.key k
      (λ (h : r.key < k).
      simp ordered (
        alter_all (Over r.key) (all_at (Over r.key) k (λ v. h) (f none))
            (λ q e i. all_at (Over r.key) k (λ v. h) (f (some q.value))) rs a.0,
        alter_ascending rs a.1,
      ))
      (λ (h : r.key ≡ k). simp ordered (ascending_at k (f (some r.value)) rs (above k r rs a (omega arith)) a.1))
      (λ (h : k < r.key). simp ordered (ascending_at k (f none) (r ∷ rs) (h, above k r rs a (omega arith)) a))

-- ---- Ascending rows that have the same values are equal

-- the first key of one is in the other, so it is not below the other's first
not_first : (r q : Row) (s t : List Row) → ((j : ℕ) → found j (r ∷ s) ≡ found j (q ∷ t)) → r.key < q.key → ⊥
not_first r q s t e h =
    none-ne-some _ (sym (by_order_greater (found r.key t) (some q.value) none h) ∙ sym (e r.key)
    ∙ found_self r.key r.value s)

same_tails : (r q : Row) (s t : List Row) → Ascending (r ∷ s) → Ascending (q ∷ t) → r.key ≡ q.key
    → ((j : ℕ) → found j (r ∷ s) ≡ found j (q ∷ t))
    → (j : ℕ) → found j s ≡ found j t
same_tails r q s t a b k e j =
    order r.key j (λ (h : r.key < j). let g : q.key < j = omega arith in simp ordered at (e j))
    (λ (h : r.key ≡ j). none_both (omega arith))
    (λ (h : j < r.key). none_both (omega arith))
  where
    none_both : j ≤ r.key → found j s ≡ found j t
    none_both h = found_below j s (above j r s a h) ∙ sym (found_below j t (above j q t b (omega arith)))

same_rows : (s t : List Row) → Ascending s → Ascending t → ((j : ℕ) → found j s ≡ found j t) → s ≡ t
same_rows [] [] a b e = refl
same_rows [] (q ∷ t) a b e = absurd (none-ne-some _ (e q.key ∙ found_self q.key q.value t))
same_rows (r ∷ s) [] a b e = absurd (none-ne-some _ (sym (e r.key) ∙ found_self r.key r.value s))
same_rows (r ∷ s) (q ∷ t) a b e =
    order r.key q.key (λ (h : r.key < q.key). absurd (not_first r q s t e h))
    (λ (h : r.key ≡ q.key).
    let v : some r.value ≡ some q.value =
    sym (found_self r.key r.value s) ∙ e r.key ∙ ap (λ (j : ℕ). found j (q ∷ t)) h
    ∙ found_self q.key q.value t in
    let w : r.value ≡ q.value = cc in
    λ i. record { key = h i; value = w i } ∷ same_rows s t a.1 b.1 (same_tails r q s t a b h e) i)
    (λ (h : q.key < r.key). absurd (not_first q r t s (λ j. sym (e j)) h))

-- changes of different keys can be made in either order
pub alter_commutes : (j k : ℕ) (f g : Option ℕ → Option ℕ) (rs : List Row) → (j ≡ k → ⊥) → Ascending rs
    → alter j f (alter k g rs) ≡ alter k g (alter j f rs)
alter_commutes j k f g rs n a =
    same_rows (alter j f (alter k g rs)) (alter k g (alter j f rs)) (alter_ascending j f (alter k g rs) b)
    (alter_ascending k g (alter j f rs) c) same
  where
    b : Ascending (alter k g rs)
    b = alter_ascending k g rs a

    c : Ascending (alter j f rs)
    c = alter_ascending j f rs a

    at_j : found j (alter j f (alter k g rs)) ≡ found j (alter k g (alter j f rs))
    at_j =
        alter_at j f (alter k g rs) b ∙ ap f (alter_apart k g j rs n a) ∙ sym (alter_at j f rs a)
        ∙ sym (alter_apart k g j (alter j f rs) n c)

    at_k : found k (alter j f (alter k g rs)) ≡ found k (alter k g (alter j f rs))
    at_k =
        alter_apart j f k (alter k g rs) (λ e. n (sym e)) b ∙ alter_at k g rs a
        ∙ ap g (sym (alter_apart j f k rs (λ e. n (sym e)) a))
        ∙ sym (alter_at k g (alter j f rs) c)

    apart : (i : ℕ) → (i ≡ j → ⊥) → (i ≡ k → ⊥) → found i (alter j f (alter k g rs))
        ≡ found i (alter k g (alter j f rs))
    apart i m l =
        alter_apart j f i (alter k g rs) m b ∙ alter_apart k g i rs l a ∙ sym (alter_apart j f i rs m a)
        ∙ sym (alter_apart k g i (alter j f rs) l c)

    same : (i : ℕ) → found i (alter j f (alter k g rs)) ≡ found i (alter k g (alter j f rs))
    same i =
        by_key (λ (l : ℕ). found l (alter j f (alter k g rs)) ≡ found l (alter k g (alter j f rs))) i j at_j
        (λ m. by_key (λ (l : ℕ). (l ≡ j → ⊥) → found l (alter j f (alter k g rs)) ≡ found l (alter k g (alter j f rs)))
        i k (λ m'. at_k) (λ l m'. apart i m' l) m)

-- ---- The keys alone

-- the rows with every value 0: a set with the same keys
abbrev keys : List Row → List Row
keys = map (λ r. row r.key 0)

keys_found : (j : ℕ) (rs : List Row) → found j (keys rs) ≡ cond (present j rs) (some 0) none
keys_found j [] = refl
keys_found j (r ∷ rs) =
    order r.key j (λ (h : r.key < j). simp ordered (keys_found j rs)) (λ (h : r.key ≡ j). simp ordered)
    (λ (h : j < r.key). simp ordered)

keys_ascending : (rs : List Row) → Ascending rs → Ascending (keys rs)
keys_ascending [] a = tt
keys_ascending (r ∷ rs) a = (over rs a.0, keys_ascending rs a.1)
  where
    over : (qs : List Row) → All (Over r.key) qs → All (Over r.key) (keys qs)
    over [] b = tt
    over (q ∷ qs) b = (b.0, over qs b.1)

-- ascending rows with the same keys are equally many
pub same_length : (s t : List Row) → Ascending s → Ascending t → ((j : ℕ) → present j s ≡ present j t)
    → length s ≡ length t
same_length s t a b e =
    sym (length-map s (λ r. row r.key 0))
    ∙ ap length
    (same_rows (keys s) (keys t) (keys_ascending s a) (keys_ascending t b)
    (λ j. keys_found j s ∙ ap (λ (x : Bool). cond x (some 0) none) (e j) ∙ sym (keys_found j t)))
    ∙ length-map t (λ r. row r.key 0)
