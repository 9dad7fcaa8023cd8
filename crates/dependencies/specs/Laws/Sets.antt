-- Some number below another, and rows of sets by the relations that tell their members.
use Rattle.std.specs.Prelude.{ℕ, zero, suc, ◌+◌, ◌<◌, ◌≡◌, refl, ◌||◌, ◌↔◌, ◌⊎◌, List, eqb, get_or, set, length}
use Rattle.std.specs.Prelude.{replicate, Bool, true, false, ltb, Option, Some}
use Rattle.std.specs.Bool.{then_some}
use Rattle.std.proofs.Common.{sym, ap, subst, ◌∙◌, true≢false, inl, inr, ⊎_elim, arith, eqb-true, eq-eqb}
use Rattle.std.proofs.Common.{ltb-true, get_or-set_same}
use Rattle.std.proofs.Common.{get_or-set_other}
use Rattle.std.proofs.lemmas.Bool.{lt-ltb}
use Rattle.std.proofs.lemmas.Option.{same_Some, none-some}
use Rattle.operations.proofs.Laws.Cases.{same}
use Rattle.bitset.specs.Bitset.{has, Members, In, Holds, Represents}
use Rattle.bitset.specs.Laws.{holds_none, holds_same, holds_join}
use Rattle.dependencies.specs.Dependencies.{SomeBelow, OwnersRow, Joined, column_in}
use mathlib.Core.Logic.Iff

-- ---- Some number below n

pub some_none : (P : ℕ → Type 0) → SomeBelow P 0 → ⊥
some_none P (i, l, p) = omega arith

pub some_more : (P : ℕ → Type 0) (n : ℕ) → (SomeBelow P n ⊎ P n) ↔ SomeBelow P (n + 1)
some_more P n = (⊎_elim old (λ p. (n, omega arith, p)), back)
  where
    old : SomeBelow P n → SomeBelow P (n + 1)
    old (i, l, p) = (i, omega arith, p)

    back : SomeBelow P (n + 1) → SomeBelow P n ⊎ P n
    back (i, l, p) = same i n (λ (e : i ≡ n). inr (subst P e p)) (λ (e : i ≡ n → ⊥). inl (i, omega arith, p))

-- ---- A row of sets

pub represents_same : (R S : ℕ → ℕ → Type 0) (row : List ℕ) → Represents row R → ((a b : ℕ) → R a b ↔ S a b)
    → Represents row S
represents_same R S row r e a = holds_same (R a) (S a) (get_or row a 0) (r a) (e a)

-- Empty sets.
pub blank : (n a : ℕ) → get_or {A = ℕ} (replicate n 0) a 0 ≡ 0
blank zero a = refl
blank (suc n) zero = refl
blank (suc n) (suc a) = blank n a

pub blank_row : (n : ℕ) (R : ℕ → ℕ → Type 0) → ((a b : ℕ) → R a b → ⊥) → Represents (replicate n 0) R
blank_row n R none a = rw (blank n a) (holds_none (R a) (none a))

-- One set joined with another, at place t.
pub represents_join : (R : ℕ → ℕ → Type 0) (Q : ℕ → Type 0) (row : List ℕ) (t s u : ℕ) → Represents row R → Holds s Q
    → t < length row
    → Members u (λ b. has (get_or row t 0) b || has s b) → Represents (set row t u) (λ a b. R a b ⊎ ((t ≡ a) × Q b))
represents_join R Q row t s u r q l m a =
    same a t
    (λ (e : a ≡ t).
    rw (e, get_or-set_same row t u 0 l)
    (holds_same (λ b. R t b ⊎ Q b) (λ b. R t b ⊎ ((t ≡ t) × Q b)) u (holds_join (R t) Q (get_or row t 0) s u (r t) q m)
    (λ b. (⊎_elim inl (λ x. inr (refl, x)), ⊎_elim inl (λ x. inr x.1)))))
    (λ (e : a ≡ t → ⊥).
    rw (get_or-set_other row t a u 0 e)
    (holds_same (R a) (λ b. R a b ⊎ ((t ≡ a) × Q b)) (get_or row a 0) (r a)
    (λ b. (inl, ⊎_elim (λ x. x) (λ x. absurd (e (sym x.0)))))))

-- A row of n columns, with more members at column m where a condition holds.
abbrev pub Added : Type 0 → ℕ → List ℕ → ℕ → (ℕ → Type 0) → List ℕ → Type 0
Added condition n row m Q r = OwnersRow n r (λ k b. In (get_or row k 0) b ⊎ (condition × (m ≡ k) × Q b))

-- One owner more, where there is such a column.
abbrev pub WithOwner : ℕ → List ℕ → ℕ → ℕ → List ℕ → Type 0
WithOwner n row m t r = Added (m < n) n row m (λ b. t ≡ b) r

-- The number that a test tells.
told_where : (test : Bool) (m k : ℕ) → (then_some test m ≡ Some k) ↔ ((test ≡ true) × (m ≡ k))
told_where true m k = (λ e. (refl, same_Some m k e), λ x. ap Some x.1)
told_where false m k = (λ e. absurd (none-some k e), λ x. absurd (true≢false (sym x.0)))

-- A set of one, by the transaction's equation.
one_owner : (s t : ℕ) → Members s (λ b. eqb b t) → Holds s (λ b. t ≡ b)
one_owner s t single b = (λ e. sym (eqb-true b t (sym (single b) ∙ e)), λ e. single b ∙ eq-eqb b t (sym e))

-- Which column is told, and whom the members are:
module _ (n : ℕ) (row r : List ℕ) (m more : ℕ) where
  added_by : (condition : Type 0) (Q : ℕ → Type 0) (at : Option ℕ)
      → ((k : ℕ) → (at ≡ Some k) ↔ (condition × (m ≡ k))) → ((b : ℕ) → In more b ↔ Q b)
      → Joined n row at more r → Added condition n row m Q r
  added_by condition Q at told members joined =
      record {
        columns = joined.columns;
        sets = represents_same (λ k b. In (get_or row k 0) b ⊎ ((at ≡ Some k) × In more b))
            (λ k b. In (get_or row k 0) b ⊎ (condition × (m ≡ k) × Q b)) r joined.sets
            (λ k b. (
              ⊎_elim inl (λ x. let (c, e) = (told k).0 x.0 in inr (c, e, (members b).0 x.1)),
              ⊎_elim inl (λ x. inr ((told k).1 (x.0, x.1), (members b).1 x.2)),
            ));
      }

  -- where a number is another,
  module _ (x y : ℕ) where
    told_equal : (k : ℕ) → (then_some (eqb x y) m ≡ Some k) ↔ ((x ≡ y) × (m ≡ k))
    told_equal k =
        let told = told_where (eqb x y) m k in
        (λ e. let (t, q) = told.0 e in (eqb-true x y t, q), λ q. told.1 (eq-eqb x y q.0, q.1))

    module _ (at : Option ℕ) (e : at ≡ then_some (eqb x y) m) where
      told_by : (k : ℕ) → (at ≡ Some k) ↔ ((x ≡ y) × (m ≡ k))
      told_by k = (λ f. (told_equal k).0 (sym e ∙ f), λ q. e ∙ (told_equal k).1 q)

      pub added_equal : Joined n row at more r → Added (x ≡ y) n row m (In more) r
      added_equal = added_by (x ≡ y) (In more) at told_by (λ b. Iff.rfl)

      pub added_one : (t : ℕ) → Members more (λ b. eqb b t) → Joined n row at more r
          → Added (x ≡ y) n row m (λ b. t ≡ b) r
      added_one t single = added_by (x ≡ y) (λ b. t ≡ b) at told_by (one_owner more t single)

  -- and where the row has the column.
  pub with_owner : (t : ℕ) (at : Option ℕ) → at ≡ column_in n m → Members more (λ b. eqb b t)
      → Joined n row at more r → WithOwner n row m t r
  with_owner t at e single =
      added_by (m < n) (λ b. t ≡ b) at
      (λ k.
      let told = told_where (ltb m n) m k in (
        λ f. let (l, q) = told.0 (sym e ∙ f) in (ltb-true m n l, q),
        λ q. e ∙ told.1 (lt-ltb m n q.0, q.1),
      ))
      (one_owner more t single)

pub in_column : (n k m : ℕ) → k ≡ m → k < n → Some k ≡ column_in n m
in_column n k m e l = ap Some e ∙ sym (ap (λ (test : Bool). then_some test m) (lt-ltb m n (omega (arith, e, l))))

-- What a row holds with more members.
pub added_row : (condition : Type 0) (n : ℕ) (row : List ℕ) (m : ℕ) (Q : ℕ → Type 0) (r : List ℕ)
    (R S : ℕ → ℕ → Type 0) → OwnersRow n row R → Added condition n row m Q r
    → ((k b : ℕ) → (R k b ⊎ (condition × (m ≡ k) × Q b)) ↔ S k b) → OwnersRow n r S
added_row condition n row m Q r R S held more same =
    record {
      columns = more.columns;
      sets = represents_same (λ k b. In (get_or row k 0) b ⊎ (condition × (m ≡ k) × Q b)) S r more.sets
          (λ k b. (
            λ x. (same k b).0 (⊎_elim (λ y. inl ((held.sets k b).0 y)) inr x),
            λ x. ⊎_elim (λ y. inl ((held.sets k b).1 y)) inr ((same k b).1 x),
          ));
    }
