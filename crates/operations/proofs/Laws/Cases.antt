-- Case analysis on a test, on two numbers and on a key; what an answer says; laws of `All` and of lists.
use Rattle.std.specs.Prelude.{ℕ, zero, suc, ◌≡◌, refl, Bool, true, false, ◌||◌, ◌↔◌, List, [], ◌∷◌, ◌++◌, map, eqb, set}
use Rattle.std.proofs.Common.{sym, ap, ◌∙◌, subst, true≢false, eqb-true}
use Rattle.std.proofs.lemmas.Bool.{eqb-false}
use Rattle.operations.specs.Operations.{All}
use Rattle.operations.specs.Log.{filter}

pub split : {A : Type 0} (b : Bool) → (b ≡ true → A) → (b ≡ false → A) → A
split true f g = f refl
split false f g = g refl

pub either : {A : Type 0} (b : Bool) {c : Bool} → b || c ≡ true → (b ≡ true → A) → (c ≡ true → A) → A
either true e f g = f refl
either false e f g = g e

pub same : {A : Type 0} (j k : ℕ) → (j ≡ k → A) → ((j ≡ k → ⊥) → A) → A
same j k equal other =
    split (eqb j k) (λ (e : eqb j k ≡ true). equal (eqb-true j k e)) (λ (e : eqb j k ≡ false). other (eqb-false j k e))

-- a key is k, or apart from it
pub by_key : (P : ℕ → Type 0) (j k : ℕ) → P k → ((j ≡ k → ⊥) → P j) → P j
by_key P j k own other = same j k (λ e. subst P (sym e) own) other

-- A test's answer decides a fact: yes where it holds, no where it fails; and what no says.
module _ {P : Type 0} {b : Bool} where
  pub yes : b ≡ true → P → (b ≡ true) ↔ P
  yes e p = (λ q. p, λ q. e)

  pub no : b ≡ false → (P → ⊥) → (b ≡ true) ↔ P
  no e refuted = (λ q. absurd (true≢false (sym q ∙ e)), λ p. absurd (refuted p))

  pub denied : (b ≡ true) ↔ P → b ≡ false → P → ⊥
  denied decided e p = true≢false (sym (decided.1 p) ∙ e)

module _ {A : Type 0} where
  pub all_map : {P Q : A → Type 0} → ((x : A) → P x → Q x) → (l : List A) → All P l → All Q l
  all_map f [] p = tt
  all_map f (x ∷ l) p = (f x p.0, all_map f l p.1)

  pub all_map₂ : {P Q R : A → Type 0} → ((x : A) → P x → Q x → R x) → (l : List A) → All P l → All Q l → All R l
  all_map₂ f [] p q = tt
  all_map₂ f (x ∷ l) p q = (f x p.0 q.0, all_map₂ f l p.1 q.1)

  pub all_append : (P : A → Type 0) (l m : List A) → All P l → All P m → All P (l ++ m)
  all_append P [] m p q = q
  all_append P (x ∷ l) m p q = (p.0, all_append P l m p.1 q)

  pub all_parts : (P : A → Type 0) (l m : List A) → All P (l ++ m) → All P l × All P m
  all_parts P [] m p = (tt, p)
  all_parts P (x ∷ l) m p = let (first, second) = all_parts P l m p.1 in ((p.0, first), second)

  pub all_filter : {P Q : A → Type 0} {picked : A → Bool} → ((x : A) → P x → picked x ≡ true → Q x) → (l : List A)
      → All P l → All Q (filter picked l)
  all_filter f [] p = tt
  all_filter {picked = picked} f (x ∷ l) p =
      split (picked x) (λ (k : picked x ≡ true). rw k (f x p.0 k, all_filter f l p.1))
      (λ (k : picked x ≡ false). rw k (all_filter f l p.1))

pub map_set : {A B : Type 0} (f : A → B) (xs : List A) (i : ℕ) (x : A) → map f (set xs i x) ≡ set (map f xs) i (f x)
map_set f [] i x = refl
map_set f (y ∷ ys) zero x = refl
map_set {A} {B} f (y ∷ ys) (suc i) x = ap (λ (q : List B). f y ∷ q) (map_set f ys i x)
