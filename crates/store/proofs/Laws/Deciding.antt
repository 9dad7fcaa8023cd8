-- Decisions of what is said by cases, of lists and of numbers below a bound.
use Rattle.std.specs.Prelude.{ℕ, ◌≤◌, ◌<◌, ◌≡◌, Bool, true, false, ◌↔◌, ◌⊎◌, List, [], ◌∷◌}
use Rattle.std.proofs.Common.{sym, ap, ◌∙◌, subst, inl, inr, ⊎_elim}
use Rattle.std.proofs.Math.Bool.{decide}
use Rattle.std.proofs.Math.Decide.{ℕ_discrete}
use Rattle.operations.specs.Operations.{All}
use Rattle.operations.proofs.Laws.Cases.{split}
use Rattle.store.specs.Dependency.{Any, Follows}
use Rattle.store.specs.Layout.{tabulate}
use Rattle.store.proofs.Laws.Lists.{all_each, all_of, Below, any_some, any_of}
use Rattle.store.proofs.Laws.Words.{below}
use mathlib.Core.Logic.Dec

-- A test of what is decided answers as the decision does.
pub decided : {P : Type 0} (d : Dec P) (b : Bool) → (b ≡ true) ↔ P → decide d ≡ b
unfolding decide
decided (yes p) b test = sym (test.1 p)
decided (no n) b test = split b (λ (e : b ≡ true). absurd (n (test.0 e))) (λ (e : b ≡ false). sym e)

-- As the kit's `Dec.of-iff`, which does not compute; what is marked `abbrev` here does.
abbrev pub alike : {P Q : Type 0} → P ↔ Q → Dec P → Dec Q
alike e (yes p) = yes (e.0 p)
alike e (no n) = no (λ q. n (e.1 q))

abbrev pub either : {P Q : Type 0} → Dec P → Dec Q → Dec (P ⊎ Q)
either (yes p) e = yes (inl p)
either (no n) (yes q) = yes (inr q)
either (no n) (no m) = no (⊎_elim n m)

pub implies : {P Q : Type 0} → Dec P → Dec Q → Dec (P → Q)
implies (yes p) d = alike (λ q h. q, λ f. f p) d
implies (no n) d = yes (λ p. absurd (n p))

-- The second is decided where the first holds.
abbrev pub and_then : {P Q : Type 0} → Dec P → (P → Dec Q) → Dec (P × Q)
and_then (yes p) d = alike (λ q. (p, q), λ h. h.1) (d p)
and_then (no n) d = no (λ h. n h.0)

abbrev pub all_three : {P Q R : Type 0} → Dec P → Dec Q → Dec R → Dec (P × Q × R)
all_three d e f = alike (λ h. (h.0, h.1.0, h.1.1), λ h. (h.0, (h.1, h.2))) (Dec.and d (Dec.and e f))

abbrev pub all_four : {P Q R S : Type 0} → Dec P → Dec Q → Dec R → Dec S → Dec (P × Q × R × S)
all_four d e f g =
    alike (λ h. (h.0, h.1.0, h.1.1, h.1.2), λ h. (h.0, (h.1, h.2, h.3))) (Dec.and d (all_three e f g))

-- What can be read back from its number is the same where the numbers are.
pub by_number : {A : Type 0} (number : A → ℕ) (read : ℕ → A) → ((x : A) → read (number x) ≡ x) → (x y : A) → Dec (x ≡ y)
by_number number read back x y =
    alike (λ e. sym (back x) ∙ ap read e ∙ back y, ap number) (ℕ_discrete (number x) (number y))

module _ {A : Type 0} where
  pub all : {P : A → Type 0} → ((x : A) → Dec (P x)) → (l : List A) → Dec (All P l)
  all d [] = yes tt
  all d (x ∷ l) = Dec.and (d x) (all d l)

  abbrev pub any : {P : A → Type 0} → ((x : A) → Dec (P x)) → (l : List A) → Dec (Any P l)
  any d [] = no (λ p. p)
  any d (x ∷ l) = either (d x) (any d l)

  abbrev pub follows : {R : A → A → Type 0} → ((e x : A) → Dec (R e x)) → (l : List A) → Dec (Follows R l)
  follows d [] = no (λ p. p)
  follows d (e ∷ l) = either (any (d e) l) (follows d l)

-- Such is the a of which x is f, where there is one; f is injective.
pub made_of : {A B : Type 0} (P : A → Type 0) (f : A → B) → ((a b : A) → f a ≡ f b → a ≡ b)
    → (x : B) → Dec ((a : A) × (x ≡ f a))
    → ((a : A) → Dec (P a)) → Dec ((a : A) → x ≡ f a → P a)
made_of P f injective x (yes (a, e)) d = alike (λ p b g. subst P (injective a b (sym e ∙ g)) p, λ h. h a e) (d a)
made_of P f injective x (no n) d = yes (λ a e. absurd (n (a, e)))

module _ (n : ℕ) (P : ℕ → Type 0) (d : (i : ℕ) → Dec (P i)) where
  pub all_below : Dec ((i : ℕ) → i < n → P i)
  all_below = alike (all_each P n (λ i. i), all_of P n (λ i. i)) (all d (tabulate n (λ i. i)))

  -- Each number is such, where all from n on are.
  pub every : ((i : ℕ) → n ≤ i → P i) → Dec ((i : ℕ) → P i)
  every past = alike (λ h i. below i n (h i) (past i), λ h i l. h i) all_below

  pub some_below : Dec (Below P n (λ i. i))
  some_below =
      alike (any_some P n (λ i. i), λ w. any_of P n (λ i. i) w.0 w.1 w.2) (any d (tabulate n (λ i. i)))
