-- Entries that are alike, and the first of them.
use Rattle.std.specs.Prelude.{ℕ, zero, suc, ◌<◌, ◌≡◌, refl, Bool, true, false, List, ltb}
use Rattle.std.proofs.Common.{sym, subst, ◌∙◌, arith, ltb-true, ltb-false}
use Rattle.operations.proofs.Laws.Cases.{split, same}
use Rattle.representatives.specs.Representatives.{AlikeBy, FirstBy}
use Rattle.representatives.specs.Representatives.{RepresentativeBy}

alike_own : (valued : Bool) (w : List ℕ) (i : ℕ) → AlikeBy valued w i i
alike_own false w i = (refl, refl)
alike_own true w i = ((refl, refl), refl, refl)

pub alike_back : (valued : Bool) (w : List ℕ) (i j : ℕ) → AlikeBy valued w i j → AlikeBy valued w j i
alike_back false w i j a = (sym a.0, sym a.1)
alike_back true w i j a = ((sym a.0.0, sym a.0.1), sym a.1, sym a.2)

pub alike_both : (valued : Bool) (w : List ℕ) (i j k : ℕ) → AlikeBy valued w i j → AlikeBy valued w j k
    → AlikeBy valued w i k
alike_both false w i j k a b = (b.0 ∙ a.0, b.1 ∙ a.1)
alike_both true w i j k a b = ((b.0.0 ∙ a.0.0, b.0.1 ∙ a.0.1), b.1 ∙ a.1, b.2 ∙ a.2)

module _ (valued : Bool) (w : List ℕ) where
  pub firsts_apart : (j k : ℕ) → FirstBy valued w j → FirstBy valued w k → (j ≡ k → ⊥) → AlikeBy valued w j k → ⊥
  firsts_apart j k f g other a =
      split (ltb j k) (λ (e : ltb j k ≡ true). g j (ltb-true j k e) (alike_back valued w j k a))
      (λ (e : ltb j k ≡ false). let l = ltb-false j k e in f k (omega arith) a)

  module _ (i : ℕ) where
    -- Where no entry below n is the first of those like entry i, none is like it.
    none_like : (n : ℕ) → ((j : ℕ) → j < n → FirstBy valued w j → AlikeBy valued w i j → ⊥) → (j : ℕ) → j < n
        → AlikeBy valued w i j → ⊥
    none_like zero none j l a = omega arith
    none_like (suc n) none j l a =
        let below : (k : ℕ) → k < n → AlikeBy valued w i k → ⊥ = none_like n (λ k m. none k (omega arith)) in
        same j n
        (λ (e : j ≡ n).
        let own : AlikeBy valued w i n = subst (AlikeBy valued w i) e a in
        none n (omega arith) (λ k m b. below k m (alike_both valued w i n k own b)) own)
        (λ (e : j ≡ n → ⊥). below j (omega arith) a)

    pub first_of : ((j : ℕ) → j < i → RepresentativeBy valued w i j → ⊥) → FirstBy valued w i
    first_of none =
        none_like i (λ j l f a. none j l (record { within = omega arith; alike = a; first = f }))

    pub representative_itself : FirstBy valued w i → RepresentativeBy valued w i i
    representative_itself f = record { within = omega arith; alike = alike_own valued w i; first = f }
