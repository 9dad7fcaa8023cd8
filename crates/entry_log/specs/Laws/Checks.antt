-- What the tests of each of several numbers say.
use Rattle.std.specs.Prelude.{ℕ, ◌<◌, ◌≡◌, refl, Bool, true, false, ◌↔◌, length, MatchBool}
use Rattle.std.specs.List.{AllWithin, HoldsAt, range_with_len}
use Rattle.std.proofs.Common.{subst, ◌∙◌, arith}
use Rattle.std.proofs.lemmas.List.FromFn.{length-range_with_len, get_or-range_with_len}
use Rattle.operations.proofs.Laws.Cases.{yes, no}

module _ (P : ℕ → Type 0) (n : ℕ) where
  abbrev pub Each : Type 0
  Each = (i : ℕ) → i < n → P i

  -- What `all` over the numbers below n says.
  pub each_decided : (r : Bool)
      → MatchBool r (AllWithin P (range_with_len 0 n) 0 (length (range_with_len 0 n)))
      ((k : ℕ) × (k < length (range_with_len 0 n)) × HoldsAt (λ i. P i → ⊥) (range_with_len 0 n) k)
      → (r ≡ true) ↔ Each
  each_decided true all =
      yes refl
      (λ k l. subst P (get_or-range_with_len 0 n k 0 l ∙ omega arith)
      (all k 0 (omega arith) (omega (arith, length-range_with_len 0 n))))
  each_decided false (k, l, fails) =
      let below : k < n = omega (arith, length-range_with_len 0 n) in
      no refl
      (λ each. subst (λ i. P i → ⊥) (get_or-range_with_len 0 n k 0 below ∙ omega arith) (fails 0) (each k below))
