-- What two tests say together, and a test of each number below another.
use Rattle.std.specs.Prelude.{ℕ, ◌<◌, ◌≡◌, refl, Bool, true, false, ◌↔◌, length}
use Rattle.std.proofs.Common.{sym, ◌∙◌, true≢false, MatchBool, subst, arith}
use Rattle.std.specs.List.{AllWithin, HoldsAt, range_with_len}
use Rattle.std.proofs.lemmas.List.FromFn.{length-range_with_len, get_or-range_with_len}

-- Two tests, the second only where the first says yes.
module _ {A B : Type 0} {a : Bool} where
  pub answer_second : {b : Bool} → (a ≡ true) ↔ A → a ≡ true → (b ≡ true) ↔ B → (b ≡ true) ↔ (A × B)
  answer_second t e u = (λ f. (t.0 e, u.0 f), λ h. u.1 h.1)

  pub answer_first : (a ≡ true) ↔ A → a ≡ false → (a ≡ true) ↔ (A × B)
  answer_first t e = (λ f. absurd (true≢false (sym f ∙ e)), λ h. t.1 h.0)

-- `all` over the numbers below n.
pub each_below : (P : ℕ → Type 0) (n : ℕ) (r : Bool)
    → (let numbers = range_with_len 0 n in
    MatchBool r (AllWithin P numbers 0 (length numbers))
    ((k : ℕ) × (k < length numbers) × HoldsAt (λ o. P o → ⊥) numbers k))
    → (r ≡ true) ↔ ((o : ℕ) → o < n → P o)
each_below P n true h = (
  λ e o l. subst P (get_or-range_with_len 0 n o 0 l ∙ omega arith) (h o 0 (omega arith)
      (omega (arith, length-range_with_len 0 n))),
  λ all. refl,
)
each_below P n false h =
    let below : h.0 < n = omega (arith, length-range_with_len 0 n, h.1) in (
      λ e. absurd (true≢false (sym e)),
      λ all. absurd (h.2 0 (subst P (omega (arith, get_or-range_with_len 0 n h.0 0 below)) (all h.0 below))),
    )
