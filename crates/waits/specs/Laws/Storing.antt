-- The operation asked for, as it is stored: by its number.
use Rattle.std.specs.Prelude.{ℕ, suc, ◌-◌, ◌%◌, ◌≤◌, ◌≡◌, cond, ◌||◌, ◌⊎◌, eqb, ltb}
use Rattle.std.proofs.Common.{subst, ◌∙◌, inl, inr, ⊎_elim, arith}
use borrow.Author.Tests.{ne_eqb, le-ltb}
use Rattle.operations.specs.Operations as model
use Rattle.operations.specs.PairRules.{Numbered}
use Rattle.protocol.specs.Calls.{request}
use Rattle.store.specs.Layout.{base}
use Rattle.store.proofs.Laws.Words.{each}

-- What the tests of the number pick for the key and for the value.
abbrev key_for : ℕ → ℕ → ℕ
key_for n k = cond (eqb n 1) k (cond (eqb n 10 || ltb n 4) 0 (model.reduce_key k))

abbrev value_for : ℕ → ℕ → ℕ
value_for n v = cond (eqb n 7 || eqb n 11) v 0

-- The words are those that are stored for the operation that is asked for.
abbrev Stored : ℕ → ℕ → ℕ → ℕ → ℕ → Type 0
Stored n k v key value =
    let o = request base n k v in
    (n ≡ model.number_of o) × (key ≡ model.key_of o) × (value ≡ model.value_of o)

module _ (n k : ℕ) where
  pub reduced : (n ≡ 1 → ⊥) → (n ≡ 10 → ⊥) → 4 ≤ n → k % 16_777_216 ≡ key_for n k
  unfolding model.reduce_key
  reduced n1 n10 l = rw (ne_eqb n 1 n1, ne_eqb n 10 n10, le-ltb n 4 l)

module _ (n k v : ℕ) where
  picked : Numbered n → Stored n k v (key_for n k) (value_for n v)
  picked (l, m) =
      subst (λ (i : ℕ). Stored i k v (key_for i k) (value_for i v)) (omega arith)
      (each (λ (i : ℕ). Stored (suc i) k v (key_for (suc i) k) (value_for (suc i) v)) 11
      search depth 20 (n - 1) (omega arith))

  module _ (key : ℕ) (numbered : Numbered n) (e : key ≡ key_for n k) where
    stored : (value : ℕ) → value ≡ value_for n v → Stored n k v key value
    stored value f = let p = picked numbered in (p.0, e ∙ p.1, f ∙ p.2)

    pub with_value : (n ≡ 7) ⊎ (n ≡ 11) → Stored n k v key v
    with_value u = stored v (⊎_elim (λ (f : n ≡ 7). rw f) (λ (f : n ≡ 11). rw f) u)

    pub without_value : ((n ≡ 7) ⊎ (n ≡ 11) → ⊥) → Stored n k v key 0
    without_value u = stored 0 (rw (ne_eqb n 7 (λ f. u (inl f)), ne_eqb n 11 (λ f. u (inr f))))
