-- Sets of dependencies that a transaction leaves.
use Rattle.std.specs.Prelude.{ℕ, ◌<◌, ◌≤◌, ◌≡◌, refl, false, ◌↔◌, List, ltb, length, set}
use Rattle.std.proofs.Common.{arith, ltb-true, ltb-false, get_or-set_same, get_or-set_other}
use Rattle.std.proofs.Math.ListN.{get_or-eq_default}
use Rattle.operations.proofs.Laws.Cases.{split, by_key}
use Rattle.bitset.specs.Laws.{nobody_in}
use Rattle.graph.specs.Edges.{EdgeIn}
use Rattle.ending.specs.Ending.{Forgotten}
use mathlib.Core.Logic.Iff

module _ (sets : List ℕ) (t : ℕ) where
  -- The sets of those below n are without t, the others as they were.
  abbrev pub ForgottenBelow : ℕ → List ℕ → Type 0
  ForgottenBelow n left = (a b : ℕ) → EdgeIn left a b ↔ (EdgeIn sets a b × (a < n → b ≡ t → ⊥))

module _ (sets : List ℕ) (t : ℕ) (whole : length sets ≡ 64) (l : t < 64) where
  within : (a b : ℕ) → EdgeIn sets a b → a < 64
  within a b m =
      split (ltb a 64) (ltb-true a 64)
      (λ (e : ltb a 64 ≡ false).
      let past = get_or-eq_default sets 0 {n = a} (omega (arith, whole, ltb-false a 64 e)) in
      absurd (nobody_in 0 b refl (rw past at m)))

  -- All without t, and its own set empty.
  forgotten_each : (left : List ℕ) (n : ℕ) → 64 ≤ n → ForgottenBelow (set sets t 0) t n left
      → (a b : ℕ) → EdgeIn left a b ↔ (EdgeIn sets a b × (a ≡ t → ⊥) × (b ≡ t → ⊥))
  forgotten_each left n past all a b = Iff.trans (all a b) (by_key (λ (c : ℕ). Left c) a t own other)
    where
      Left : ℕ → Type 0
      Left c = (EdgeIn (set sets t 0) c b × (c < n → b ≡ t → ⊥)) ↔ (EdgeIn sets c b × (c ≡ t → ⊥) × (b ≡ t → ⊥))

      own : Left t
      own =
          let cleared = get_or-set_same sets t 0 0 (omega (arith, whole)) in
          (λ m. absurd (nobody_in 0 b refl (rw cleared at m.0)), λ m. absurd (m.1 refl))

      other : (a ≡ t → ⊥) → Left a
      other d =
          rw (get_or-set_other sets t a 0 0 d)
          (λ m. (m.0, d, m.1 (omega (arith, within a b m.0, past))), λ m. (m.0, λ k. m.2))

  pub forgotten_all : (left : List ℕ) (n : ℕ) → 64 ≤ n → length left ≡ 64 → ForgottenBelow (set sets t 0) t n left
      → Forgotten t sets left
  forgotten_all left n past same all = record { whole = same; edges = forgotten_each left n past all }
