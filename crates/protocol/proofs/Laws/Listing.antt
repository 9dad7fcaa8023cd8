-- The members of a set, listed: exactly they, ascending.
use Prim.Native.Nat.{ℕ, zero, suc, ◌+◌, ◌^◌, ◌≤◌, ◌<◌}
use Rattle.std.specs.Prelude.{◌≡◌, true, false, ◌↔◌}
use Rattle.std.proofs.Common.{sym, ◌∙◌}
use Rattle.std.proofs.Math.Path.{ap}
use Rattle.std.proofs.Math.Bool.{true≢false}
use Rattle.std.proofs.Math.Logic.{inl, inr, ⊎_elim}
use native.Mathlib.Omega.{arith}
use Rattle.operations.specs.Operations.{All}
use Rattle.operations.proofs.Laws.Cases.{split, same, all_map}
use Rattle.bitset.specs.Bitset.{has, In, Holds, members_from, members}
use Rattle.bitset.specs.Laws.{member_below, below_64}
use Rattle.protocol.specs.Terms.{Among, Ascends}
use mathlib.Core.Logic.Iff

module _ (s : ℕ) where
  abbrev From : ℕ → ℕ → ℕ → Type 0
  From n h u = (h ≤ u) × (u < h + n) × In s u

  further : (n h u : ℕ) → From n (suc h) u → From (suc n) h u
  further n h u p = (omega (arith, p.0), omega (arith, p.1), p.2)

  -- One from h on that is not h is from h + 1 on.
  nearer : (n h u : ℕ) → From (suc n) h u → (h ≡ u → ⊥) → From n (suc h) u
  nearer n h u p other = (omega (arith, p.0, other), omega (arith, p.1), p.2)

  listed_from : (n h u : ℕ) → Among u (members_from n h s) ↔ From n h u
  unfolding members_from
  listed_from zero h u = (λ a. absurd a, λ p. absurd (omega (arith, p.0, p.1)))
  listed_from (suc n) h u =
      let later = listed_from n (suc h) u in
      split (has s h)
      (λ (b : has s h ≡ true).
      rw b (
        ⊎_elim (λ (e : h ≡ u). (omega arith, omega arith, ap (has s) (sym e) ∙ b)) (λ a. further n h u (later.0 a)),
        λ p. same h u (λ e. inl e) (λ other. inr (later.1 (nearer n h u p other))),
      ))
      (λ (b : has s h ≡ false).
      rw b (
        λ a. further n h u (later.0 a),
        λ p. later.1 (nearer n h u p (λ (e : h ≡ u). true≢false (sym p.2 ∙ ap (has s) (sym e) ∙ b))),
      ))

  -- Exactly the members are listed,
  listed : s < 2 ^ 64 → (u : ℕ) → Among u (members s) ↔ In s u
  unfolding members
  listed few u = (
    λ a. ((listed_from 64 0 u).0 a).2,
    λ m. (listed_from 64 0 u).1 (omega arith, member_below s u few m, m),
  )

  ascend_from : (n h : ℕ) → All (λ u. h ≤ u) (members_from n h s) × Ascends (members_from n h s)
  unfolding members_from
  ascend_from zero h = (tt, tt)
  ascend_from (suc n) h =
      let (above, ascends) = ascend_from n (suc h) in
      let rest = members_from n (suc h) s in
      let all = all_map {P = λ u. suc h ≤ u} {Q = λ u. h ≤ u} (λ u p. omega (arith, p)) rest above in
      split (has s h) (λ (b : has s h ≡ true). rw b ((omega arith, all), (above, ascends)))
      (λ (b : has s h ≡ false). rw b (all, ascends))

  -- ascending.
  ascend : Ascends (members s)
  unfolding members
  ascend = (ascend_from 64 0).1

-- A set whose members are such, all below 64, has 64 bits, and they are listed so.
pub listed_as : (P : ℕ → Type 0) (s : ℕ) → Holds s P → ((u : ℕ) → P u → u < 64)
    → (s < 2 ^ 64) × ((u : ℕ) → Among u (members s) ↔ P u) × Ascends (members s)
listed_as P s holds below =
    let few = below_64 s (λ u m. below u ((holds u).0 m)) in
    (few, λ u. Iff.trans (listed s few u) (holds u), ascend s)
