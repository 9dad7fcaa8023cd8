-- Sets gathered in a pass.
use Rattle.std.specs.Prelude.{ℕ, zero, suc, ◌+◌, ◌/◌, ◌<◌, ◌≡◌, refl, Bool, true, false, ◌&&◌, ◌||◌, ◌↔◌, ◌⊎◌, eqb}
use Rattle.std.specs.Prelude.{Option, None, Some, MatchOption}
use Rattle.std.proofs.Common.{sym, ap, ◌∙◌, subst, inl, inr, ⊎_elim, not-suc-le-zero, arith, eqb-true, eq-eqb}
use Rattle.std.proofs.lemmas.Bool.{false≢true}
use Rattle.std.proofs.Math.Bool.{or-false, or-true}
use Rattle.bitset.specs.Bitset.{has, Members, Holds}
use Rattle.bitset.specs.Laws.{no_member, half, same_members, either}
use Rattle.operations.proofs.Laws.Cases.{same}
use Rattle.statuses.specs.Statuses.{Downward, Ordered}

absorbed : (a b : Bool) → (b ≡ true → a ≡ true) → (a || b) ≡ a
absorbed true b h = refl
absorbed false true h = sym (h refl)
absorbed false false h = refl

module _ (set n : ℕ) where
  -- A set joined with the set of n alone.
  pub with_one : (one next : ℕ) → Members one (λ h. eqb h n) → Members next (λ h. has set h || has one h)
      → Members next (λ h. has set h || eqb h n)
  with_one one next single join h = join h ∙ ap (λ (b : Bool). has set h || b) (single h)

  module _ (test : Bool) where
    pub marked_with : (next : ℕ) → test ≡ true → Members next (λ h. has set h || eqb h n)
        → Members next (λ h. has set h || (test && eqb h n))
    marked_with next e join h = join h ∙ ap (λ (b : Bool). has set h || (b && eqb h n)) (sym e)

    pub marked_not : test ≡ false → Members set (λ h. has set h || (test && eqb h n))
    marked_not e h = sym (ap (λ (b : Bool). has set h || (b && eqb h n)) e ∙ or-false (has set h))

-- A set with one member more.
pub one_more : (set next n : ℕ) → Members next (λ h. has set h || eqb h n)
    → (h : ℕ) → (has next h ≡ true) ↔ ((has set h ≡ true) ⊎ (h ≡ n))
one_more set next n members h = (
  λ e. ⊎_elim inl (λ (m : eqb h n ≡ true). inr (eqb-true h n m))
      ((either (has set h) (eqb h n)).0 (sym (members h) ∙ e)),
  ⊎_elim
      (λ (e : has set h ≡ true). members h ∙ ap (λ (b : Bool). b || eqb h n) e)
      (λ (e : h ≡ n). members h ∙ ap (λ (b : Bool). has set h || b) (eq-eqb h n e) ∙ or-true (has set h)),
)

-- Those below n of a sort.
module _ (P : ℕ → Type 0) where
  abbrev pub Upto : ℕ → ℕ → Type 0
  Upto n set = Holds set (λ t. (t < n) × P t)

  pub upto_none : Upto 0 0
  upto_none t = (λ h. absurd (false≢true (sym (no_member t) ∙ h)), λ p. absurd (not-suc-le-zero p.0))

  pub upto_next : (n set next : ℕ) (test : Bool) → (test ≡ true) ↔ P n
      → Members next (λ h. has set h || (test && eqb h n)) → Upto n set → Upto (n + 1) next
  upto_next n set next true decides members upto t =
      let more = one_more set next n members t in (
        λ h.
            ⊎_elim
            (λ (e : has set t ≡ true). let l : t < n = ((upto t).0 e).0 in (omega arith, ((upto t).0 e).1))
            (λ (e : t ≡ n). (omega arith, subst P (sym e) (decides.0 refl)))
            (more.0 h),
        λ p. same t n (λ e. more.1 (inr e)) (λ other. more.1 (inl ((upto t).1 (omega arith, p.1)))),
      )
  upto_next n set next false decides members upto t =
      let e : has next t ≡ has set t = members t ∙ or-false (has set t) in (
        λ h. let l : t < n = ((upto t).0 (sym e ∙ h)).0 in (omega arith, ((upto t).0 (sym e ∙ h)).1),
        λ p. same t n (λ q. absurd (false≢true (decides.1 (subst P q p.1))))
            (λ other. e ∙ (upto t).1 (omega arith, p.1)),
      )

  pub upto_all : (n set : ℕ) → ((t : ℕ) → P t → t < n) → Upto n set → Holds set P
  upto_all n set below upto t = (λ h. ((upto t).0 h).1, λ p. (upto t).1 (below t p, p))

pub downward : (set : ℕ) → Downward set → (m n : ℕ) → n < m → has set m ≡ true → has set n ≡ true
downward set down zero n l h = absurd (not-suc-le-zero l)
downward set down (suc m) n l h =
    same n m (λ e. subst (λ (k : ℕ). has set k ≡ true) (sym e) (down m h))
    (λ other. downward set down m n (omega arith) (down m h))

-- A set joined with itself one place down.
module _ (set next : ℕ) (members : Members next (λ h. has set h || has (set / 2) h)) where
  above : (n : ℕ) → has next n ≡ (has set n || has set (suc n))
  above n = members n ∙ ap (λ (b : Bool). has set n || b) (half set n)

  pub in_order_lem : (eqb next set ≡ true) ↔ Downward set
  in_order_lem = (
    λ e n h. ap (λ (m : ℕ). has m n) (sym (eqb-true next set e)) ∙ above n
        ∙ ap (λ (b : Bool). has set n || b) h ∙ or-true (has set n),
    λ down. eq-eqb next set (same_members next set (λ n. above n ∙ absorbed (has set n) (has set (suc n)) (down n))),
  )

-- A Boolean that answers for the ranks, if there are any, whether they are in order.
pub ordered : (ranks : Option ℕ) (b : Bool) → MatchOption ranks (b ≡ false) (λ seen. (b ≡ true) ↔ Downward seen)
    → (b ≡ true) ↔ Ordered ranks
ordered None b none = (λ e. absurd (false≢true (sym none ∙ e)), λ p. absurd p)
ordered (Some seen) b tells = tells
