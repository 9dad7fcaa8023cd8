-- Ranks seen in a pass: when they say that ranks are 0, 1, 2 and on, once each.
use Rattle.std.specs.Prelude.{ℕ, zero, suc, ◌+◌, ◌<◌, ◌≤◌, ◌≡◌, true, false, ◌||◌, cond, ◌↔◌, eqb, Option, None, Some}
use Rattle.std.proofs.Common.{sym, ap, ◌∙◌, subst, inl, inr, ⊎_elim, not-suc-le-zero, arith, eq-eqb, ne_eqb}
use Rattle.std.proofs.lemmas.Bool.{false≢true}
use Rattle.bitset.specs.Bitset.{has, Members, Holds}
use Rattle.bitset.specs.Laws.{no_member}
use Rattle.operations.proofs.Laws.Cases.{same}
use Rattle.store.specs.Store.{Status, absent, active, pseudo_committed, Store, status_of}
use Rattle.store.specs.Soundness.{OnceEach, WithoutGaps}
use Rattle.store.proofs.Laws.Statuses.{absent_unranked, active_unranked, same_rank}
use Rattle.statuses.specs.Statuses.{Noted, Downward, Ordered}
use Rattle.statuses.specs.Laws.Sets.{one_more, downward}

-- ---- Numbers below n have at most n values

-- r is a value of f at a place below n.
abbrev Value : ℕ → (ℕ → ℕ) → ℕ → Type 0
Value n f r = (t : ℕ) × (t < n) × (f t ≡ r)

-- f, with the value at n where f is n + 1.
abbrev replaced : ℕ → (ℕ → ℕ) → ℕ → ℕ
replaced n f t = cond (eqb (f t) (suc n)) (f n) (f t)

module _ (n : ℕ) (f : ℕ → ℕ) (r : ℕ) (l : r ≤ n) where
  moved : f n ≡ r → Value (suc n) f (suc n) → Value n (replaced n f) r
  moved e (t, m, top) =
      same t n (λ q. absurd (omega (arith, ap f q))) (λ other. (t, omega arith, rw (eq-eqb (f t) (suc n) top) e))

  kept : (f n ≡ r → ⊥) → Value (suc n) f r → Value n (replaced n f) r
  kept apart (t, m, e) =
      same t n (λ q. absurd (apart (sym (ap f q) ∙ e)))
      (λ other. (t, omega arith, rw (ne_eqb (f t) (suc n) (omega arith)) e))

no_onto : (n : ℕ) (f : ℕ → ℕ) → ((r : ℕ) → r ≤ n → Value n f r) → ⊥
no_onto zero f onto = not-suc-le-zero (onto 0 (omega arith)).1
no_onto (suc n) f onto =
    no_onto n (replaced n f)
    (λ r l. same (f n) r (λ e. moved n f r l e (onto (suc n) (omega arith)))
    (λ apart. kept n f r l apart (onto r (omega arith))))

-- ---- What is seen of the transactions below n

abbrev rank_of : Status → ℕ
rank_of absent = 0
rank_of active = 0
rank_of (pseudo_committed rank) = rank

module _ (s : Store) where
  -- A transaction below n has the rank.
  abbrev pub Given : ℕ → ℕ → Type 0
  Given n rank = (t : ℕ) × (t < n) × (status_of s t ≡ pseudo_committed rank)

  -- No two transactions below n have one rank.
  abbrev pub Different : ℕ → Type 0
  Different n =
      (t u rank : ℕ) → t < n → u < n → status_of s t ≡ pseudo_committed rank → status_of s u ≡ pseudo_committed rank → t
      ≡ u

  -- The ranks seen are those of the transactions below n, each the rank of one; where there are none left, ranks are
  -- not once each without gaps.
  abbrev pub Seen : ℕ → Option ℕ → Type 0
  Seen n None = OnceEach s → WithoutGaps s → ⊥
  Seen n (Some seen) = Holds seen (Given n) × Different n

  given_more : (n rank : ℕ) → Given n rank → Given (n + 1) rank
  given_more n rank (t, l, e) = (t, omega arith, e)

  at : (n t rank : ℕ) → t ≡ n → status_of s t ≡ pseudo_committed rank → status_of s n ≡ pseudo_committed rank
  at n t rank q e = ap (status_of s) (sym q) ∙ e

  -- A transaction with no rank adds none.
  module _ (n : ℕ) (none : (rank : ℕ) → status_of s n ≡ pseudo_committed rank → ⊥) where
    below : (t rank : ℕ) → t < n + 1 → status_of s t ≡ pseudo_committed rank → t < n
    below t rank l e = same t n (λ q. absurd (none rank (at n t rank q e))) (λ other. omega arith)

    given_fewer : (rank : ℕ) → Given (n + 1) rank → Given n rank
    given_fewer rank (t, l, e) = (t, below t rank l e, e)

    unranked : (ranks : Option ℕ) → Seen n ranks → Seen (n + 1) ranks
    unranked None fails = fails
    unranked (Some seen) (known, different) = (
      λ r. (λ h. given_more n r ((known r).0 h), λ g. (known r).1 (given_fewer r g)),
      λ t u rank lt lu et eu. different t u rank (below t rank lt et) (below u rank lu eu) et eu,
    )

  module _ (n rank : ℕ) (own : status_of s n ≡ pseudo_committed rank) where
    -- A rank that was not seen joins.
    module _ (before after : ℕ) (new : has before rank ≡ false)
        (members : Members after (λ h. has before h || eqb h rank)) (known : Holds before (Given n)) where
      given_now : (r : ℕ) → Given (n + 1) r → has after r ≡ true
      given_now r (t, l, e) =
          let more = one_more before after rank members r in
          same t n (λ q. more.1 (inr (same_rank r rank (sym (at n t r q e) ∙ own))))
          (λ other. more.1 (inl ((known r).1 (t, omega arith, e))))

      joined : Holds after (Given (n + 1))
      joined r = (
        λ h.
            ⊎_elim
            (λ (e : has before r ≡ true). given_more n r ((known r).0 e))
            (λ (e : r ≡ rank). (n, omega arith, own ∙ ap pseudo_committed (sym e)))
            ((one_more before after rank members r).0 h),
        given_now r,
      )

      -- No earlier transaction has the rank.
      apart : (t r : ℕ) → t < n → status_of s t ≡ pseudo_committed r → status_of s n ≡ pseudo_committed r → ⊥
      apart t r l e f =
          false≢true (sym new ∙ (known rank).1 (t, l, e ∙ ap pseudo_committed (same_rank r rank (sym f ∙ own))))

      different : Different n → Different (n + 1)
      different earlier t u r lt lu et eu =
          same t n
          (λ p. same u n (λ q. p ∙ sym q) (λ other. absurd (apart u r (omega arith) eu (at n t r p et))))
          (λ first. same u n (λ q. absurd (apart t r (omega arith) et (at n u r q eu)))
          (λ other. earlier t u r (omega arith) (omega arith) et eu))

    -- A rank that was seen is given twice.
    repeated : Given n rank → OnceEach s → ⊥
    repeated (t, l, e) each = omega (arith, each t n rank e own)

  module _ (within : (t rank : ℕ) → status_of s t ≡ pseudo_committed rank → t < 64) where
    holder : (r : ℕ) → (t : ℕ) × (status_of s t ≡ pseudo_committed r) → Value 64 (λ t. rank_of (status_of s t)) r
    holder r (t, e) = (t, within t r e, ap rank_of e)

    -- A rank of 64 or more would need more transactions than there are.
    large : (t rank : ℕ) → status_of s t ≡ pseudo_committed rank → 64 ≤ rank → WithoutGaps s → ⊥
    large t rank own high gapless =
        no_onto 64 (λ u. rank_of (status_of s u))
        (λ r l. holder r
        (same r rank (λ e. (t, own ∙ ap pseudo_committed (sym e))) (λ other. gapless t rank r own (omega arith))))

    pub next : (n : ℕ) (status : Status) (before after : Option ℕ) → status_of s n ≡ status
        → Noted status before after → Seen n before → Seen (n + 1) after
    next n absent before after own noted seen =
        subst (Seen (n + 1)) (sym noted) (unranked n (λ rank e. absent_unranked rank (sym own ∙ e)) before seen)
    next n active before after own noted seen =
        subst (Seen (n + 1)) (sym noted) (unranked n (λ rank e. active_unranked rank (sym own ∙ e)) before seen)
    next n (pseudo_committed rank) None after own noted seen = subst (Seen (n + 1)) (sym noted) seen
    next n (pseudo_committed rank) (Some before) None own noted (known, different) =
        λ each gapless.
        ⊎_elim (λ high. large n rank own high gapless) (λ old. repeated n rank own ((known rank).0 old) each) noted
    next n (pseudo_committed rank) (Some before) (Some after) own (small, new, members) (known, earlier) =
        (joined n rank own before after new members known, different n rank own before after new members known earlier)

    -- After all transactions.
    module _ (seen : ℕ) (known : Holds seen (Given 64)) where
      given : (r : ℕ) → (t : ℕ) × (status_of s t ≡ pseudo_committed r) → has seen r ≡ true
      given r (t, e) = (known r).1 (t, within t r e, e)

      owner : (r : ℕ) → Given 64 r → (t : ℕ) × (status_of s t ≡ pseudo_committed r)
      owner r (t, l, e) = (t, e)

      gapless : Downward seen → WithoutGaps s
      gapless down t rank r e l = owner r ((known r).0 (downward seen down rank r l (given rank (t, e))))

      lower : WithoutGaps s → Downward seen
      lower full r h = let (t, e) = owner (suc r) ((known (suc r)).0 h) in given r (full t (suc r) r e (omega arith))

    pub ended : (ranks : Option ℕ) → Seen 64 ranks → Ordered ranks ↔ (OnceEach s × WithoutGaps s)
    ended None fails = (λ p. absurd p, λ p. absurd (fails p.0 p.1))
    ended (Some seen) (known, different) = (
      λ down. (λ t u r et eu. different t u r (within t r et) (within u r eu) et eu, gapless seen known down),
      λ p. lower seen known p.1,
    )

  pub none_seen : Seen 0 (Some 0)
  none_seen = (
    λ r. (λ h. absurd (false≢true (sym (no_member r) ∙ h)), λ g. absurd (not-suc-le-zero g.1)),
    λ t u r lt lu et eu. absurd (not-suc-le-zero lt),
  )
