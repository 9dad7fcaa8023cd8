-- Owners read one by one into a set: its members, before those that are left, are the whole.
use Prim.Native.Nat.{ℕ, zero, suc, ◌+◌, ◌-◌, ◌≤◌, ◌<◌}
use Rattle.std.proofs.Common.{eq-or-lt_of_le, ap₂, ◌∙◌}
use native.Mathlib.Omega.{arith}
use Rattle.std.specs.Prelude.{◌≡◌, refl, Bool, cond, ◌&&◌, ◌||◌, leb, ltb, length, drop}
use Rattle.std.proofs.Math.Path.{sym, ap}
use Rattle.std.proofs.Math.Bool.{true, false, and-eq-true_iff, or-true, or-false}
use Rattle.std.proofs.Math.Logic.{⊎_elim}
use mathlib.Core.List.{List, [], ◌∷◌, ◌++◌, append-nil}
use borrow.Author.Tests.{leb-true, ltb-true, eq-eqb, ne_eqb}
use Rattle.std.proofs.Math.Dec.{eqb}
use Rattle.bitset.specs.Bitset.{has, Members, in_front, members_from, members}
use Rattle.bitset.specs.Laws.{no_member}
use Rattle.journal.specs.Groups.{Read, found, bad, then, owners, number}
use Rattle.journal.specs.Reading.{owners_from}
use Rattle.journal.specs.declared.Cause.TheVariants.{Owners}
use Rattle.journal.specs.declared.Damage.{Damage}
use Rattle.journal_numbers.specs.Parts.{Finds, Fails}
use Rattle.journal_numbers.specs.Laws.Lists.{after, after_none, after_more}
use Rattle.journal_numbers.specs.Laws.Reads.{damage}

-- ---- A member above all others

none_from : (n h s : ℕ) → ((k : ℕ) → h ≤ k → has s k ≡ false) → members_from n h s ≡ []
unfolding members_from
none_from zero h s none = refl
none_from (suc n) h s none = rw (none h (omega arith)) (none_from n (suc h) s (λ k l. none k (omega arith)))

in_front_of : (b : Bool) (h : ℕ) (some more : List ℕ) → in_front b h (some ++ more) ≡ in_front b h some ++ more
in_front_of true h some more = refl
in_front_of false h some more = refl

module _ (s r t : ℕ) (low : (h : ℕ) → t ≤ h → has s h ≡ false) (joined : Members r (λ h. has s h || eqb h t)) where
  other : (h : ℕ) → (h ≡ t → ⊥) → has r h ≡ has s h
  other h n = joined h ∙ ap (λ b. has s h || b) (ne_eqb h t n) ∙ or-false (has s h)

  last_from : (n h : ℕ) → h ≤ t → t < h + n → members_from n h r ≡ members_from n h s ++ (t ∷ [])
  unfolding members_from
  last_from zero h l m = absurd (omega arith)
  last_from (suc n) h l m =
      ⊎_elim
      (λ (here : h ≡ t).
      let own : has r h ≡ true = joined h ∙ ap (λ b. has s h || b) (eq-eqb h t here) ∙ or-true (has s h) in
      let past : members_from n (suc h) r ≡ [] =
      none_from n (suc h) r (λ k above. other k (λ e. omega arith) ∙ low k (omega arith)) in
      let none : members_from n (suc h) s ≡ [] = none_from n (suc h) s (λ k above. low k (omega arith)) in
      rw (own, low h (omega arith), past, none) (ap (λ k. k ∷ []) here))
      (λ (below : h < t).
      rw (other h (λ e. omega arith), last_from n (suc h) (omega arith) (omega arith))
      (in_front_of (has s h) h (members_from n (suc h) s) (t ∷ [])))
      (eq-or-lt_of_le l)

  highest_last : t < 64 → members r ≡ members s ++ (t ∷ [])
  unfolding members
  highest_last l = last_from 64 0 (omega arith) (omega arith)

-- ---- Owners

-- Whether an owner may stand where the least is this.
abbrev rightly : ℕ → ℕ → Bool
rightly least owner = leb least owner && ltb owner 64

pub owner_small : (least owner : ℕ) → rightly least owner ≡ true → owner < 64
owner_small least owner e = ltb-true owner 64 ((and-eq-true_iff (leb least owner) (ltb owner 64)).0 e).1

-- How far owners were read into a set.
pub record Gathering (bytes : List ℕ) (at count set least place i : ℕ) : Type 0 where
  pub few : i ≤ count
  pub low : (h : ℕ) → least ≤ h → has set h ≡ false
  pub onward : at ≤ place
  pub within : place ≤ length bytes
  pub whole : after (members set) (owners_from (count - i) least (drop place bytes))
      ≡ owners_from count 0 (drop at bytes)

nobody : members 0 ≡ []
unfolding members
nobody = none_from 64 0 0 (λ h l. no_member h)

pub gathering_starts : (bytes : List ℕ) (at count : ℕ) → at ≤ length bytes → Gathering bytes at count 0 0 at 0
gathering_starts bytes at count l =
    let all : count - 0 ≡ count = omega arith in
    record {
      few = omega arith;
      low = λ h m. no_member h;
      onward = omega arith;
      within = l;
      whole =
          ap₂ (λ q n. after q (owners_from n 0 (drop at bytes))) nobody all
          ∙ after_none (owners_from count 0 (drop at bytes));
    }

module _ {bytes : List ℕ} {at count set least place i : ℕ} (g : Gathering bytes at count set least place i) where
  abbrev Answer : Read (List ℕ)
  Answer = owners_from count 0 (drop at bytes)

  pub gathering_ends : count ≤ i → Finds bytes at Answer (members set) place
  gathering_ends past =
      let none : count - i ≡ 0 = omega arith in
      record {
        said = ap (λ q. found q (drop place bytes)) (sym (append-nil (members set))) ∙ rw none at g.whole;
        onward = g.onward;
        within = g.within;
      }

  module _ (left : i < count) where
    -- The owners from the next number on.
    from_next : ℕ → List ℕ → Read (List ℕ)
    from_next owner rest =
        cond (rightly least owner)
        (then (owners_from (count - (i + 1)) (owner + 1) rest) (λ others left. found (owner ∷ others) left))
        (bad owners (drop place bytes))

    next_first : (r : Read ℕ) → r ≡ number (drop place bytes) → after (members set) (then r from_next) ≡ Answer
    unfolding from_next
    next_first r e =
        let one_more : count - i ≡ suc (count - (i + 1)) = omega arith in
        ap (λ q. after (members set) (then q from_next)) e ∙ rw one_more at g.whole

    pub gathering_stops : {d : Damage} → Fails bytes place (number (drop place bytes)) d → Fails bytes at Answer d
    gathering_stops r =
        record {
          said = next_first _ r.said;
          onward = omega (arith, g.onward, r.onward);
          within = r.within;
        }

    module _ {owner end : ℕ} (r : Finds bytes place (number (drop place bytes)) owner end) where
      owner_first : after (members set) (from_next owner (drop end bytes)) ≡ Answer
      owner_first = next_first (found owner (drop end bytes)) r.said

      pub no_owner : rightly least owner ≡ false → Fails bytes at Answer (damage Owners place)
      unfolding from_next
      no_owner e =
          record {
            said = rw e at owner_first;
            onward = g.onward;
            within = g.within;
          }

      pub gathering_goes_on : rightly least owner ≡ true → (one new : ℕ) → Members one (λ h. eqb h owner)
          → Members new (λ h. has set h || has one h)
          → Gathering bytes at count new (owner + 1) end (i + 1)
      unfolding from_next
      gathering_goes_on e one new single join =
          let above : least ≤ owner =
          leb-true least owner ((and-eq-true_iff (leb least owner) (ltb owner 64)).0 e).0 in
          let joined : Members new (λ h. has set h || eqb h owner) =
          λ h. join h ∙ ap (λ b. has set h || b) (single h) in
          let low : (h : ℕ) → owner ≤ h → has set h ≡ false = λ h l. g.low h (omega arith) in
          record {
            few = omega arith;
            low = λ h l. other set new owner low joined h (λ e. omega arith) ∙ g.low h (omega arith);
            onward = omega (arith, g.onward, r.onward);
            within = r.within;
            whole =
                let rest = owners_from (count - (i + 1)) (owner + 1) (drop end bytes) in
                ap (λ q. after q rest) (highest_last set new owner low joined (owner_small least owner e))
                ∙ sym (after_more (members set) owner rest) ∙ rw e at owner_first;
          }
