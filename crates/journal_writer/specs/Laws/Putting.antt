-- Bytes put behind others: those that are there, before what is left, stay the whole.
use Rattle.std.specs.Prelude.{ℕ, zero, suc, ◌+◌, ◌≤◌, ◌<◌, ◌≡◌, refl, true, List, [], ◌∷◌, ◌++◌, length, get_or, drop}
use Rattle.std.proofs.Common.{sym, ap, ◌∙◌, append_assoc, append-nil, add-one, arith, lt-ltb, length-append, drop-cons}
use Rattle.operations.proofs.Laws.Cases.{split}
use Rattle.bitset.specs.Bitset.{has, members_from, members}
use Rattle.journal.specs.Groups.{groups, grouped, narrow}

pub record Left (out left whole : List ℕ) : Type 0 where
  pub join : out ++ left ≡ whole

module _ {out left whole : List ℕ} (so : Left out left whole) where
  -- There is room for what is left first where there is for the whole.
  pub room : (first others : List ℕ) → left ≡ first ++ others → length out + length first ≤ length whole
  room first others next =
      omega (arith, length-append out left, ap length so.join, ap length next, length-append first others)

  pub one_more : (first others now : List ℕ) → left ≡ first ++ others → now ≡ out ++ first → Left now others whole
  one_more first others now next put = record {
    join = ap (λ (l : List ℕ). l ++ others) put ∙ append_assoc out first others
        ∙ ap (λ (l : List ℕ). out ++ l) (sym next) ∙ so.join;
  }

  pub all_put : left ≡ [] → out ≡ whole
  all_put none = sym (append-nil out) ∙ ap (λ (l : List ℕ). out ++ l) (sym none) ∙ so.join

-- Of numbers those from place i on.
pub from_place : (numbers : List ℕ) (i : ℕ) → i < length numbers
    → grouped (drop i numbers) ≡ groups (get_or numbers i 0) ++ grouped (drop (i + 1) numbers)
from_place numbers i more = rw (add-one, drop-cons numbers i 0)

pub narrow_all : (numbers : List ℕ) → ((i : ℕ) → get_or numbers i 0 < 4_294_967_296) → narrow numbers ≡ true
narrow_all [] fit = refl
narrow_all (n ∷ numbers) fit = rw (lt-ltb n 4_294_967_296 (fit 0)) (narrow_all numbers (λ i. fit (suc i)))

-- A set's members are below 64.
from_narrow : (n h s : ℕ) → h + n ≤ 64 → narrow (members_from n h s) ≡ true
unfolding members_from
from_narrow zero h s few = refl
from_narrow (suc n) h s few =
    split (has s h)
    (λ e. rw (e, lt-ltb h 4_294_967_296 (omega arith)) (from_narrow n (suc h) s (omega arith)))
    (λ e. rw e (from_narrow n (suc h) s (omega arith)))

pub members_narrow : (s : ℕ) → narrow (members s) ≡ true
unfolding members
members_narrow s = from_narrow 64 0 s (omega arith)
