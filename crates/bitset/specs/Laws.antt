-- The members of the sets that a shift, `|`, `&` and `!` make, the test of one bit, and the lowest member; sets by
-- their members, by predicates that tell them, and one by one.
use Rattle.std.specs.Prelude.{◌≡◌, Bool, cond, ◌&&◌, ◌||◌, ◌↔◌, ◌⊎◌, length}
use Rattle.std.proofs.Math.Path.{refl, ap, ap₂}
use Rattle.std.proofs.Common.{sym, ◌∙◌, true≢false, inl, inr, zero-lt-suc, not-suc-le-zero, lt_of_not-le}
use Rattle.std.proofs.Common.{lt_of_lt_of_le, mod-lt, mod-eq_of_lt, one-mul, eq-or-lt_of_le, pow-suc, div-one, one-add}
use Rattle.std.proofs.Common.{add-one, arith, eqb-true, eq-eqb, ne_eqb, pow_mono, shr-shr}
use mathlib.Core.List.{List, [], ◌∷◌}
use Rattle.std.proofs.Math.Bool.{true, false, not, and-eq-true_iff, and-true, and-false}
use Rattle.std.proofs.lemmas.Bool.{false≢true, eqb-false, not-true}
use mathlib.Mathlib.Data.Bool.Basic.{eq-false_of_not-eq-true}
use Rattle.std.proofs.Math.Logic.{⊎_elim}
use Prim.Native.Nat.{ℕ, zero, suc, ◌+◌, ◌-◌, ◌*◌, ◌/◌, ◌%◌, ◌^◌, ◌<◌, ◌≤◌}
use Rattle.std.proofs.Math.Nat.{zero-div, div-eq_of_lt, mul-mod_left, mul-div-mul_right}
use Rattle.std.proofs.Math.Arith.{bin_ind, lt-one}
use Rattle.std.specs.Int.Bits.{bit_and, bit_or, bit_xor, xor_add_and}
use Rattle.std.proofs.lemmas.Nat.{and_shr, or_shr, xor_shr, and_mod, or_mod, xor_mod, and_mask, and_comm, and_le_r}
use Rattle.std.specs.Int.Count.{count_trailing_zeros, under, ones, ones_step, ones-ones}
use Rattle.std.proofs.Math.Dec.{eqb, eqb-zero-suc, eqb-suc-zero, eqb-suc-suc}
use Rattle.std.proofs.Math.Pow.{pow-lt}
use Rattle.bitset.specs.Bitset.{has, Members, Holds, In, Lowest, including, in_front, members_from, members}
use Rattle.bitset.specs.Bitset.{size}
use mathlib.Core.Logic.Iff

power : (t : ℕ) → Members (2 ^ t) (λ h. eqb h t)
unfolding has
power zero zero = refl
power zero (suc h) = rw (div-eq_of_lt (pow-lt (zero-lt-suc h))) (sym (eqb-suc-zero h))
power (suc t) zero = rw (pow-suc, div-one, mul-mod_left) (sym (eqb-zero-suc t))
power (suc t) (suc h) =
    rw (pow-suc 2 t, pow-suc 2 h, mul-div-mul_right (2 ^ t) (2 ^ h) (zero-lt-suc 1), eqb-suc-suc) (power t h)

pub shifted : (t : ℕ) → t < 64 → Members (1 * 2 ^ t % 2 ^ 64) (λ h. eqb h t)
shifted t l = rw (one-mul, mod-eq_of_lt (pow-lt l)) (power t)

-- What holds of 0 and of 1 holds of each bit.
pub bit : (P : ℕ → Type 0) → P 0 → P 1 → (x : ℕ) → x < 2 → P x
bit P p q zero l = p
bit P p q (suc zero) l = q
bit P p q (suc (suc x)) l = absurd (omega arith)

module _ (op : ℕ → ℕ → ℕ) (g : Bool → Bool → Bool) where
  -- On these two bits op is as g on truth values.
  abbrev Agree : ℕ → ℕ → Type 0
  Agree x y = eqb (op x y) 1 ≡ g (eqb x 1) (eqb y 1)

  -- An operation that works on each bit apart, and there as g, is g on membership.
  on_bits : ((a b k : ℕ) → op a b / 2 ^ k ≡ op (a / 2 ^ k) (b / 2 ^ k))
      → ((a b k : ℕ) → op a b % 2 ^ k ≡ op (a % 2 ^ k) (b % 2 ^ k))
      → Agree 0 0 × Agree 0 1 × Agree 1 0 × Agree 1 1
      → (a b : ℕ) → Members (op a b) (λ h. g (has a h) (has b h))
  unfolding has
  on_bits shr low (p, q, r, s) a b h =
      let x = a / 2 ^ h in
      let y = b / 2 ^ h in
      ap (λ (n : ℕ). eqb (n % 2) 1) (shr a b h) ∙ ap (λ (n : ℕ). eqb n 1) (low x y 1)
      ∙ bit (λ m. (n : ℕ) → n < 2 → Agree m n) (bit (Agree 0) p q) (bit (Agree 1) r s)
      (x % 2) (mod-lt x (zero-lt-suc 1)) (y % 2) (mod-lt y (zero-lt-suc 1))

pub joined : (a b : ℕ) → Members (bit_or a b) (λ h. has a h || has b h)
joined = on_bits bit_or (λ p q. p || q) or_shr or_mod (refl, refl, refl, refl)

pub met : (a b : ℕ) → Members (bit_and a b) (λ h. has a h && has b h)
met = on_bits bit_and (λ p q. p && q) and_shr and_mod (refl, refl, refl, refl)

pub tested : (s h : ℕ) → eqb (bit_and (s / 2 ^ h) 1) 1 ≡ has s h
unfolding has
tested s h = ap (λ (x : ℕ). eqb x 1) (and_mask (s / 2 ^ h) 1)

-- ---- Sets by their members

pub no_member : (h : ℕ) → has 0 h ≡ false
unfolding has
no_member h = rw (zero-div)

pub nobody_in : (s h : ℕ) → s ≡ 0 → In s h → ⊥
nobody_in s h e m = true≢false (sym m ∙ ap (λ (x : ℕ). has x h) e ∙ no_member h)

-- The members but 0, each lowered by one, are those of the half.
pub half : (s h : ℕ) → has (s / 2) h ≡ has s (suc h)
unfolding has
half s h = ap (λ (n : ℕ). eqb (n % 2) 1) (shr-shr s 1 h ∙ ap (λ (k : ℕ). s / 2 ^ k) (one-add h))

first : (s : ℕ) → has s 0 ≡ eqb (s % 2) 1
unfolding has
first s = rw div-one

no_members : (s : ℕ) → ((h : ℕ) → has s h ≡ false) → s ≡ 0
no_members =
    bin_ind (λ (s : ℕ). ((h : ℕ) → has s h ≡ false) → s ≡ 0) (λ none. refl)
    (λ (s : ℕ) (upper : ((h : ℕ) → has (s / 2) h ≡ false) → s / 2 ≡ 0) (none : (h : ℕ) → has s h ≡ false).
    let u : s / 2 ≡ 0 = upper (λ h. half s h ∙ none (suc h)) in
    let odd : s % 2 ≡ 1 → ⊥ = eqb-false (s % 2) 1 (sym (first s) ∙ none 0) in
    omega arith)

bit_same : (x : ℕ) → x < 2 → (y : ℕ) → y < 2 → eqb x 1 ≡ eqb y 1 → x ≡ y
bit_same =
    bit (λ x. (y : ℕ) → y < 2 → eqb x 1 ≡ eqb y 1 → x ≡ y)
    (bit (λ y. eqb 0 1 ≡ eqb y 1 → 0 ≡ y) (λ e. refl) (eqb-true 0 1))
    (bit (λ y. eqb 1 1 ≡ eqb y 1 → 1 ≡ y) (λ e. sym (eqb-true 0 1 (sym e))) (λ e. refl))

pub same_members : (a b : ℕ) → Members a (has b) → a ≡ b
same_members =
    bin_ind (λ (a : ℕ). (b : ℕ) → Members a (has b) → a ≡ b)
    (λ b same. sym (no_members b (λ h. sym (same h) ∙ no_member h)))
    (λ (a : ℕ) (upper : (b : ℕ) → Members (a / 2) (has b) → a / 2 ≡ b) (b : ℕ) (same : Members a (has b)).
    let u : a / 2 ≡ b / 2 = upper (b / 2) (λ h. half a h ∙ same (suc h) ∙ sym (half b h)) in
    let l : a % 2 ≡ b % 2 =
    bit_same (a % 2) (mod-lt a (zero-lt-suc 1)) (b % 2) (mod-lt b (zero-lt-suc 1)) (sym (first a) ∙ same 0 ∙ first b) in
    omega arith)

-- A set of 64 bits has members below 64 alone.
pub member_below : (s h : ℕ) → s < 2 ^ 64 → has s h ≡ true → h < 64
unfolding has
member_below s h l m =
    lt_of_not-le
    (λ (past : 64 ≤ h).
    let none : s / 2 ^ h ≡ 0 = div-eq_of_lt (lt_of_lt_of_le l (pow_mono past)) in
    let one : s / 2 ^ h % 2 ≡ 1 = eqb-true (s / 2 ^ h % 2) 1 m in
    omega arith)

implied : (p q : Bool) → (p ≡ true → q ≡ true) → p && q ≡ p
implied true q f = f refl
implied false q f = refl

-- A part that is not the whole is less as a number, so that a set which grows, or shrinks, does not do so for ever.
pub part_less : (a b : ℕ) → ((k : ℕ) → In a k → In b k) → (a ≡ b → ⊥) → a < b
part_less a b part other =
    let meet : bit_and a b ≡ a = same_members (bit_and a b) a (λ k. met a b k ∙ implied (has a k) (has b k) (part k)) in
    omega (arith, and_le_r a b)

-- ---- A set without the members of another, and the lowest member

differing : (a b : ℕ) → Members (bit_xor a b) (λ h. cond (has a h) (not (has b h)) (has b h))
differing = on_bits bit_xor (λ p q. cond p (not q) q) xor_shr xor_mod (refl, refl, refl, refl)

-- What is left of a set when a part of it is taken out, as `!` takes it out of all.
taken_out : (m x : ℕ) → bit_and m x ≡ x → m - x ≡ bit_xor m x
taken_out m x part = omega (arith, xor_add_and m x)

within : (p o : Bool) → p ≡ p && o → p ≡ true → o ≡ true
within true o e m = sym e
within false o e m = absurd (false≢true m)

in_all : (s h : ℕ) → s < 2 ^ 64 → has s h ≡ true → has (2 ^ 64 - 1) h ≡ true
in_all s h l =
    within (has s h) (has (2 ^ 64 - 1) h)
    (ap (λ (n : ℕ). has n h) (sym (and_mask s 64 ∙ mod-eq_of_lt l)) ∙ met s (2 ^ 64 - 1) h)

but : (p o e : Bool) → (p ≡ true → o ≡ true) → p && cond o (not e) e ≡ p && not e
but true o e f = rw (f refl)
but false o e f = refl

pub removed : (s x : ℕ) → s < 2 ^ 64 → x < 2 ^ 64
    → Members (bit_and s ((2 ^ 64 - 1) - x)) (λ h. has s h && not (has x h))
removed s x l m h =
    let part : bit_and (2 ^ 64 - 1) x ≡ x = and_comm (2 ^ 64 - 1) x ∙ and_mask x 64 ∙ mod-eq_of_lt m in
    ap (λ (n : ℕ). has (bit_and s n) h) (taken_out (2 ^ 64 - 1) x part)
    ∙ met s (bit_xor (2 ^ 64 - 1) x) h
    ∙ ap (λ (b : Bool). has s h && b) (differing (2 ^ 64 - 1) x h)
    ∙ but (has s h) (has (2 ^ 64 - 1) h) (has x h) (in_all s h l)

-- t is a member of s, and none is lower.
abbrev Found : ℕ → ℕ → Type 0
Found s t = (has s t ≡ true) × ((h : ℕ) → h < t → has s h ≡ false)

above : (s t : ℕ) → s % 2 ≡ 0 → Found (s / 2) t → (h : ℕ) → h < suc t → has s h ≡ false
above s t e u zero l = first s ∙ ap (λ (n : ℕ). eqb n 1) e
above s t e u (suc h) l = sym (half s h) ∙ u.1 h (omega arith)

lowest_bit : (k s : ℕ) → s < 2 ^ k → (s ≡ 0 → ⊥) → Found s (count_trailing_zeros k s)
unfolding count_trailing_zeros
lowest_bit zero s l some = absurd (some (lt-one l))
lowest_bit (suc k) s l some =
    bit (λ (x : ℕ). s % 2 ≡ x → Found s (under x (count_trailing_zeros k (s / 2))))
    (λ (e : s % 2 ≡ 0).
    let u : Found (s / 2) (count_trailing_zeros k (s / 2)) =
    lowest_bit k (s / 2) (omega (arith, pow-suc 2 k)) (λ (z : s / 2 ≡ 0). some (omega arith))
    in
    (sym (half s (count_trailing_zeros k (s / 2))) ∙ u.0, above s (count_trailing_zeros k (s / 2)) e u))
    (λ (e : s % 2 ≡ 1). (first s ∙ ap (λ (n : ℕ). eqb n 1) e, λ h l. absurd (not-suc-le-zero l)))
    (s % 2) (mod-lt s (zero-lt-suc 1)) refl

pub trailing : (s : ℕ) → s < 2 ^ 64 → (s ≡ 0 → ⊥) → Lowest s (count_trailing_zeros 64 s)
trailing s l some =
    let f = lowest_bit 64 s l some in
    record { below = member_below s (count_trailing_zeros 64 s) l f.0; member = f.0; least = f.1 }

above_self : (n : ℕ) → n < 2 ^ n
above_self zero = zero-lt-suc 0
above_self (suc n) = omega (arith, pow-suc 2 n, above_self n)

-- A set that is not 0 has a member.
pub some_member : (s : ℕ) → (s ≡ 0 → ⊥) → (h : ℕ) × (has s h ≡ true)
some_member s some = (count_trailing_zeros s s, (lowest_bit s s (above_self s) some).0)

-- ---- Members of a union, of an intersection, and of a set of one or without one

pub either : (a b : Bool) → ((a || b) ≡ true) ↔ ((a ≡ true) ⊎ (b ≡ true))
either true b = (λ e. inl refl, λ s. refl)
either false b = (inr, ⊎_elim (λ e. absurd (false≢true e)) (λ e. e))

-- yes, and not the other
pub but_not : (p q : Bool) → ((p && not q) ≡ true) ↔ ((p ≡ true) × (q ≡ true → ⊥))
but_not true true = (λ e. absurd (false≢true e), λ f. absurd (f.1 refl))
but_not true false = (λ e. (refl, λ f. false≢true f), λ f. refl)
but_not false q = (λ e. absurd (false≢true e), λ f. absurd (false≢true f.0))

pub in_union : (r a b : ℕ) → Members r (λ h. has a h || has b h) → (h : ℕ) → In r h ↔ (In a h ⊎ In b h)
in_union r a b union h =
    (λ m. (either (has a h) (has b h)).0 (sym (union h) ∙ m), λ m. union h ∙ (either (has a h) (has b h)).1 m)

pub in_meet : (r a b : ℕ) → Members r (λ h. has a h && has b h) → (h : ℕ) → In r h ↔ (In a h × In b h)
in_meet r a b meet h =
    let both = and-eq-true_iff (has a h) (has b h) in (λ m. both.0 (sym (meet h) ∙ m), λ m. meet h ∙ both.1 m)

pub in_single : (r t : ℕ) → Members r (λ h. eqb h t) → (h : ℕ) → In r h ↔ (h ≡ t)
in_single r t single h = (λ m. eqb-true h t (sym (single h) ∙ m), λ e. single h ∙ eq-eqb h t e)

pub in_rest : (r s t : ℕ) → Members r (λ h. has s h && not (eqb h t)) → (h : ℕ) → In r h ↔ (In s h × (h ≡ t → ⊥))
in_rest r s t rest h = (
  λ m. let both = (and-eq-true_iff (has s h) (not (eqb h t))).0 (sym (rest h) ∙ m) in
      (both.0, eqb-false h t (not-true (eqb h t) both.1)),
  λ m. rest h ∙ (and-eq-true_iff (has s h) (not (eqb h t))).1 (m.0, ap not (ne_eqb h t m.1)),
)

-- ---- Sets by the predicates that tell their members

pub included : (h s : ℕ) → Members (including h s) (λ u. eqb u h || has s u)
included h s u = joined (2 ^ h) s u ∙ ap (λ (b : Bool). b || has s u) (power h u)

same_truth : (p q : Bool) → (p ≡ true) ↔ (q ≡ true) → p ≡ q
same_truth true q h = sym (h.0 refl)
same_truth false true h = h.1 refl
same_truth false false h = refl

pub holds_unique : (a b : ℕ) (P : ℕ → Type 0) → Holds a P → Holds b P → a ≡ b
holds_unique a b P p q = same_members a b (λ h. same_truth (has a h) (has b h) (Iff.trans (p h) (Iff.symm (q h))))

pub holds_none : (P : ℕ → Type 0) → ((b : ℕ) → P b → ⊥) → Holds 0 P
holds_none P none b = (λ e. absurd (nobody_in 0 b refl e), λ p. absurd (none b p))

pub holds_same : (P Q : ℕ → Type 0) (s : ℕ) → Holds s P → ((b : ℕ) → P b ↔ Q b) → Holds s Q
holds_same P Q s p e b = (λ h. (e b).0 ((p b).0 h), λ q. (p b).1 ((e b).1 q))

pub holds_join : (P Q : ℕ → Type 0) (s t u : ℕ) → Holds s P → Holds t Q → Members u (λ b. has s b || has t b)
    → Holds u (λ b. P b ⊎ Q b)
holds_join P Q s t u p q m b = (
  λ e. ⊎_elim (λ f. inl ((p b).0 f)) (λ f. inr ((q b).0 f)) ((in_union u s t m b).0 e),
  λ f. (in_union u s t m b).1 (⊎_elim (λ x. inl ((p b).1 x)) (λ x. inr ((q b).1 x)) f),
)

pub holds_including : (P : ℕ → Type 0) (h s : ℕ) → Holds s P → Holds (including h s) (λ b. (b ≡ h) ⊎ P b)
holds_including P h s p =
    holds_join (λ b. b ≡ h) P (2 ^ h) s (including h s)
    (in_single (2 ^ h) h (power h)) p (joined (2 ^ h) s)

pub holds_without : (P : ℕ → Type 0) (s t u : ℕ) → Holds s P → Members u (λ b. has s b && not (eqb b t))
    → Holds u (λ b. P b × (b ≡ t → ⊥))
holds_without P s t u p m b = (
  λ e. let r = (in_rest u s t m b).0 e in ((p b).0 r.0, r.1),
  λ q. (in_rest u s t m b).1 ((p b).1 q.0, q.1),
)

-- A set that is 0 exactly where the predicate tells nobody.
pub holds_empty : (P : ℕ → Type 0) (s : ℕ) → Holds s P → (s ≡ 0) ↔ ((b : ℕ) → P b → ⊥)
holds_empty P s p = (
  λ e b q. nobody_in s b e ((p b).1 q),
  λ none. no_members s (λ b. eq-false_of_not-eq-true (λ m. none b
      ((p b).0 m))),
)

-- Members below 64 alone make a set of 64 bits.
pub below_64 : (s : ℕ) → ((h : ℕ) → In s h → h < 64) → s < 2 ^ 64
unfolding has
below_64 s below =
    lt_of_not-le
    (λ (past : 2 ^ 64 ≤ s).
    let (h, m) = some_member (s / 2 ^ 64) (λ z. omega (arith, z, past)) in
    let member : In s (64 + h) = ap (λ (n : ℕ). eqb (n % 2) 1) (sym (shr-shr s 64 h)) ∙ m in
    omega (arith, below (64 + h) member))

-- ---- The members one by one

-- From h on they are as many as the ones of the set shifted by h.
counted_from : (n h s : ℕ) → s / 2 ^ h < 2 ^ n → ones (s / 2 ^ h) ≡ length (members_from n h s)
unfolding members_from has
counted_from zero h s few = ap ones (lt-one few) ∙ ones-ones 0
counted_from (suc n) h s few =
    let x : ℕ = s / 2 ^ h in
    let rest : x / 2 ≡ s / 2 ^ suc h = shr-shr s h 1 ∙ ap (λ (k : ℕ). s / 2 ^ k) (add-one h) in
    let upper = counted_from n (suc h) s (omega (arith, rest, pow-suc 2 n)) in
    bit (λ (d : ℕ). x % 2 ≡ d → ones x ≡ length (in_front (eqb d 1) h (members_from n (suc h) s)))
    (λ (e : x % 2 ≡ 0). omega (arith, ones_step x, ap ones rest, upper))
    (λ (e : x % 2 ≡ 1). omega (arith, ones_step x, ap ones rest, upper))
    (x % 2) (mod-lt x (zero-lt-suc 1)) refl

pub counted : (s : ℕ) → s < 2 ^ 64 → ones s ≡ size s
unfolding members
counted s few = ap ones (sym (div-one s)) ∙ counted_from 64 0 s (omega (arith, div-one s))

module _ (s r t : ℕ) (member : has s t ≡ true) (rest : Members r (λ h. has s h && not (eqb h t))) where
  -- But for the one taken out, both have the same members.
  other : (h : ℕ) → (h ≡ t → ⊥) → has r h ≡ has s h
  other h n = rest h ∙ ap (λ (b : Bool). has s h && not b) (ne_eqb h t n) ∙ and-true (has s h)

  above_same : (n h : ℕ) → t < h → members_from n h s ≡ members_from n h r
  unfolding members_from
  above_same zero h l = refl
  above_same (suc n) h l =
      ap₂ (λ (b : Bool) (m : List ℕ). in_front b h m) (sym (other h (λ e. omega arith)))
      (above_same n (suc h) (omega arith))

  -- Where none from h on is lower, the one taken out stands first.
  first_from : (n h : ℕ) → h ≤ t → t < h + n → ((k : ℕ) → k < t → has s k ≡ false)
      → members_from n h s ≡ t ∷ members_from n h r
  unfolding members_from
  first_from zero h low high none = absurd (omega arith)
  first_from (suc n) h low high none =
      ⊎_elim
      (λ (here : h ≡ t).
      let taken : has s h ≡ true = ap (has s) here ∙ member in
      let left : has r h ≡ false =
      rest h ∙ ap (λ (b : Bool). has s h && not b) (eq-eqb h t here) ∙ and-false (has s h) in
      rw (taken, left) (ap₂ ◌∷◌ here (above_same n (suc h) (omega arith))))
      (λ (below : h < t).
      let passed : has s h ≡ false = none h below in
      let left : has r h ≡ false = other h (λ e. omega arith) ∙ passed in
      rw (passed, left) (first_from n (suc h) (omega arith) (omega arith) none))
      (eq-or-lt_of_le low)

-- The members are the lowest, then those of the set without it.
pub lowest_first : (s r t : ℕ) → Lowest s t → Members r (λ h. has s h && not (eqb h t)) → members s ≡ t ∷ members r
unfolding members
lowest_first s r t l rest = first_from s r t l.member rest 64 0 (omega arith) l.below l.least

-- Nobody is listed of the empty set.
none_from : (n h : ℕ) → members_from n h 0 ≡ []
unfolding members_from
none_from zero h = refl
none_from (suc n) h = rw (no_member h) (none_from n (suc h))

pub none_listed : (s : ℕ) → s ≡ 0 → members s ≡ []
unfolding members
none_listed s e = rw e (none_from 64 0)
