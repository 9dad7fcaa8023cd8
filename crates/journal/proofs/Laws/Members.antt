-- The members of a set, as the owners of a wait: at most 64, ascending, none above 63.
use Rattle.std.specs.Prelude.{ℕ, zero, suc, ◌+◌, ◌≤◌, ◌≡◌, refl, Bool, true, false, List, length}
use Rattle.std.proofs.Common.{arith, le-leb, lt-ltb}
use Rattle.bitset.specs.Bitset.{has, in_front, members_from, members}
use Rattle.journal.specs.Records.{ascending}

-- One may stand in front of those above it.
first_ascending : (b : Bool) (h : ℕ) (above : List ℕ) (least : ℕ) → least ≤ h → h + 1 ≤ 64
    → ((low : ℕ) → low ≤ h + 1 → ascending low above ≡ true) → ascending least (in_front b h above) ≡ true
first_ascending true h above least low within rest =
    rw (le-leb least h low, lt-ltb h 64 (omega arith), rest (h + 1) (omega arith))
first_ascending false h above least low within rest = rest least (omega arith)

ascending_from : (n h s least : ℕ) → least ≤ h → n + h ≤ 64 → ascending least (members_from n h s) ≡ true
unfolding members_from
ascending_from zero h s least low within = refl
ascending_from (suc n) h s least low within =
    first_ascending (has s h) h (members_from n (suc h) s) least low (omega arith)
    (λ bound below. ascending_from n (suc h) s bound (omega arith) (omega arith))

pub members_ascending : (s : ℕ) → ascending 0 (members s) ≡ true
unfolding members
members_ascending s = ascending_from 64 0 s 0 (omega arith) (omega arith)

one_more : (b : Bool) (h : ℕ) (above : List ℕ) → length (in_front b h above) ≤ suc (length above)
one_more true h above = omega arith
one_more false h above = omega arith

few_from : (n h s : ℕ) → length (members_from n h s) ≤ n
unfolding members_from
few_from zero h s = omega arith
few_from (suc n) h s = omega (arith, one_more (has s h) h (members_from n (suc h) s), few_from n (suc h) s)

pub members_few : (s : ℕ) → length (members s) ≤ 64
unfolding members
members_few s = few_from 64 0 s
