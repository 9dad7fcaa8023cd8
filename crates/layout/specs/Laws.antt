-- Laws for the functions of `layout`.
use Rattle.std.specs.List.{fold}
use Rattle.std.specs.Simd.{first_chunks}
use Rattle.std.specs.Prelude.{ℕ, zero, suc, ◌+◌, ◌-◌, ◌*◌, ◌/◌, ◌≤◌, ◌<◌, ◌≡◌, refl, true, false, ◌↔◌, List, [], ◌∷◌}
use Rattle.std.specs.Prelude.{◌++◌, map, eqb}
use Rattle.std.specs.Prelude.{ltb, length, take, drop}
use Rattle.std.proofs.Common.{sym, ap, ap₂, ◌∙◌, not-suc-le-zero, arith, ltb-true}
use Rattle.std.proofs.Common.{ltb-false, eqb-true, eq-eqb, length-drop, length-take-le, get_or-drop, take_all}
use Rattle.std.proofs.lemmas.List.{take-append-le}
use Rattle.std.specs.Int.Bits.{bit_or, or_add_and, or_self}
use Rattle.std.proofs.lemmas.Nat.{and_le_l, and_le_r}
use Rattle.std.proofs.Math.ListN.{get_or-eq_default}
use Rattle.operations.specs.Operations.{Row, row}
use Rattle.operations.proofs.Laws.Cases.{split, same}
use Rattle.replay.specs.Replay.{row_of, rows_of}
use Rattle.store.specs.Layout.{word, tabulate}
use Rattle.store.proofs.Laws.Lists.{tabulate_same}
use Rattle.layout.specs.Rows.{row_in}

-- ---- Zeros

pub or_zero_lem : (a b : ℕ) → bit_or a b ≡ 0 → (a ≡ 0) × (b ≡ 0)
or_zero_lem a b e =
    let sum = or_add_and a b in
    let left = and_le_l a b in
    let right = and_le_r a b in
    (omega arith, omega arith)

-- The union of the words is 0 exactly where each is.
zeros_from : (w : List ℕ) (seen : ℕ) → fold bit_or seen w ≡ 0 → (seen ≡ 0) × ((i : ℕ) → word w i ≡ 0)
zeros_from [] seen e = (e, λ i. refl)
zeros_from (x ∷ w) seen e =
    let (both, rest) = zeros_from w (bit_or seen x) e in
    let (none, first) = or_zero_lem seen x both in
    (none, at first rest)
  where
    at : x ≡ 0 → ((i : ℕ) → word w i ≡ 0) → (i : ℕ) → word (x ∷ w) i ≡ 0
    at e rest zero = e
    at e rest (suc i) = rest i

union_of_zeros : (w : List ℕ) → ((i : ℕ) → word w i ≡ 0) → fold bit_or 0 w ≡ 0
union_of_zeros [] zeros = refl
union_of_zeros (x ∷ w) zeros =
    ap (λ (seen : ℕ). fold bit_or (bit_or 0 seen) w) (zeros 0)
    ∙ ap (λ (seen : ℕ). fold bit_or seen w) (or_self 0)
    ∙ union_of_zeros w (λ i. zeros (suc i))

pub union_zero : (w : List ℕ) (seen : ℕ) → seen ≡ fold bit_or 0 w → (eqb seen 0 ≡ true) ↔ ((i : ℕ) → word w i ≡ 0)
union_zero w seen e = (
  λ q. (zeros_from w 0 (sym e ∙ eqb-true seen 0 q)).1,
  λ zeros. eq-eqb seen 0 (e ∙ union_of_zeros w zeros),
)

-- The union of the first i words, and whether it is 0.
pub record Seen (w : List ℕ) (i seen : ℕ) : Type 0 where
  pub zeros : seen ≡ 0 → (j : ℕ) → j < i → word w j ≡ 0
  pub none : ((j : ℕ) → word w j ≡ 0) → seen ≡ 0

pub seen_start : (w : List ℕ) → Seen w 0 0
seen_start w = record { zeros = λ e j l. absurd (not-suc-le-zero l); none = λ h. refl }

pub seen_next : (w : List ℕ) (i seen : ℕ) → Seen w i seen → Seen w (i + 1) (bit_or seen (word w i))
seen_next w i seen s =
    record {
      zeros = λ e j l. same j i (λ (q : j ≡ i). ap (word w) q ∙ (or_zero_lem seen (word w i) e).1)
          (λ (q : j ≡ i → ⊥). s.zeros (or_zero_lem seen (word w i) e).0 j (below j l q));
      none = λ h. ap₂ bit_or (s.none h) (h i) ∙ or_self 0;
    }
  where
    below : (j : ℕ) → j < i + 1 → (j ≡ i → ⊥) → j < i
    below j l q =
        split (ltb j i) (ltb-true j i) (λ (e : ltb j i ≡ false). let m = ltb-false j i e in absurd (q (omega arith)))

pub seen_all : (w : List ℕ) (i seen : ℕ) → length w ≤ i → Seen w i seen → (eqb seen 0 ≡ true) ↔ ((j : ℕ) → word w j ≡ 0)
seen_all w i seen l s = (
  λ e j. split (ltb j i) (λ (b : ltb j i ≡ true). s.zeros (eqb-true seen 0 e) j (ltb-true j i b))
      (λ (b : ltb j i ≡ false). let m = ltb-false j i b in get_or-eq_default w 0 (omega arith)),
  λ h. eq-eqb seen 0 (s.none h),
)

-- ---- Rows

-- The first n pairs of the copy are the first n rows.
abbrev pub Copied : List ℕ → List (List ℕ) → ℕ → Type 0
Copied w copy n = rows_of copy n ≡ tabulate n (row_in w)

first_pair : (w : List ℕ) → row_of (take 2 w) ≡ row_in w 0
first_pair [] = refl
first_pair (x ∷ []) = refl
first_pair (x ∷ y ∷ w) = refl

row_after : (w : List ℕ) (i : ℕ) → row_in (drop 2 w) i ≡ row_in w (suc i)
row_after w i =
    ap₂ row (get_or-drop 2 w (2 * i) 0 ∙ ap (word w) (omega arith))
    (get_or-drop 2 w (2 * i + 1) 0 ∙ ap (word w) (omega arith))

-- Words, two by two, are rows.
pairs_rows : (n k : ℕ) (w : List ℕ) → n ≤ k → map row_of (take n (first_chunks 2 k w)) ≡ tabulate n (row_in w)
unfolding tabulate
pairs_rows zero k w l = refl
pairs_rows (suc n) zero w l = absurd (omega arith)
pairs_rows (suc n) (suc k) w l =
    ap₂ (λ (r : Row) (rs : List Row). r ∷ rs) (first_pair w)
    (pairs_rows n k (drop 2 w) (omega arith)
    ∙ tabulate_same n (row_in (drop 2 w)) (λ i. row_in w (suc i)) (λ i m. row_after w i))

pub pairs_copied : (w : List ℕ) (n : ℕ) (pairs copied rest : List (List ℕ)) → 2 * n ≤ length w
    → pairs ≡ first_chunks 2 (length w / 2) w → length pairs ≡ length w / 2 → copied ≡ take n pairs
    → Copied w (copied ++ rest) n
pairs_copied w n pairs copied rest l e whole c =
    let many : length copied ≡ n = ap length c ∙ length-take-le n pairs (omega arith) in
    ap (map row_of) (take-append-le n copied rest (omega arith) ∙ take_all n copied (omega arith) ∙ c ∙ ap (take n) e)
    ∙ pairs_rows n (length w / 2) w (omega arith)

-- A part that goes to the end.
pub tail_part : (w : List ℕ) (a : ℕ) → take (length w - a) (drop a w) ≡ drop a w
tail_part w a = take_all (length w - a) (drop a w) (rw length-drop (omega arith))
