-- Numbers in groups: their bytes and how many they are, that what is read was written, and that it is read back.
use Rattle.std.specs.Prelude.{ℕ, zero, suc, ◌+◌, ◌*◌, ◌-◌, ◌/◌, ◌%◌, ◌^◌, ◌≤◌, ◌<◌, ◌≡◌, refl, true, false, List, []}
use Rattle.std.specs.Prelude.{◌∷◌, ◌++◌, eqb, ltb, length}
use Rattle.std.proofs.Common.{sym, ap, ◌∙◌, append_assoc, div-lt_iff_lt-mul, pow-suc, arith, lt-ltb, le-ltb, ltb-true}
use Rattle.std.proofs.Common.{ltb-false, ne_eqb}
use Rattle.std.proofs.Math.Bool.{and-eq-true_iff}
use Rattle.std.proofs.Math.Nat.{one-le-pow}
use Rattle.std.proofs.lemmas.Bool.{eqb-false}
use Rattle.operations.specs.Operations.{All}
use Rattle.operations.proofs.Laws.Cases.{split}
use Rattle.journal.specs.Groups.{groups_within, groups, grouped, narrow, Read, found, bad, higher, value}
use Rattle.journal.specs.Groups.{number_from, number}
use Rattle.journal.proofs.Laws.Found.{Found, found_cond}

-- Bytes, each below 256.
abbrev pub Bytes : List ℕ → Type 0
Bytes bytes = All (λ (b : ℕ). b < 256) bytes

shorter : (k n : ℕ) → n < 128 ^ suc k → n / 128 < 128 ^ k
shorter k n few = (div-lt_iff_lt-mul {k = 128} {x = n} {y = 128 ^ k} (omega arith)).1 (rw pow-suc at few)

-- ---- Writing

within_one : (k n : ℕ) → n < 128 → groups_within (suc k) n ≡ n ∷ []
within_one k n small = rw (lt-ltb n 128 small)

within_more : (k n : ℕ) → 128 ≤ n → groups_within (suc k) n ≡ (128 + n % 128) ∷ groups_within k (n / 128)
within_more k n large = rw (le-ltb n 128 large)

-- A group more than a number has changes nothing.
enough : (k n : ℕ) → n < 128 ^ suc k → groups_within (suc (suc k)) n ≡ groups_within (suc k) n
enough zero n few = within_one 1 n (omega arith) ∙ sym (within_one 0 n (omega arith))
enough (suc k) n few =
    split (ltb n 128)
    (λ e. within_one (suc (suc k)) n (ltb-true n 128 e) ∙ sym (within_one (suc k) n (ltb-true n 128 e)))
    (λ e. within_more (suc (suc k)) n (ltb-false n 128 e)
    ∙ ap (λ (l : List ℕ). (128 + n % 128) ∷ l) (enough k (n / 128) (shorter (suc k) n few))
    ∙ sym (within_more (suc k) n (ltb-false n 128 e)))

pub one_group : (n : ℕ) → n < 128 → groups n ≡ n ∷ []
unfolding groups
one_group = within_one 4

-- Below 2 ^ 35 five groups are enough.
pub more_groups : (n : ℕ) → 128 ≤ n → n < 34_359_738_368 → groups n ≡ (128 + n % 128) ∷ groups (n / 128)
unfolding groups
more_groups n large fits =
    within_more 4 n large
    ∙ ap (λ (l : List ℕ). (128 + n % 128) ∷ l) (sym (enough 3 (n / 128) (shorter 4 n fits)))

length_within : (k n : ℕ) → length (groups_within k n) ≤ k
length_within zero n = omega arith
length_within (suc k) n =
    split (ltb n 128) (λ e. rw (within_one k n (ltb-true n 128 e)) (omega arith))
    (λ e. rw (within_more k n (ltb-false n 128 e)) (omega (arith, length_within k (n / 128))))

pub at_most_five : (n : ℕ) → length (groups n) ≤ 5
unfolding groups
at_most_five = length_within 5

bytes_within : (k n : ℕ) → Bytes (groups_within k n)
bytes_within zero n = tt
bytes_within (suc k) n =
    split (ltb n 128)
    (λ e. let small : n < 128 = ltb-true n 128 e in rw (within_one k n small) (omega arith, tt))
    (λ e. rw (within_more k n (ltb-false n 128 e)) (omega arith, bytes_within k (n / 128)))

pub groups_bytes : (n : ℕ) → Bytes (groups n)
unfolding groups
groups_bytes = bytes_within 5

-- ---- Numbers one behind the other

pub grouped_append : (ns ms : List ℕ) → grouped (ns ++ ms) ≡ grouped ns ++ grouped ms
grouped_append [] ms = refl
grouped_append (n ∷ ns) ms = rw (grouped_append ns ms) (sym (append_assoc (groups n) (grouped ns) (grouped ms)))

pub narrow_parts : (ns ms : List ℕ) → narrow (ns ++ ms) ≡ true → (narrow ns ≡ true) × (narrow ms ≡ true)
narrow_parts [] ms e = (refl, e)
narrow_parts (n ∷ ns) ms e =
    let (here, further) = (and-eq-true_iff (ltb n 4_294_967_296) (narrow (ns ++ ms))).0 e in
    let (first, second) = narrow_parts ns ms further in
    ((and-eq-true_iff (ltb n 4_294_967_296) (narrow ns)).1 (here, first), second)

pub narrow_append : (ns ms : List ℕ) → narrow ns ≡ true → narrow ms ≡ true → narrow (ns ++ ms) ≡ true
narrow_append [] ms p q = q
narrow_append (n ∷ ns) ms p q =
    let (here, further) = (and-eq-true_iff (ltb n 4_294_967_296) (narrow ns)).0 p in
    (and-eq-true_iff (ltb n 4_294_967_296) (narrow (ns ++ ms))).1 (here, narrow_append ns ms further q)

-- ---- Read and so written

-- A number that at most k groups said, and the bytes that it was read of.
pub record Said (k : ℕ) (bytes : List ℕ) (n : ℕ) (rest : List ℕ) : Type 0 where
  pub small : n < 128 ^ k
  pub are : bytes ≡ groups_within k n ++ rest

said_last : (k b : ℕ) (bytes : List ℕ) → b < 128 → Said (suc k) (b ∷ bytes) b bytes
said_last k b bytes last =
    record {
      small = rw (pow-suc 128 k) (omega (arith, one-le-pow k 128 (omega arith)));
      are = rw (within_one k b last);
    }

said_more : (k b v : ℕ) (bytes rest : List ℕ) → 128 ≤ b → b < 256 → Said k bytes v rest → (v ≡ 0 → ⊥)
    → Said (suc k) (b ∷ bytes) (b - 128 + 128 * v) rest
said_more k b v bytes rest top byte said some =
    let n : ℕ = b - 128 + 128 * v in
    let over : n / 128 ≡ v = omega arith in
    let under : 128 + n % 128 ≡ b = omega arith in
    record {
      small = rw (pow-suc 128 k) (omega (arith, said.small));
      are = rw (within_more k n (omega arith), over, under) (ap (λ (l : List ℕ). b ∷ l) said.are);
    }

higher_said : (k b : ℕ) (bytes : List ℕ) (r : Read ℕ) → 128 ≤ b → b < 256 → Found (Said k bytes) r
    → Found (Said (suc k) (b ∷ bytes)) (higher b r)
higher_said k b bytes (bad cause left) top byte said = tt
higher_said k b bytes (found v left) top byte said =
    found_cond (Said (suc k) (b ∷ bytes)) (eqb v 0) _ (found (b - 128 + 128 * v) left) (λ e. tt)
    (λ e. said_more k b v bytes left top byte said (eqb-false v 0 e))

value_said : (k : ℕ) (bytes : List ℕ) → Bytes bytes → Found (Said k bytes) (value k bytes)
value_said zero bytes all = tt
value_said (suc k) [] all = tt
value_said (suc k) (b ∷ bytes) all =
    found_cond (Said (suc k) (b ∷ bytes)) (ltb b 128) (found b bytes) (higher b (value k bytes))
    (λ e. said_last k b bytes (ltb-true b 128 e))
    (λ e. higher_said k b bytes (value k bytes) (ltb-false b 128 e) all.0 (value_said k bytes all.1))

-- A number that was read, and the bytes that it was read of.
pub record NumberRead (bytes : List ℕ) (n : ℕ) (rest : List ℕ) : Type 0 where
  pub fits : n < 4_294_967_296
  pub are : bytes ≡ groups n ++ rest

number_from_lem : (bytes : List ℕ) (r : Read ℕ) → Found (Said 5 bytes) r → Found (NumberRead bytes)
    (number_from bytes r)
unfolding groups
number_from_lem bytes (bad cause left) said = tt
number_from_lem bytes (found n rest) said =
    found_cond (NumberRead bytes) (ltb n _) (found n rest) _
    (λ e. record { fits = omega (arith, ltb-true n _ e); are = said.are }) (λ e. tt)

-- The bytes that a number is read of are its groups.
pub number_written : (bytes : List ℕ) → Bytes bytes → Found (NumberRead bytes) (number bytes)
unfolding number
number_written bytes all = number_from_lem bytes (value 5 bytes) (value_said 5 bytes all)

-- ---- Reading back

higher_read : (n : ℕ) (rest : List ℕ) → 128 ≤ n → higher (128 + n % 128) (found (n / 128) rest) ≡ found n rest
higher_read n rest large =
    let some : eqb (n / 128) 0 ≡ false = ne_eqb (n / 128) 0 (λ e. omega arith) in
    let whole : 128 + n % 128 - 128 + 128 * (n / 128) ≡ n = omega arith in
    rw (some, whole)

value_back : (k n : ℕ) (rest : List ℕ) → n < 128 ^ suc k → value (suc k) (groups_within (suc k) n ++ rest)
    ≡ found n rest
value_back zero n rest few = rw (within_one 0 n few, lt-ltb n 128 few)
value_back (suc k) n rest few =
    split (ltb n 128) (λ e. rw (within_one (suc k) n (ltb-true n 128 e), e))
    (λ e.
    let last : ltb (128 + n % 128) 128 ≡ false = le-ltb (128 + n % 128) 128 (omega arith) in
    rw (within_more (suc k) n (ltb-false n 128 e), last, value_back k (n / 128) rest (shorter (suc k) n few))
    (higher_read n rest (ltb-false n 128 e)))

pub number_back : (n : ℕ) (rest : List ℕ) → n < 4_294_967_296 → number (groups n ++ rest) ≡ found n rest
unfolding groups number
number_back n rest fits =
    rw (value_back 4 n rest (omega arith), lt-ltb n 4_294_967_296 fits)
