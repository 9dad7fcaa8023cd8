-- 02, No. 3: a number in groups of seven bits, lowest group first, the top bit set on all groups but the last, in the
-- shortest form; and what reads it.
use Rattle.std.specs.Prelude.{ℕ, zero, suc, ◌+◌, ◌*◌, ◌-◌, ◌/◌, ◌%◌, Bool, true, cond, ◌&&◌, List, [], ◌∷◌, ◌++◌, eqb}
use Rattle.std.specs.Prelude.{ltb}

-- ---- Writing

abbrev pub groups_within : ℕ → ℕ → List ℕ
groups_within zero n = []
groups_within (suc k) n = cond (ltb n 128) (n ∷ []) ((128 + n % 128) ∷ groups_within k (n / 128))

-- The groups of a number. Five are enough for 32 bits.
unfoldable pub groups : ℕ → List ℕ
groups n = groups_within 5 n

-- Numbers, one behind the other.
abbrev pub grouped : List ℕ → List ℕ
grouped [] = []
grouped (n ∷ numbers) = groups n ++ grouped numbers

-- Numbers of 32 bits.
abbrev pub narrow : List ℕ → Bool
narrow [] = true
narrow (n ∷ numbers) = ltb n 4_294_967_296 && narrow numbers

-- ---- Reading

-- Why bytes are turned away: what error 13 lists. A promise that names a cause says which is met first.
pub data Cause : Type 0 where
  -- the bytes end inside a record
  cut : Cause
  -- no call has that letter
  letter : Cause
  -- no call of that letter gives that reply code
  code : Cause
  -- an owner above 63, or not above the one before it
  owners : Cause
  -- a list past 64
  list : Cause
  -- a batch past 16
  batch : Cause
  -- a longer form than needed
  long_form : Cause
  -- a number past 32 bits, or past five groups
  width : Cause

-- The number of each.
abbrev pub refusal_of : Cause → ℕ
refusal_of cause = 13

-- What stands first in bytes, and the bytes behind it; or 13: why, and the bytes from the letter or number on that
-- cannot be read.
pub data Read (A : Type 0) : Type 0 where
  found : (value : A) (rest : List ℕ) → Read A
  bad : (cause : Cause) (rest : List ℕ) → Read A

module _ {A B : Type 0} where
  -- One thing, and what is read behind it.
  abbrev pub then : Read A → (A → List ℕ → Read B) → Read B
  then (found value rest) more = more value rest
  then (bad cause rest) more = bad cause rest

-- A group with its top bit set, before what the groups behind it say. A last group of 0 is more than is needed.
abbrev pub higher : ℕ → Read ℕ → Read ℕ
higher b (found value rest) = cond (eqb value 0) (bad long_form rest) (found (b - 128 + 128 * value) rest)
higher b (bad cause rest) = bad cause rest

-- What at most so many groups say; `number_from` says where a number that is turned away begins.
abbrev pub value : ℕ → List ℕ → Read ℕ
value zero bytes = bad width bytes
value (suc k) [] = bad cut []
value (suc k) (b ∷ bytes) = cond (ltb b 128) (found b bytes) (higher b (value k bytes))

-- A number of 32 bits in at most five groups, which begin the bytes.
abbrev pub number_from : List ℕ → Read ℕ → Read ℕ
number_from bytes (found n rest) = cond (ltb n 4_294_967_296) (found n rest) (bad width bytes)
number_from bytes (bad cause rest) = bad cause bytes

unfoldable pub number : List ℕ → Read ℕ
number bytes = number_from bytes (value 5 bytes)

-- So many numbers.
abbrev pub numbers : ℕ → List ℕ → Read (List ℕ)
numbers zero bytes = found [] bytes
numbers (suc n) bytes =
    then (number bytes) (λ first rest. then (numbers n rest) (λ others left. found (first ∷ others) left))
