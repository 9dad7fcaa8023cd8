-- A journal as values and as bytes; bytes that are turned away, with the cause; and bytes that are read though they are
-- odd.
use Rattle.std.specs.Prelude.{ℕ, ◌≡◌, refl, true, List, [], ◌∷◌, length, replicate}
use Prim.Native.Char.{code}
use Rattle.journal.specs.Groups as groups
use Rattle.journal.specs.Groups.{Cause, cut, letter, owners, list, batch, long_form, width, found, bad, number}
use Rattle.journal.specs.Records.{nothing, wait, answered, ended, Record, recorded, bytes_of, file, fits}
use Rattle.journal.specs.Reading.{record_in, records_in}

-- ---- The whole case

-- The calls of 01's listing and their replies: the wait is for 0 alone.
abbrev pub whole_records : List Record
whole_records =
    recorded (code "S") (1 ∷ 2 ∷ 3 ∷ replicate 13 0) nothing
    ∷ recorded (code "B") (0 ∷ []) nothing
    ∷ recorded (code "B") (1 ∷ []) nothing
    ∷ recorded (code "I") (0 ∷ 0 ∷ 1 ∷ 7 ∷ 0 ∷ []) (answered (1 ∷ 0 ∷ []))
    ∷ recorded (code "I") (1 ∷ 0 ∷ 1 ∷ 9 ∷ 0 ∷ []) (answered (1 ∷ 0 ∷ []))
    ∷ recorded (code "I") (1 ∷ 0 ∷ 3 ∷ 0 ∷ 0 ∷ []) (wait (0 ∷ []))
    ∷ recorded (code "F") (1 ∷ []) (ended 2 [])
    ∷ recorded (code "F") (0 ∷ []) (ended 3 (0 ∷ 1 ∷ []))
    ∷ recorded (code "B") (2 ∷ []) nothing
    ∷ recorded (code "I") (2 ∷ 0 ∷ 2 ∷ 0 ∷ 0 ∷ []) (answered (1 ∷ 9 ∷ []))
    ∷ recorded (code "C") (2 ∷ []) (ended 5 [])
    ∷ []

abbrev pub whole_bytes : List ℕ
whole_bytes =
    0x53 ∷ 1 ∷ 2 ∷ 3 ∷ 0 ∷ 0 ∷ 0 ∷ 0 ∷ 0 ∷ 0 ∷ 0 ∷ 0 ∷ 0 ∷ 0 ∷ 0 ∷ 0 ∷ 0
    ∷ 0x42 ∷ 0
    ∷ 0x42 ∷ 1
    ∷ 0x49 ∷ 0 ∷ 0 ∷ 1 ∷ 7 ∷ 0 ∷ 1 ∷ 1 ∷ 0
    ∷ 0x49 ∷ 1 ∷ 0 ∷ 1 ∷ 9 ∷ 0 ∷ 1 ∷ 1 ∷ 0
    ∷ 0x49 ∷ 1 ∷ 0 ∷ 3 ∷ 0 ∷ 0 ∷ 0 ∷ 1 ∷ 0
    ∷ 0x46 ∷ 1 ∷ 2 ∷ 0
    ∷ 0x46 ∷ 0 ∷ 3 ∷ 2 ∷ 0 ∷ 1
    ∷ 0x42 ∷ 2
    ∷ 0x49 ∷ 2 ∷ 0 ∷ 2 ∷ 0 ∷ 0 ∷ 1 ∷ 1 ∷ 9
    ∷ 0x43 ∷ 2 ∷ 5 ∷ 0
    ∷ []

pub whole_case_lem : (file whole_records ≡ whole_bytes) × (records_in whole_bytes ≡ found whole_records [])
unfolding bytes_of groups.groups records_in record_in number
whole_case_lem = (refl, refl)

-- An operation's letter and arguments, all 0, before its reply.
abbrev pub asked : List ℕ → List ℕ
asked reply = 0x49 ∷ 0 ∷ 0 ∷ 0 ∷ 0 ∷ 0 ∷ reply

-- A finish of 0, before its reply.
abbrev pub finishing : List ℕ → List ℕ
finishing reply = 0x46 ∷ 0 ∷ reply

-- ---- Turned away

-- For that cause, from the letter or number on that cannot be read.
abbrev pub Turned : List ℕ → Cause → List ℕ → Type 0
Turned bytes cause rest = records_in bytes ≡ bad cause rest

-- 0 in two groups, 1 in three, 0 in five; five groups past 32 bits; a sixth group.
pub bad_numbers : Turned (0x42 ∷ 0x80 ∷ 0 ∷ []) long_form (0x80 ∷ 0 ∷ [])
    × Turned (0x42 ∷ 0x81 ∷ 0x80 ∷ 0 ∷ []) long_form (0x81 ∷ 0x80 ∷ 0 ∷ [])
    × Turned (0x42 ∷ 0x80 ∷ 0x80 ∷ 0x80 ∷ 0x80 ∷ 0 ∷ []) long_form (0x80 ∷ 0x80 ∷ 0x80 ∷ 0x80 ∷ 0 ∷ [])
    × Turned (0x42 ∷ 0x80 ∷ 0x80 ∷ 0x80 ∷ 0x80 ∷ 0x10 ∷ []) width (0x80 ∷ 0x80 ∷ 0x80 ∷ 0x80 ∷ 0x10 ∷ [])
    × Turned (0x42 ∷ 0x80 ∷ 0x80 ∷ 0x80 ∷ 0x80 ∷ 0x80 ∷ 1 ∷ []) width (0x80 ∷ 0x80 ∷ 0x80 ∷ 0x80 ∷ 0x80 ∷ 1 ∷ [])
unfolding records_in record_in number
bad_numbers = (refl, refl, refl, refl, refl)

-- A letter that no call has, and one behind a record; *finished* to an operation, *cancelled* to a finish, *committed*
-- and an answer to a cancel, and a code past the last.
pub bad_letters : Turned (0x41 ∷ 0 ∷ []) letter (0x41 ∷ 0 ∷ [])
    × Turned (0x42 ∷ 0 ∷ 0x62 ∷ 0 ∷ []) letter (0x62 ∷ 0 ∷ [])
    × Turned (asked (2 ∷ 0 ∷ [])) groups.code (2 ∷ 0 ∷ [])
    × Turned (finishing (5 ∷ 0 ∷ [])) groups.code (5 ∷ 0 ∷ [])
    × Turned (0x43 ∷ 0 ∷ 3 ∷ 0 ∷ []) groups.code (3 ∷ 0 ∷ [])
    × Turned (0x43 ∷ 0 ∷ 1 ∷ 1 ∷ 0 ∷ []) groups.code (1 ∷ 1 ∷ 0 ∷ [])
    × Turned (0x43 ∷ 0 ∷ 6 ∷ 0 ∷ []) groups.code (6 ∷ 0 ∷ [])
unfolding records_in record_in number
bad_letters = (refl, refl, refl, refl, refl, refl, refl)

-- Owners 3 and 3, 4 and 3, 64; a wait for 65, a list of 65; a batch of 17.
pub bad_lists : Turned (asked (0 ∷ 2 ∷ 3 ∷ 3 ∷ [])) owners (3 ∷ [])
    × Turned (asked (0 ∷ 2 ∷ 4 ∷ 3 ∷ [])) owners (3 ∷ [])
    × Turned (asked (0 ∷ 1 ∷ 64 ∷ [])) owners (64 ∷ [])
    × Turned (asked (0 ∷ 65 ∷ replicate 65 0)) list (65 ∷ replicate 65 0)
    × Turned (finishing (3 ∷ 65 ∷ replicate 65 0)) list (65 ∷ replicate 65 0)
    × Turned (0x47 ∷ 0 ∷ 17 ∷ replicate 68 0) batch (17 ∷ replicate 68 0)
unfolding records_in record_in number
bad_lists = (refl, refl, refl, refl, refl, refl)

-- Cut behind the letter, in a number, before the reply, in a list.
pub cuts : Turned (0x42 ∷ []) cut []
    × Turned (0x42 ∷ 0x80 ∷ []) cut (0x80 ∷ [])
    × Turned (asked []) cut []
    × Turned (finishing (3 ∷ 2 ∷ 0 ∷ [])) cut []
unfolding records_in record_in number
cuts = (refl, refl, refl, refl)

-- ---- Read

abbrev pub ReadAs : List ℕ → Record → Type 0
ReadAs bytes r = records_in bytes ≡ found (r ∷ []) []

abbrev pub zeros : List ℕ
zeros = replicate 5 0

-- A wait for nobody, an answer code above 1, a kind above 255, a *finished* with a list that isn't empty, the largest
-- number, a batch of none.
pub odd_ones : ReadAs (asked (0 ∷ 0 ∷ [])) (recorded (code "I") zeros (wait []))
    × ReadAs (asked (1 ∷ 5 ∷ 0x80 ∷ 1 ∷ [])) (recorded (code "I") zeros (answered (5 ∷ 128 ∷ [])))
    × ReadAs (0x53 ∷ 0x80 ∷ 2 ∷ replicate 15 0) (recorded (code "S") (256 ∷ replicate 15 0) nothing)
    × ReadAs (finishing (2 ∷ 1 ∷ 7 ∷ [])) (recorded (code "F") (0 ∷ []) (ended 2 (7 ∷ [])))
    × ReadAs (0x42 ∷ 0xff ∷ 0xff ∷ 0xff ∷ 0xff ∷ 0x0f ∷ []) (recorded (code "B") (4_294_967_295 ∷ []) nothing)
    × ReadAs (0x47 ∷ 9 ∷ 0 ∷ 1 ∷ []) (recorded (code "G") (9 ∷ []) (answered []))
unfolding records_in record_in number
odd_ones = (refl, refl, refl, refl, refl, refl)

-- A batch of 16 whose numbers are the largest: no record is longer.
pub longest : let n : ℕ = 4_294_967_295 in
    let r : Record = recorded (code "G") (replicate 65 n) (answered (replicate 32 n)) in
    (fits r ≡ true) × (length (bytes_of r) ≡ 488) × (record_in (bytes_of r) ≡ found r [])
unfolding fits bytes_of groups.groups record_in number
longest = (refl, refl, refl)
