-- Files of records: read back, read and so written, and cut.
use Rattle.std.specs.Prelude.{ℕ, zero, suc, ◌≤◌, ◌<◌, ◌≡◌, refl, true, ◌⊎◌, List, [], ◌∷◌, ◌++◌, length}
use Rattle.std.proofs.Common.{sym, ap, ◌∙◌, true≢false, inl, inr, ⊎_elim, append-nil, append_assoc, arith}
use Rattle.std.proofs.Common.{length-append}
use Rattle.std.proofs.Math.Option.{Option, none, some}
use Rattle.operations.specs.Operations.{All}
use Rattle.operations.proofs.Laws.Cases.{all_append}
use Rattle.journal.specs.Groups.{groups, grouped, Cause, cut, Read, found, bad}
use Rattle.journal.specs.Records.{arguments_of, arguments_fit, Record, bytes_of, numbers_of, file, fits, written}
use Rattle.journal.specs.Reading.{record_in, next, stopped, step, step_of, continued, records_within, records_in}
use Rattle.journal.proofs.Laws.Found.{Found, of_found, found_then}
use Rattle.journal.proofs.Laws.Groups.{Bytes, groups_bytes}
use Rattle.journal.proofs.Laws.Letters.{letter_byte}
use Rattle.journal.proofs.Laws.ReadBack.{fitting, record_read}
use Rattle.journal.proofs.Laws.Accepted.{RecordRead, record_told}
use Rattle.journal.proofs.Laws.Cuts.{Grown, record_grown}

-- Records that fit.
abbrev pub Fit : List Record → Type 0
Fit records = All (λ (r : Record). fits r ≡ true) records

-- The writer takes what fits.
pub never_none : (r : Record) → fits r ≡ true → written r ≡ none → ⊥
never_none r fit thirteen =
    let so : some (bytes_of r) ≡ none = rw fit at thirteen in
    let z : ◌≡◌ {A = ℕ} 0 1 = cc in
    omega arith

-- ---- Read back

pub step_read : (r : Record) (rest : List ℕ) → fits r ≡ true → step (bytes_of r ++ rest) ≡ next r rest
unfolding bytes_of
step_read r rest fit = ap step_of (record_read r rest fit)

pub some_bytes : (r : Record) → 1 ≤ length (bytes_of r)
unfolding bytes_of
some_bytes r = omega arith

within_read : (k : ℕ) (records : List Record) → length (file records) < k → Fit records
    → records_within k (file records) ≡ found records []
within_read zero records few fit = absurd (omega arith)
within_read (suc k) [] few fit = refl
within_read (suc k) (r ∷ records) few fit =
    let shorter : length (file records) < k =
    omega (arith, some_bytes r, length-append (bytes_of r) (file records)) in
    rw (step_read r (file records) fit.0, within_read k records shorter fit.1)

pub records_read : (records : List Record) → Fit records → records_in (file records) ≡ found records []
unfolding records_in
records_read records fit = within_read (suc (length (file records))) records (omega arith) fit

-- ---- A file is made of bytes

grouped_bytes : (ns : List ℕ) → Bytes (grouped ns)
grouped_bytes [] = tt
grouped_bytes (n ∷ ns) =
    all_append (λ (b : ℕ). b < 256) (groups n) (grouped ns) (groups_bytes n) (grouped_bytes ns)

known_byte : (letter : ℕ) (known : Option ℕ) (arguments : List ℕ) → arguments_of letter ≡ known
    → arguments_fit letter arguments known ≡ true → letter < 256
known_byte letter none arguments is fit = absurd (true≢false (sym fit))
known_byte letter (some n) arguments is fit = letter_byte letter n is

record_bytes : (r : Record) → fits r ≡ true → Bytes (bytes_of r)
unfolding bytes_of
record_bytes r fit = (
  known_byte r.letter (arguments_of r.letter) r.arguments refl (fitting r fit).asked,
  grouped_bytes (numbers_of r),
)

pub file_bytes : (records : List Record) → Fit records → Bytes (file records)
file_bytes [] fit = tt
file_bytes (r ∷ records) fit =
    all_append (λ (b : ℕ). b < 256) (bytes_of r) (file records) (record_bytes r fit.0) (file_bytes records fit.1)

-- ---- Read and so written

pub record FileRead (bytes : List ℕ) (records : List Record) (rest : List ℕ) : Type 0 where
  pub none_left : rest ≡ []
  pub fit : Fit records
  pub are : bytes ≡ file records

continued_written : (bytes : List ℕ) (x : Read Record) (more : List ℕ → Read (List Record))
    → Found (RecordRead bytes) x → ((rest : List ℕ) → Bytes rest → Found (FileRead rest) (more rest))
    → Found (FileRead bytes) (continued (step_of x) more)
continued_written bytes (bad cause left) more so others = tt
continued_written bytes (found r rest) more so others =
    found_then (FileRead rest) (FileRead bytes) (more rest) _ (others rest so.left)
    (λ records left file-read.
    record {
      none_left = file-read.none_left;
      fit = (so.fit, file-read.fit);
      are = so.are ∙ ap (λ (l : List ℕ). bytes_of r ++ l) file-read.are;
    })

within_written : (k : ℕ) (bytes : List ℕ) → Bytes bytes → Found (FileRead bytes) (records_within k bytes)
within_written zero bytes all = tt
within_written (suc k) [] all = record { none_left = refl; fit = tt; are = refl }
within_written (suc k) (b ∷ bytes) all =
    continued_written (b ∷ bytes) (record_in (b ∷ bytes)) (λ rest. records_within k rest) (record_told (b ∷ bytes) all)
    (λ rest left. within_written k rest left)

pub records_written : (bytes : List ℕ) {records : List Record} {rest : List ℕ} → Bytes bytes
    → records_in bytes ≡ found records rest → FileRead bytes records rest
unfolding records_in
records_written bytes all e =
    of_found (FileRead bytes) (within_written (suc (length bytes)) bytes all) e

-- ---- Cut

cut_of : (x after : Read Record) (r : Record) (b : ℕ) (more : List ℕ) → Grown (b ∷ more) x after → after ≡ found r []
    → (rest : List ℕ) × (x ≡ bad cut rest)
cut_of (found s rest) after r b more grown whole =
    let none_left : rest ++ (b ∷ more) ≡ [] = cc in
    absurd (omega (arith, ap length none_left, length-append rest (b ∷ more)))
cut_of (bad cause rest) after r b more (inl e) whole = (rest, ap (λ (c : Cause). bad c rest) e)
cut_of (bad cause rest) after r b more (inr e) whole = absurd (let z : ◌≡◌ {A = ℕ} 0 1 = cc in omega arith)

-- A record that is cut anywhere is told as cut.
pub cut_record : (r : Record) (front : List ℕ) (b : ℕ) (more : List ℕ) → fits r ≡ true
    → bytes_of r ≡ front ++ (b ∷ more) → (rest : List ℕ) × (record_in front ≡ bad cut rest)
cut_record r front b more fit e =
    cut_of (record_in front) (record_in (front ++ (b ∷ more))) r b more (record_grown (b ∷ more) front)
    (ap record_in (sym e ∙ sym (append-nil (bytes_of r))) ∙ record_read r [] fit)

module _ {A : Type 0} where
  -- One list put together in two ways: the first part of one ends inside that of the other.
  two_ways : (xs ys front more : List A) → xs ++ ys ≡ front ++ more
      → ((b : A) × (others : List A) × (xs ≡ front ++ (b ∷ others)))
      ⊎ ((between : List A) × (front ≡ xs ++ between) × (ys ≡ between ++ more))
  two_ways [] ys front more e = inr (front, refl, e)
  two_ways (x ∷ xs) ys [] more e = inl (x, xs, refl)
  two_ways (x ∷ xs) ys (y ∷ front) more e =
      let head : x ≡ y = cc in
      let tail : xs ++ ys ≡ front ++ more = cc in
      ⊎_elim
      (λ (b, others, is). inl (b, others, rw (head, is)))
      (λ (between, is, left). inr (between, rw (head, is), left))
      (two_ways xs ys front more tail)

-- What is left of a file that is cut: whole records, and behind them nothing or a record that is told as cut.
abbrev pub CutAt : List Record → List ℕ → Type 0
CutAt records front =
    (whole : List Record) × (others : List Record) × (part : List ℕ) × (records ≡ whole ++ others)
    × (front ≡ file whole ++ part) × ((part ≡ []) ⊎ ((rest : List ℕ) × (step part ≡ stopped cut rest)))

cut_inside : (r : Record) (records : List Record) (front : List ℕ) (b : ℕ) (others : List ℕ) → fits r ≡ true
    → bytes_of r ≡ front ++ (b ∷ others) → CutAt (r ∷ records) front
cut_inside r records [] b others fit e = ([], r ∷ records, [], refl, refl, inl refl)
cut_inside r records (first ∷ front) b others fit e =
    let (rest, told) = cut_record r (first ∷ front) b others fit e in
    ([], r ∷ records, first ∷ front, refl, refl, inr (rest, ap step_of told))

cut_behind : (r : Record) (records : List Record) (front between : List ℕ) → front ≡ bytes_of r ++ between
    → CutAt records between → CutAt (r ∷ records) front
cut_behind r records front between e (whole, others, part, are, is, told) = (
  r ∷ whole,
  others,
  part,
  ap (λ (l : List Record). r ∷ l) are,
  e ∙ ap (λ (l : List ℕ). bytes_of r ++ l) is ∙ sym (append_assoc (bytes_of r) (file whole) part),
  told,
)

pub cut_file : (records : List Record) (front more : List ℕ) → Fit records → file records ≡ front ++ more
    → CutAt records front
cut_file [] [] more fit e = ([], [], [], refl, refl, inl refl)
cut_file [] (b ∷ front) more fit e = absurd (omega (arith, ap length e))
cut_file (r ∷ records) front more fit e =
    ⊎_elim (λ (b, others, is). cut_inside r records front b others fit.0 is)
    (λ (between, is, left). cut_behind r records front between is (cut_file records between more fit.1 left))
    (two_ways (bytes_of r) (file records) front more e)
