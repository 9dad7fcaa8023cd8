-- Records counted one by one: those that were read, and those that are left, are all.
use Rattle.std.specs.Prelude.{ℕ, suc, ◌+◌, ◌-◌, ◌≤◌, ◌<◌, ◌≡◌, refl, List, [], ◌∷◌, length, drop}
use Rattle.std.proofs.Common.{arith, sym, ap, ◌∙◌, drop_of_length-le}
use Rattle.journal.specs.Groups.{Read, found, bad, then}
use Rattle.journal.specs.Records.{Record}
use Rattle.journal.specs.Reading.{record_in, step_of, continued, records_within, records_in}
use Rattle.journal.specs.Coded.{cause_of}
use Rattle.journal.specs.declared.Damage.{Damage}
use Rattle.journal_numbers.specs.Parts.{Finds, Fails}
use Rattle.journal_reader.specs.Said.{count_of}
use Rattle.journal_reader.specs.Laws.Records.{step_record}

-- So many more.
abbrev more : ℕ → Read ℕ → Read ℕ
more k (found n rest) = found (k + n) rest
more k (bad cause rest) = bad cause rest

more_none : (read : Read ℕ) → more 0 read ≡ read
more_none (found n rest) = ap (λ m. found m rest) (omega arith)
more_none (bad cause rest) = refl

one_more : (k : ℕ) (r : Record) (read : Read (List Record))
    → more k (count_of (then read (λ records left. found (r ∷ records) left))) ≡ more (k + 1) (count_of read)
one_more k r (found records rest) = ap (λ m. found m rest) (omega arith)
one_more k r (bad cause rest) = refl

-- How far records were counted. Each takes a byte at least.
pub record Counting (bytes : List ℕ) (count at : ℕ) : Type 0 where
  pub few : count ≤ at
  pub within : at ≤ length bytes
  pub whole : more count (count_of (records_within (length bytes + 1 - count) (drop at bytes)))
      ≡ count_of (records_in bytes)

pub counting_starts : (bytes : List ℕ) → Counting bytes 0 0
unfolding records_in
counting_starts bytes =
    let all : length bytes + 1 - 0 ≡ suc (length bytes) = omega arith in
    record {
      few = omega arith;
      within = omega arith;
      whole = rw all (more_none (count_of (records_within (suc (length bytes)) bytes)));
    }

-- Where a record was read.
module _ {bytes : List ℕ} {count at : ℕ} (c : Counting bytes count at) (inside : at < length bytes) where
  from_record : (x : Read Record) → x ≡ record_in (drop at bytes)
      → more count (count_of (continued (step_of x) (λ rest. records_within (length bytes + 1 - (count + 1)) rest)))
      ≡ count_of (records_in bytes)
  from_record x e =
      let left : length bytes + 1 - count ≡ suc (length bytes + 1 - (count + 1)) = omega (arith, c.few, c.within) in
      ap (λ y. more count (count_of (continued y (λ rest. records_within (length bytes + 1 - (count + 1)) rest))))
      (ap step_of e ∙ step_record bytes at inside)
      ∙ rw left at c.whole

  pub counting_goes_on : {r : Record} {end : ℕ} → at < end → Finds bytes at (record_in (drop at bytes)) r end
      → Counting bytes (count + 1) end
  counting_goes_on {r} {end} onward finds =
      record {
        few = omega (arith, c.few);
        within = finds.within;
        whole =
            sym (one_more count _ (records_within (length bytes + 1 - (count + 1)) (drop end bytes)))
            ∙ from_record _ finds.said;
      }

  pub counting_stops : {d : Damage} → Fails bytes at (record_in (drop at bytes)) d
      → bad (cause_of d.cause) (drop d.place bytes) ≡ count_of (records_in bytes)
  counting_stops fails = from_record _ fails.said

pub counting_ends : {bytes : List ℕ} {count at : ℕ} → Counting bytes count at → length bytes ≤ at
    → found count [] ≡ count_of (records_in bytes)
counting_ends {bytes} {count} {at} c past =
    let left : length bytes + 1 - count ≡ suc (length bytes - count) = omega (arith, c.few, c.within) in
    ap (λ n. found n []) (omega arith) ∙ rw (left, drop_of_length-le bytes past) at c.whole
