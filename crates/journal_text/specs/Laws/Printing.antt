-- Records read one by one, and their lines put one after the other.
use Rattle.std.specs.Prelude.{Option, Some, Result, Ok}
use Rattle.std.specs.Prelude.{ℕ, ◌+◌, ◌≤◌, ◌<◌, ◌≡◌, true, List, [], ◌∷◌, ◌++◌, length, get_or, drop}
use Rattle.std.proofs.Common.{arith, sym, ap, subst, ◌∙◌, append_assoc, append-nil, length-append, length-drop}
use Rattle.std.proofs.Common.{get_or-drop}
use Rattle.store.proofs.Laws.Lists.{tabulate_get_d, all_of}
use Rattle.text.specs.Fields.{Put}
use Rattle.text.proofs.Laws.Putting.{nothing, then, length_put}
use Rattle.text.proofs.Laws.Tests.{left}
use Rattle.journal.specs.Groups.{Read, found, bad, narrow}
use Rattle.journal.specs.Records.{Record, numbers_of, bytes_of, shaped, fits}
use Rattle.journal.specs.Reading.{next, step_of, step, record_in}
use Rattle.journal.specs.Coded.{record_of}
use Rattle.journal.proofs.Laws.Groups.{Bytes}
use Rattle.journal.proofs.Laws.Accepted.{RecordRead, record_written}
use Rattle.journal.proofs.Laws.Files.{some_bytes}
use Rattle.journal.specs.declared.Record.{Record as Content}
use Rattle.journal.specs.declared.Damage.{Damage}
use Rattle.journal_reader.specs.Said.{reading_said, place_of}
use Rattle.listing.specs.Listing.{record_line, most_line}
use Rattle.journal_text.specs.Listed.{ReadOff, here, more, lines_of}

-- ---- Lines of records

lines_more : (records : List Record) (r : Record) → lines_of records ++ record_line r ≡ lines_of (records ++ (r ∷ []))
lines_more [] r = sym (append-nil (record_line r))
lines_more (first ∷ records) r =
    append_assoc (record_line first) (lines_of records) (record_line r)
    ∙ ap (λ (l : List ℕ). record_line first ++ l) (lines_more records r)

-- How far a journal was printed.
pub record Printed (bytes out : List ℕ) (at : ℕ) (printed : List ℕ) (written : ℕ) : Type 0 where
  pub records : List Record
  pub read : ReadOff bytes records (drop at bytes)
  pub within : at ≤ length bytes
  pub put : Put out 0 (lines_of records) printed written
  pub fits : written ≤ length out

pub printing_starts : (bytes out : List ℕ) → Printed bytes out 0 out 0
printing_starts bytes out =
    record {
      records = [];
      read = here;
      within = omega arith;
      put = nothing out 0;
      fits = omega arith;
    }

-- ---- What a reading says, where its place is known

found_of : (x : Read Record) {r : Record} {rest : List ℕ} → step_of x ≡ next r rest → x ≡ found r rest
found_of (found s left) e = cc
found_of (bad cause left) e = absurd (let z : ◌≡◌ {A = ℕ} 0 1 = cc in omega arith)

record_of_lem : (bytes : List ℕ) {r : Record} {rest : List ℕ} → step bytes ≡ next r rest → record_in bytes
    ≡ found r rest
record_of_lem [] e = absurd (let z : ◌≡◌ {A = ℕ} 0 1 = cc in omega arith)
record_of_lem (b ∷ bytes) e = found_of (record_in (b ∷ bytes)) e

-- Numbers below 256 at each place are bytes, from any place on.
bytes_from : (bytes : List ℕ) (at : ℕ) → ((i : ℕ) → get_or bytes i 0 < 256) → Bytes (drop at bytes)
bytes_from bytes at small =
    let part = drop at bytes in
    subst Bytes (tabulate_get_d part 0)
    (all_of (λ b. b < 256) (length part) (λ i. get_or part i 0)
    (λ i l. subst (λ b. b < 256) (sym (get_or-drop at bytes i 0)) (small (at + i))))

-- A record that stands at a place of a journal, up to another.
pub record Stood (bytes : List ℕ) (at : ℕ) (r : Record) (behind : ℕ) : Type 0 where
  pub read : step (drop at bytes) ≡ next r (drop behind bytes)
  pub fit : shaped r ≡ true
  pub onward : at < behind
  pub within : behind ≤ length bytes

-- What is read of bytes was written, and so has a shape and takes a byte at least.
stood : (bytes : List ℕ) (at behind : ℕ) (r : Record) → ((i : ℕ) → get_or bytes i 0 < 256)
    → step (drop at bytes) ≡ next r (drop behind bytes) → behind ≤ length bytes → Stood bytes at r behind
unfolding fits
stood bytes at behind r small e within =
    let so : RecordRead (drop at bytes) r (drop behind bytes) =
    record_written (drop at bytes) (bytes_from bytes at small) (record_of_lem (drop at bytes) e) in
    record {
      read = e;
      fit = left (shaped r) (narrow (numbers_of r)) so.fit;
      onward =
          omega (
            arith,
            ap length so.are,
            length-append (bytes_of r) (drop behind bytes),
            some_bytes r,
            length-drop at bytes,
            length-drop behind bytes,
          );
      within = within;
    }

-- Where the reader has read a record.
pub record_stands : (bytes : List ℕ) (at : ℕ) (told : Content × ℕ) (reading : Result (Option (Content × ℕ)) Damage)
    → reading_said bytes reading ≡ step (drop at bytes) → place_of reading ≤ length bytes
    → ((i : ℕ) → get_or bytes i 0 < 256) → reading ≡ Ok (Some told)
    → Stood bytes at (record_of told.0) told.1
record_stands bytes at told reading said within small e =
    stood bytes at told.1 (record_of told.0) small (sym said ∙ ap (reading_said bytes) e)
    (subst (λ r. place_of r ≤ length bytes) e within)

-- ---- Turns

module _ {bytes out : List ℕ} {at : ℕ} {printed : List ℕ} {written : ℕ} (so : Printed bytes out at printed written)
  where
    pub kept : length printed ≡ length out
    kept =
        ap length so.put.buffer
        ∙ length_put out 0 (lines_of so.records) (omega (arith, so.put.behind, so.fits))

    pub printing_goes_on : {r : Record} {behind : ℕ} {line after : List ℕ} {written₁ : ℕ} → Stood bytes at r behind
        → written + most_line ≤ length printed → line ≡ record_line r → length line ≤ most_line
        → Put printed written line after written₁
        → Printed bytes out behind after written₁
    printing_goes_on {r} {line = line} {after = after} {written₁ = written₁} stands room its few put =
        record {
          records = so.records ++ (r ∷ []);
          read = more so.read stands.read;
          within = stands.within;
          put =
              subst (λ (text : List ℕ). Put out 0 text after written₁)
              (ap (λ (l : List ℕ). lines_of so.records ++ l) its ∙ lines_more so.records r)
              (then so.put (omega (arith, so.put.behind, so.fits)) put);
          fits = omega (arith, kept, put.behind);
        }
