-- What is read of a file, one record after the other: its records in turn.
use Rattle.std.specs.Prelude.{ℕ, ◌≡◌, refl, true, List, [], ◌∷◌, ◌++◌}
use Rattle.std.proofs.Common.{arith, sym, ap, subst, ◌∙◌, append_assoc, append-nil}
use Rattle.operations.proofs.Laws.Cases.{all_parts}
use Rattle.journal.specs.Groups.{Cause}
use Rattle.journal.specs.Records.{Record, bytes_of, file, fits}
use Rattle.journal.specs.Reading.{next, end, stopped, step}
use Rattle.journal.proofs.Laws.Files.{Fit, step_read}
use Rattle.journal_text.specs.Listed.{ReadOff, here, more}

-- No record begins the bytes.
abbrev pub Without : List ℕ → Type 0
Without bytes = (r : Record) (rest : List ℕ) → step bytes ≡ next r rest → ⊥

pub without_end : (bytes : List ℕ) → step bytes ≡ end → Without bytes
without_end bytes e r rest n =
    let both : next r rest ≡ end = sym n ∙ e in
    let z : ◌≡◌ {A = ℕ} 0 1 = cc in
    omega arith

pub without_stopped : (bytes : List ℕ) {cause : Cause} {left : List ℕ} → step bytes ≡ stopped cause left
    → Without bytes
without_stopped bytes {cause} {left} e r rest n =
    let both : next r rest ≡ stopped cause left = sym n ∙ e in
    let z : ◌≡◌ {A = ℕ} 0 1 = cc in
    omega arith

module _ (records : List Record) (part : List ℕ) (fit : Fit records) (without : Without part) where
  -- Records that are still to be read of a file with other bytes behind it.
  record Left (read : List Record) (rest : List ℕ) : Type 0 where
    others : List Record
    all : read ++ others ≡ records
    are : rest ≡ file others ++ part

  first_read : (r : Record) (others read : List Record) {rest : List ℕ} → read ++ (r ∷ others) ≡ records
      → rest ≡ file (r ∷ others) ++ part → step rest ≡ next r (file others ++ part)
  first_read r others read all are =
      let fits_all = all_parts (λ s. fits s ≡ true) read (r ∷ others) (subst Fit (sym all) fit) in
      ap step (are ∙ append_assoc (bytes_of r) (file others) part) ∙ step_read r (file others ++ part) fits_all.1.0

  one_more : (others read : List Record) {rest left : List ℕ} {r : Record} → read ++ others ≡ records
      → rest ≡ file others ++ part → step rest ≡ next r left → Left (read ++ (r ∷ [])) left
  one_more [] read {left = left} {r = r} all are e = absurd (without r left (ap step (sym are) ∙ e))
  one_more (s ∷ others) read {left = left} {r = r} all are e =
      let same : next s (file others ++ part) ≡ next r left = sym (first_read s others read all are) ∙ e in
      let first : s ≡ r = cc in
      let further : file others ++ part ≡ left = cc in
      record {
        others = others;
        all = append_assoc read (r ∷ []) others ∙ ap (λ x. read ++ (x ∷ others)) (sym first) ∙ all;
        are = sym further;
      }

  so_far : {bytes rest : List ℕ} {read : List Record} → bytes ≡ file records ++ part → ReadOff bytes read rest
      → Left read rest
  so_far e here = record { others = records; all = refl; are = e }
  so_far e (more {records = read} off next-is) =
      let before = so_far e off in one_more before.others read before.all before.are next-is

  none_left : (others read : List Record) {rest : List ℕ} → read ++ others ≡ records
      → rest ≡ file others ++ part → Without rest → read ≡ records
  none_left [] read all are ends = sym (append-nil read) ∙ all
  none_left (r ∷ others) read all are ends =
      absurd (ends r (file others ++ part) (first_read r others read all are))

  pub all_read : {bytes rest : List ℕ} {read : List Record} → bytes ≡ file records ++ part → ReadOff bytes read rest
      → Without rest → read ≡ records
  all_read {read = read} e off ends =
      let last = so_far e off in none_left last.others read last.all last.are ends
