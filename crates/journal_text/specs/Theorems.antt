-- What holds of a journal that is printed.
use Rattle.std.specs.Prelude.{ℕ, ◌≡◌, refl, true, List, [], ◌++◌}
use Rattle.std.proofs.Common.{sym, append-nil}
use Rattle.operations.specs.Operations.{All}
use Rattle.journal.specs.Groups.{Cause}
use Rattle.journal.specs.Records.{Record, file, fits}
use Rattle.journal.specs.Reading.{step, end, stopped}
use Rattle.journal_text.specs.Listed.{ReadOff}
use Rattle.journal_text.specs.Laws.Files.{without_end, without_stopped, all_read}

-- Of a file, each of its records is listed in turn.
pub listed_whole : (records read : List Record) (rest : List ℕ) → All (λ (r : Record). fits r ≡ true) records
    → ReadOff (file records) read rest → step rest ≡ end → read ≡ records
listed_whole records read rest fit off e =
    all_read records [] fit (without_end [] refl) (sym (append-nil (file records))) off (without_end rest e)

-- Of a file that is damaged, each that is whole before the damage.
pub listed_before : (records read : List Record) (damaged rest : List ℕ) {cause cause₁ : Cause} {left left₁ : List ℕ}
    → All (λ (r : Record). fits r ≡ true) records → step damaged ≡ stopped cause left
    → ReadOff (file records ++ damaged) read rest → step rest ≡ stopped cause₁ left₁ → read ≡ records
listed_before records read damaged rest fit stops off e =
    all_read records damaged fit (without_stopped damaged stops) refl off (without_stopped rest e)
