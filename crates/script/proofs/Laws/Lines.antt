-- Lines served: their replies read again as lines; one list of them after another; their records.
use Rattle.std.specs.Prelude.{ℕ, suc, ◌≡◌, refl, List, [], ◌∷◌, ◌++◌, length}
use Prim.Native.Char.{code}
use Rattle.std.proofs.Common.{sym, ap, ◌∙◌, append_assoc}
use Rattle.std.proofs.Math.Option.{Option, none, some}
use Rattle.operations.specs.Operations.{All}
use Rattle.protocol.specs.Call.{Call, desk}
use Rattle.text.specs.Text.{ascii, split}
use Rattle.text.proofs.Laws.Lines.{Without, without_computed, some_piece, split_ended}
use Rattle.lines.specs.Lines.{call_in}
use Rattle.replies.proofs.Laws.OneLine.{printed_without}
use Rattle.journal.specs.Records.{Record, bytes_of, file}
use Rattle.journal.specs.Journal.{record_of, noted, journal}
use Rattle.dispatch.specs.Served.{LineServed, serving, line_served}
use Rattle.script.specs.Script.{without_empty_last, lines_in, served_lines, texts, records, as_lines}
use Rattle.script.specs.Script.{or_passed, calls_in}
use Rattle.script.proofs.Laws.Reading.{line_kept_lem}

ended_lines_lem : (texts : List (List ℕ)) → All (Without (code "\n")) texts → lines_in (as_lines texts) ≡ texts
ended_lines_lem [] free = refl
ended_lines_lem (text ∷ texts) free =
    ap without_empty_last (split_ended (code "\n") text (as_lines texts) free.0)
    ∙ line_kept_lem text (split (code "\n") (as_lines texts)) (some_piece (code "\n") (as_lines texts))
    ∙ ap (λ (lines : List (List ℕ)). text ∷ lines) (ended_lines_lem texts free.1)

serving_without : (call : Option Call) (w : List ℕ) → Without (code "\n") (serving call w).text
serving_without none w = without_computed (code "\n") (ascii "unread") refl
serving_without (some call) w = printed_without (desk call w).outcome.reply (desk call w).outcome.list

texts_without : (w : List ℕ) (lines : List (List ℕ)) → All (Without (code "\n")) (texts (served_lines w lines))
unfolding line_served
texts_without w [] = tt
texts_without w (line ∷ lines) = (serving_without (call_in line) w, texts_without (line_served w line).book lines)

-- Replies printed are read as lines again.
pub replies_read : (w : List ℕ) (lines : List (List ℕ))
    → lines_in (as_lines (texts (served_lines w lines))) ≡ texts (served_lines w lines)
replies_read w lines = ended_lines_lem (texts (served_lines w lines)) (texts_without w lines)

pub length_replies : (w : List ℕ) (lines : List (List ℕ)) → length (texts (served_lines w lines)) ≡ length lines
length_replies w [] = refl
length_replies w (line ∷ lines) = ap suc (length_replies (line_served w line).book lines)

-- ---- Lines after lines

pub texts_append : (xs ys : List LineServed) → as_lines (texts (xs ++ ys)) ≡ as_lines (texts xs) ++ as_lines (texts ys)
texts_append [] ys = refl
texts_append (a ∷ xs) ys =
    ap (λ (l : List ℕ). a.text ++ (code "\n" ∷ l)) (texts_append xs ys)
    ∙ sym (append_assoc a.text (code "\n" ∷ as_lines (texts xs)) (as_lines (texts ys)))

pub records_append : (xs ys : List LineServed) → records (xs ++ ys) ≡ records xs ++ records ys
records_append [] ys = refl
records_append (a ∷ xs) ys =
    ap (λ (l : List Record). a.records ++ l) (records_append xs ys)
    ∙ sym (append_assoc a.records (records xs) (records ys))

pub file_append : (xs ys : List Record) → file (xs ++ ys) ≡ file xs ++ file ys
file_append [] ys = refl
file_append (r ∷ xs) ys =
    ap (λ (l : List ℕ). bytes_of r ++ l) (file_append xs ys) ∙ sym (append_assoc (bytes_of r) (file xs) (file ys))

-- ---- The journal

noted_append : (r : Option Record) (rs : List Record) → noted r [] ++ rs ≡ noted r rs
noted_append none rs = refl
noted_append (some r) rs = refl

by_call : (w : List ℕ) (lines : List (List ℕ)) (call : Option Call)
    → ((b : List ℕ) → records (served_lines b lines) ≡ journal b (calls_in lines))
    → (serving call w).records ++ records (served_lines (serving call w).book lines)
    ≡ journal w (or_passed call (calls_in lines))
by_call w lines none others = others w
by_call w lines (some call) others =
    noted_append (record_of call (desk call w).outcome) _
    ∙ ap (noted (record_of call (desk call w).outcome)) (others (desk call w).book)

-- What is recorded for lines is the journal of the calls that they ask for.
pub records_journal : (lines : List (List ℕ)) (w : List ℕ) → records (served_lines w lines) ≡ journal w (calls_in lines)
unfolding line_served
records_journal [] w = refl
records_journal (line ∷ lines) w = by_call w lines (call_in line) (records_journal lines)
