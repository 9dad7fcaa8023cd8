-- Calls one after the other, and the records of a beginning of them.
use Rattle.std.specs.Prelude.{ℕ, ◌≤◌, ◌<◌, ◌≡◌, refl, true, List, [], ◌∷◌, ◌++◌, length, drop, Some, Ok}
use Rattle.std.proofs.Common.{sym, ap, ◌∙◌, subst, append_assoc, arith}
use Rattle.std.proofs.Math.Option.{Option, none, some}
use Rattle.protocol.specs.Call.{Call, desk}
use Rattle.history.specs.History.{book_after}
use Rattle.journal.specs.Records.{Record, bytes_of, file, fits}
use Rattle.journal.specs.Journal.{record_of, noted, journal}
use Rattle.journal.proofs.Laws.Files.{Fit, step_read}
use Rattle.resuming.specs.Resuming.{Confirmed, Replayed, here, more, Found}
use Rattle.resuming.specs.Laws.Again.{again, unrecorded_kept}

-- One replay behind the other.
pub behind : {w bytes w₁ bytes₁ w₂ bytes₂ : List ℕ} → Replayed w bytes w₁ bytes₁ → Replayed w₁ bytes₁ w₂ bytes₂
    → Replayed w bytes w₂ bytes₂
behind first here = first
behind first (more others last) = more (behind first others) last

-- ---- Written and replayed

-- The record of a call that was served on a book, before more bytes.
module _ (call : Call) (w : List ℕ) (r : Record) (its : record_of call (desk call w).outcome ≡ some r)
    (fit : fits r ≡ true) (rest : List ℕ) where
  confirmed : Confirmed w (bytes_of r ++ rest) (desk call w).book rest
  confirmed =
      let so = again call w r its in
      record { first = r; read = step_read r rest fit; same = so.records; left = sym so.book }

-- A call before others: it has a record, or leaves the book as it was.
module _ (calls : List Call) (others : List ℕ) where
  abbrev Leads : List ℕ → List ℕ → List Record → Type 0
  Leads w book records = Fit records → Replayed w (file records ++ others) book others

  one_more : (call : Call) (w : List ℕ) (its : Option Record) → record_of call (desk call w).outcome ≡ its
      → Leads (desk call w).book (book_after desk calls (desk call w).book) (journal (desk call w).book calls)
      → Leads w (book_after desk calls (desk call w).book) (noted its (journal (desk call w).book calls))
  one_more call w none its so fit =
      subst (λ (b : List ℕ). Replayed b (file (journal (desk call w).book calls) ++ others)
      (book_after desk calls (desk call w).book) others) (unrecorded_kept call w its) (so fit)
  one_more call w (some r) its so fit =
      let records = journal (desk call w).book calls in
      subst (λ (bytes : List ℕ). Replayed w bytes (book_after desk calls (desk call w).book) others)
      (sym (append_assoc (bytes_of r) (file records) others))
      (behind (more here (confirmed call w r its fit.0 (file records ++ others))) (so fit.1))

pub replayed : (calls : List Call) (w others : List ℕ) → Fit (journal w calls)
    → Replayed w (file (journal w calls) ++ others) (book_after desk calls w) others
replayed [] w others fit = here
replayed (call ∷ calls) w others fit =
    one_more calls others call w (record_of call (desk call w).outcome) refl
    (replayed calls (desk call w).book others) fit

-- ---- The calls of the first records

-- Calls whose records are these, before the rest of all calls.
pub record Beginning (w : List ℕ) (calls : List Call) (whole : List Record) : Type 0 where
  pub done : List Call
  pub left : List Call
  pub all : done ++ left ≡ calls
  pub theirs : journal w done ≡ whole

none_of : (w : List ℕ) (calls : List Call) → Beginning w calls []
none_of w calls = record { done = []; left = calls; all = refl; theirs = refl }

none_before : (w : List ℕ) (whole others : List Record) → [] ≡ whole ++ others → Beginning w [] whole
none_before w [] others e = none_of w []
none_before w (r ∷ whole) others e = absurd (omega (arith, ap length e))

module _ (call : Call) (calls : List Call) (w : List ℕ) where
  abbrev after : List ℕ
  after = (desk call w).book

  abbrev its : Option Record
  its = record_of call (desk call w).outcome

  also : {whole : List Record} → Beginning after calls whole → Beginning w (call ∷ calls) (noted its whole)
  also b =
      record {
        done = call ∷ b.done;
        left = b.left;
        all = ap (λ (l : List Call). call ∷ l) b.all;
        theirs = ap (noted its) b.theirs;
      }

  one_before : (whole others : List Record)
      → ((first : List Record) → journal after calls ≡ first ++ others → Beginning after calls first)
      → (o : Option Record) → its ≡ o → noted o (journal after calls) ≡ whole ++ others
      → Beginning w (call ∷ calls) whole
  one_before [] others further o is e = none_of w (call ∷ calls)
  one_before (r ∷ whole) others further none is e =
      subst (λ (o : Option Record). Beginning w (call ∷ calls) (noted o (r ∷ whole))) is (also (further (r ∷ whole) e))
  one_before (r ∷ whole) others further (some s) is e =
      let head : s ≡ r = cc in
      let tail : journal after calls ≡ whole ++ others = cc in
      subst (λ (o : Option Record). Beginning w (call ∷ calls) (noted o whole)) (is ∙ ap some head)
      (also (further whole tail))

pub beginning : (calls : List Call) (w : List ℕ) (whole others : List Record) → journal w calls ≡ whole ++ others
    → Beginning w calls whole
beginning [] w whole others e = none_before w whole others e
beginning (call ∷ calls) w whole others e =
    one_before call calls w whole others (λ first. beginning calls (desk call w).book first others)
    (record_of call (desk call w).outcome) refl e

-- ---- A turn of the loop

pub goes_on : {start bytes : List ℕ} (at : ℕ) {w : List ℕ} → Replayed start bytes w (drop at bytes) → (book : List ℕ)
    {place : ℕ} → Found w bytes at book (Ok (Some place))
    → Replayed start bytes book (drop place bytes) × (at < place) × (place ≤ length bytes)
goes_on at so book (confirms, onward, within) = (more so confirms, onward, within)
