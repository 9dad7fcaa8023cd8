-- A desk that was switched off, or killed, opens where it stood: it serves the calls of its journal again.
use Rattle.std.specs.Prelude.{ℕ, ◌≡◌, refl, true, ◌⊎◌, List, [], ◌++◌, drop, Result, Ok, Err}
use Rattle.std.proofs.Common.{sym, ap, ◌∙◌, subst, inl, inr, ⊎_elim, append-nil}
use Rattle.operations.specs.Operations.{All}
use Rattle.operations.proofs.Laws.Cases.{all_parts}
use Rattle.protocol.specs.Call.{Call, desk}
use Rattle.history.specs.History.{book_after}
use Rattle.journal.specs.Groups.{cut}
use Rattle.journal.specs.Records.{Record, file, fits}
use Rattle.journal.specs.Reading.{step, stopped}
use Rattle.journal.specs.Journal.{journal}
use Rattle.journal.proofs.Theorems.{cut_anywhere}
use Rattle.journal.specs.declared.Cause.TheVariants.{Cut}
use Rattle.resuming.specs.Resuming.{Replayed, Ended}
use Rattle.resuming.specs.Laws.Chains.{behind, replayed, Beginning, beginning}
use Rattle.resuming.specs.Laws.Parts.{replayed_grown}
use Rattle.resuming.specs.Laws.Once.{Stops, end_stops, bad_stops, found_so, found_end, found_cut}
use Rattle.resuming.specs.declared.Stop.{Stop}
use Rattle.resuming.specs.declared.Stop.TheVariants.{Damaged}

-- Switched off: from the book that calls were first served on, their journal leads back to the book that they left.
-- Each record is confirmed on the way, whatever list its call was lent, and what stands behind the last is left.
pub resumes : (calls : List Call) (w more : List ℕ) → All (λ (r : Record). fits r ≡ true) (journal w calls)
    → Replayed w (file (journal w calls) ++ more) (book_after desk calls w) more
resumes = replayed

-- Killed: a journal that is cut anywhere leads to the book that a beginning of the calls left, those with all records
-- that are whole; behind these stands nothing, or a record that is told as cut.
pub resumes_cut : (calls : List Call) (w front more : List ℕ) → All (λ (r : Record). fits r ≡ true) (journal w calls)
    → file (journal w calls) ≡ front ++ more
    → (done : List Call) × (left : List Call) × (part : List ℕ) × (done ++ left ≡ calls)
    × (front ≡ file (journal w done) ++ part)
    × Replayed w front (book_after desk done w) part
    × ((part ≡ []) ⊎ ((rest : List ℕ) × (step part ≡ stopped cut rest)))
resumes_cut calls w front more fit e =
    let (whole, others, part, are, is, told) = cut_anywhere (journal w calls) front more fit e in
    let b : Beginning w calls whole = beginning calls w whole others are in
    let Fits : Record → Type 0 = λ r. fits r ≡ true in
    let fit-done : All Fits (journal w b.done) =
    subst (All Fits) (sym b.theirs) (all_parts Fits whole others (subst (All Fits) are fit)).0 in
    let before : front ≡ file (journal w b.done) ++ part =
    is ∙ ap (λ (records : List Record). file records ++ part) (sym b.theirs) in (
      b.done,
      b.left,
      part,
      b.all,
      before,
      subst (λ (bytes : List ℕ). Replayed w bytes (book_after desk b.done w) part) (sym before)
          (replayed b.done w part fit-done),
      told,
    )

-- What `replay` finds. On a whole journal: the end, and the book that the calls left.
pub opens : (calls : List Call) (w : List ℕ) → All (λ (r : Record). fits r ≡ true) (journal w calls)
    → (at : ℕ) (book : List ℕ) (found : Result (Unit {0}) Stop) → Ended w (file (journal w calls)) at book found
    → (found ≡ Ok tt) × (book ≡ book_after desk calls w)
opens calls w fit at book found so =
    let all : Replayed w (file (journal w calls)) (book_after desk calls w) [] =
    subst (λ (bytes : List ℕ). Replayed w bytes (book_after desk calls w) []) (append-nil (file (journal w calls)))
    (replayed calls w [] fit) in
    let stops : Stops [] = end_stops [] refl in
    (found_end all stops at book found so refl, (found_so all stops at book found so).0)

-- On one that is cut anywhere: the end, or a record that is cut, behind all that are whole; never other damage, nor a
-- record that differs. The book is the one that the calls of the whole records left.
pub opens_cut : (calls : List Call) (w front more : List ℕ) → All (λ (r : Record). fits r ≡ true) (journal w calls)
    → file (journal w calls) ≡ front ++ more
    → (at : ℕ) (book : List ℕ) (found : Result (Unit {0}) Stop) → Ended w front at book found
    → (done : List Call) × (left : List Call) × (done ++ left ≡ calls) × (book ≡ book_after desk done w)
    × (front ≡ file (journal w done) ++ drop at front)
    × ((found ≡ Ok tt) ⊎ ((place : ℕ) × (found ≡ Err (Damaged (record { cause = Cut; place = place })))))
opens_cut calls w front more fit e at book found so =
    let (done, left, part, both, before, all, told) = resumes_cut calls w front more fit e in
    let stops : Stops part =
    ⊎_elim (λ none. end_stops part (ap step none)) (λ (rest, cut-there). bad_stops part cut-there) told in
    let (same, place) = found_so all stops at book found so in (
      done,
      left,
      both,
      same,
      before ∙ ap (λ (l : List ℕ). file (journal w done) ++ l) (sym place),
      ⊎_elim (λ none. inl (found_end all stops at book found so (ap step none)))
          (λ (rest, cut-there). inr (found_cut all stops at book found so cut-there)) told,
    )

-- A journal may be read in parts: what is left of one part is put before the next.
pub in_parts : (w part book rest more last left : List ℕ) → Replayed w part book rest
    → Replayed book (rest ++ more) last left
    → Replayed w (part ++ more) last left
in_parts w part book rest more last left first second = behind (replayed_grown more first) second
