-- A record that was read, and what the desk gives for its call: as the code has them.
use Rattle.std.specs.Prelude.{ℕ, suc, ◌+◌, ◌-◌, ◌≤◌, ◌<◌, ◌≡◌, refl, Bool, true, false, ◌↔◌, List, [], ◌∷◌, length}
use Rattle.std.specs.Prelude.{get_or, take, drop, Some, None}
use Rattle.std.proofs.lemmas.Bool.{false≢true}
use Rattle.std.proofs.Common.{sym, ap, ◌∙◌, subst, true≢false, append-nil, arith, eqb-true, length-append, length-drop}
use Rattle.std.proofs.Common.{take_at, get_or-drop}
use Rattle.std.proofs.Math.Option.{Option, none, some}
use Rattle.operations.proofs.Laws.Cases.{split}
use Rattle.arrayvec.specs.ArrayVec.{ArrayVec}
use Rattle.protocol.specs.Replies as protocol
use Rattle.protocol.specs.Call.{Call}
use Rattle.lines.specs.Lines.{asked}
use Rattle.journal.specs.Records as model
use Rattle.journal.specs.Records.{arguments_of, is_batch, arguments_fit, bytes_of, file, fits}
use Rattle.journal.specs.Reading.{next, step}
use Rattle.journal.specs.Journal.{noted, record_of as record_of_call}
use Rattle.journal.specs.Coded.{front, argument_count, record_of}
use Rattle.journal.proofs.Theorems.{one_file}
use Rattle.journal.proofs.Laws.Fronts.{length_front, front_taken}
use Rattle.journal.proofs.Laws.Letters.{few_arguments}
use Rattle.journal.proofs.Laws.ReadBack.{batch_shape, plain_count, fitting}
use Rattle.journal.proofs.Laws.Groups.{Bytes}
use Rattle.journal.proofs.Laws.Accepted.{record_written}
use Rattle.journal.proofs.Laws.Files.{some_bytes}
use Rattle.journal.specs.declared.Record.{Record}
use Rattle.serving.specs.Told.{outcome_of, Served}
use Rattle.serving.specs.declared.Told.{Told}
use Rattle.dispatch.specs.Served.{serving}
use Rattle.dispatch.specs.Replying.{Kept}
use Rattle.resuming.specs.Resuming.{served_again}
use Rattle.resuming.specs.Laws.Parts.{step_found}

-- ---- The call of a record

fit_few : (letter : ℕ) (known : Option ℕ) (arguments : List ℕ) → arguments_of letter ≡ known
    → arguments_fit letter arguments known ≡ true → length arguments ≤ 65
fit_few letter none arguments is fit = absurd (true≢false (sym fit))
fit_few letter (some n) [] is fit = omega arith
fit_few letter (some n) (t ∷ operations) is fit =
    split (is_batch letter)
    (λ (batch : is_batch letter ≡ true).
    let g : letter ≡ 71 = eqb-true letter 71 batch in
    let known : some 1 ≡ some n = rw g at is in
    let one : 1 ≡ n = cc in
    omega (arith, (batch_shape t operations (rw (g, ← one) at fit)).1))
    (λ (plain : is_batch letter ≡ false).
    omega (arith, plain_count letter n (t ∷ operations) plain fit, few_arguments letter n is))

module _ (r : Record) (fit : fits (record_of r) ≡ true) where
  abbrev count : ℕ
  count = argument_count r.letter r.operations

  pub few_asked : count ≤ 65
  few_asked =
      omega (
        arith,
        length_front count r.arguments,
        fit_few r.letter (arguments_of r.letter) (front count r.arguments) refl
            (fitting (record_of r) fit).asked,
      )

  -- So many of the arguments in its array.
  pub asked_for : {n : ℕ} → n ≡ count → length r.arguments ≡ 65 → {call : Option Call}
      → call ≡ asked r.letter (take n r.arguments)
      → call ≡ asked (record_of r).letter (record_of r).arguments
  asked_for {n} is long asks =
      asks ∙ ap (asked r.letter)
      (ap (λ (m : ℕ). take m r.arguments) is ∙ sym (front_taken count r.arguments (omega (arith, few_asked))))

-- ---- The record that it gets

module _ (r : model.Record) (w : List ℕ) where
  abbrev Same : Bool → Type 0
  Same same = (same ≡ true) ↔ ((served_again r w).records ≡ r ∷ [])

  module _ {call : Call} {book : List ℕ} {told : Told} (asks : some call ≡ asked r.letter r.arguments)
      (served : Served call w book told) where
    pub left_again : book ≡ (served_again r w).book
    left_again = ap (λ (s : protocol.Served). s.book) served.done ∙ ap (λ (o : Option Call). (serving o w).book) asks

    abbrev records : List model.Record
    records = noted (record_of_call call (outcome_of told)) []

    records_again : records ≡ (served_again r w).records
    records_again =
        ap (λ (s : protocol.Served). noted (record_of_call call s.outcome) []) served.done
        ∙ ap (λ (o : Option Call). (serving o w).records) asks

    pub none_written : Kept records None → Same false
    none_written kept = (
      λ no. absurd (false≢true no),
      λ it. absurd (
          let bytes : [] ≡ file (r ∷ []) = kept.bytes ∙ ap file (records_again ∙ it) in
          omega (arith, ap length bytes, length-append (bytes_of r) [], some_bytes r)),
    )

    -- The bytes are the same exactly where it is the same record.
    pub confirmed_exactly : fits r ≡ true → {bytes : List ℕ} → bytes ≡ bytes_of r → {written : ArrayVec ℕ}
        → Kept records (Some written) → {same : Bool}
        → (same ≡ true → written.items ≡ bytes) × (written.items ≡ bytes → same ≡ true) → Same same
    confirmed_exactly fit {bytes} are kept said =
        let its-file : file (r ∷ []) ≡ bytes = append-nil (bytes_of r) ∙ sym are in (
          λ yes. sym records_again
              ∙ one_file records (r ∷ []) kept.fit (fit, tt) (sym kept.bytes ∙ said.0 yes ∙ sym its-file),
          λ it. said.1 (kept.bytes ∙ ap file (records_again ∙ it) ∙ its-file),
        )

-- ---- A record that was read

-- It stands at a place, up to another.
pub record Stands (bytes : List ℕ) (at end : ℕ) (r : model.Record) : Type 0 where
  pub read : step (drop at bytes) ≡ next r (drop end bytes)
  pub fit : fits r ≡ true
  pub are : take (end - at) (drop at bytes) ≡ bytes_of r
  pub onward : at < end
  pub within : end ≤ length bytes

-- Bytes are below 256.
all_bytes : (l : List ℕ) → ((i : ℕ) → get_or l i 0 < 256) → Bytes l
all_bytes [] small = tt
all_bytes (b ∷ l) small = (small 0, all_bytes l (λ i. small (suc i)))

pub stands : (bytes : List ℕ) (at : ℕ) {end : ℕ} (r : model.Record)
    → next r (drop end bytes) ≡ step (drop at bytes) → end ≤ length bytes → ((i : ℕ) → get_or bytes i 0 < 256)
    → Stands bytes at end r
stands bytes at {end} r read within small =
    let all : Bytes (drop at bytes) =
    all_bytes (drop at bytes) (λ i. subst (λ (b : ℕ). b < 256) (sym (get_or-drop at bytes i 0)) (small (at + i))) in
    let so = record_written (drop at bytes) all (step_found (drop at bytes) (sym read)) in
    let long : end - at ≡ length (bytes_of r) =
    omega (
      arith,
      ap length so.are,
      length-append (bytes_of r) (drop end bytes),
      length-drop at bytes,
      length-drop end bytes,
      some_bytes r,
    ) in
    record {
      read = sym read;
      fit = so.fit;
      are = ap (take (end - at)) so.are ∙ take_at (bytes_of r) (drop end bytes) (end - at) (sym long);
      onward = omega (arith, some_bytes r, long);
      within = within;
    }
