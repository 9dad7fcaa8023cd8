-- A record read: a letter, its arguments and the reply; and a step of the reader.
use Rattle.std.specs.Prelude.{ℕ, ◌+◌, ◌≤◌, ◌<◌, ◌≡◌, refl, List, ◌∷◌, length, get_or, drop}
use Rattle.std.proofs.Common.{le_refl, sym, ap, ap₂, ◌∙◌, drop_of_length-le}
use Rattle.journal.specs.Groups.{Read, found, then}
use Rattle.journal.specs.Records.{Record, Reply, arguments_of, operations_of, recorded}
use Rattle.journal.specs.Reading.{arguments_in, reply_in, record_in, step_of, step, next, stopped, end as atEnd}
use Rattle.journal.specs.Coded.{front, argument_count, reply_of, record_of, cause_of}
use Rattle.journal.specs.declared.Record.{Record as Code}
use Rattle.journal.specs.declared.Damage.{Damage}
use Rattle.journal_numbers.specs.Parts.{Finds, Fails}
use Rattle.journal_numbers.specs.Laws.Numbers.{at_byte}
use Rattle.journal_numbers.specs.Laws.Reads.{goes_on, stops, stops_behind}
use Rattle.journal_reader.specs.Parts.{SameCall}

-- The reply that stands behind arguments, and the record.
abbrev from_arguments : ℕ → List ℕ → List ℕ → Read Record
from_arguments letter arguments rest =
    then (reply_in letter (operations_of letter arguments) rest)
    (λ reply left. found (recorded letter arguments reply) left)

module _ (bytes : List ℕ) (at letter : ℕ) (inside : at < length bytes) (is : letter ≡ get_or bytes at 0) where
  abbrev Arguments : Read (List ℕ)
  Arguments = arguments_in letter (arguments_of letter) (drop (at + 1) bytes)

  from_letter : then Arguments (from_arguments letter) ≡ record_in (drop at bytes)
  unfolding record_in
  from_letter = ap (λ b. record_in (b ∷ drop (at + 1) bytes)) is ∙ ap record_in (sym (at_byte bytes at inside))

  pub bad_arguments : {d : Damage} → Fails bytes at Arguments d → Fails bytes at (record_in (drop at bytes)) d
  bad_arguments fails =
      let whole = stops (from_arguments letter) fails in
      record { said = whole.said ∙ from_letter; onward = whole.onward; within = whole.within }

  -- The record with its arguments, then with its reply.
  module _ (call whole : Code) {behind : ℕ} (same_letter : call.letter ≡ letter) (kept : SameCall call whole)
      (read : Finds bytes at Arguments (record_of call).arguments behind)
      (so : call.operations ≡ operations_of letter (record_of call).arguments) where
    abbrev arguments : List ℕ
    arguments = (record_of call).arguments

    abbrev Reply_in : Read Reply
    Reply_in = reply_in call.letter call.operations (drop behind bytes)

    same : then Reply_in (λ reply left. found (recorded letter arguments reply) left)
        ≡ from_arguments letter arguments (drop behind bytes)
    same =
        ap₂
        (λ l o.
        then (reply_in l o (drop behind bytes)) (λ reply left. found (recorded letter arguments reply) left))
        same_letter so

    taken : (record_of whole).arguments ≡ arguments
    taken =
        ap₂ (λ l o. front (argument_count l o) whole.arguments) kept.0 kept.1
        ∙ ap (front (argument_count call.letter call.operations)) kept.2

    value : record_of whole ≡ recorded letter arguments (reply_of whole)
    value = ap₂ (λ l a. recorded l a (reply_of whole)) (kept.0 ∙ same_letter) taken

    pub bad_reply : {d : Damage} → Fails bytes behind Reply_in d → Fails bytes at (record_in (drop at bytes)) d
    bad_reply fails =
        let last = stops (λ reply left. found (recorded letter arguments reply) left) fails in
        let all = stops_behind (from_arguments letter) read
        (record { said = last.said ∙ same; onward = last.onward; within = last.within }) in
        record { said = all.said ∙ from_letter; onward = all.onward; within = all.within }

    pub record_read : {end : ℕ} → Finds bytes behind Reply_in (reply_of whole) end
        → Finds bytes at (record_in (drop at bytes)) (record_of whole) end
    record_read {end} finds =
        let last = goes_on (λ reply left. found (recorded letter arguments reply) left) finds
        (record { said = refl; onward = le_refl end; within = finds.within }) in
        let all = goes_on (from_arguments letter) read
        (record { said = last.said ∙ same; onward = last.onward; within = last.within }) in
        record {
          said = ap (λ r. found r (drop end bytes)) value ∙ all.said ∙ from_letter;
          onward = all.onward;
          within = all.within;
        }

-- ---- A step

pub step_record : (bytes : List ℕ) (at : ℕ) → at < length bytes
    → step_of (record_in (drop at bytes)) ≡ step (drop at bytes)
step_record bytes at inside =
    ap (λ l. step_of (record_in l)) (at_byte bytes at inside) ∙ ap step (sym (at_byte bytes at inside))

module _ {bytes : List ℕ} {at : ℕ} (inside : at < length bytes) where
  pub next_step : {r : Record} {end : ℕ} → Finds bytes at (record_in (drop at bytes)) r end
      → next r (drop end bytes) ≡ step (drop at bytes)
  next_step finds = ap step_of finds.said ∙ step_record bytes at inside

  pub stopped_step : {d : Damage} → Fails bytes at (record_in (drop at bytes)) d
      → stopped (cause_of d.cause) (drop d.place bytes) ≡ step (drop at bytes)
  stopped_step fails = ap step_of fails.said ∙ step_record bytes at inside

pub last_step : (bytes : List ℕ) (at : ℕ) → length bytes ≤ at → atEnd ≡ step (drop at bytes)
last_step bytes at past = rw (drop_of_length-le bytes past)
