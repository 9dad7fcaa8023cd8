-- `lending_desk_next_record`: a step of the reader, from the record read or the damage.
use Rattle.std.proofs.Common.{ℕ, refl, subst}
use Rattle.journal.specs.declared.Record.{Record}
use Rattle.journal_reader.specs.Laws.Records.{next_step, stopped_step}
use Rattle.capi.specs.Records.{SaysNext}
use Rattle.capi.specs.declared.records.NextRecord.{NextRecord}
use Rattle.capi.proofs.records.lending_desk_next_record.Goals as goal

abbrev told : ℕ → ℕ → ℕ → ℕ → Record → NextRecord
told refusal found cause place content =
    record { refusal = refusal; found = found; cause = cause; place = place; content = content }

pub returns-in-Ok : goal.returns-in-Ok
returns-in-Ok c = (
  subst (SaysNext c.args.bytes.now (told 0 1 0 c.in-Ok.place c.read_record.new.content))
      (next_step c.if-bytes-at.false c.in-Ok.ensures.reads) (refl, refl, refl, refl, refl),
  c.in-Ok.ensures.reads.within,
)

pub returns-in-Err : goal.returns-in-Err
returns-in-Err c = (
  subst
      (SaysNext c.args.bytes.now (told 13 0 c.number_of.result c.in-Err.damage.place c.read_record.new.content))
      (stopped_step c.if-bytes-at.false c.in-Err.ensures.reads) (refl, refl, c.number_of.ensures, refl),
  c.in-Err.ensures.reads.within,
)
