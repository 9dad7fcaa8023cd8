-- `list`: what is printed is the lines of the records before the place.
use Rattle.std.proofs.Common.{List, ℕ, ◌++◌, ◌∙◌, ap, length, Ok, arith, rules}
use Rattle.journal.specs.Coded.{record_of}
use Rattle.listing.specs.Listing.{record_line}
use Rattle.journal_text.specs.Laws.Printing.{printing_starts, printing_goes_on, record_stands, kept}
use Rattle.journal_text.proofs.list.Goals as goal

pub loop-read-init : goal.loop-read-init
loop-read-init c = printing_starts c.args.bytes.now c.args.out.now

pub put_record-requires : goal.put_record-requires
put_record-requires c =
    let read = c.in-Ok-Some in (
      search rules,
      (
        omega (arith, ap length c.new-line.ensures),
        (record_stands c.args.bytes.now c.loop-read.at read.read c.next.result c.next.ensures.step c.next.ensures.within
            (λ i. omega (arith, c.type_inv.bytes i)) (read.is ∙ ap Ok read.field-0-is)).fit,
      ),
    )

pub loop-read-smaller : goal.loop-read-smaller
loop-read-smaller c =
    let read = c.in-Ok-Some in
    let stood =
    record_stands c.args.bytes.now c.loop-read.at read.read c.next.result c.next.ensures.step c.next.ensures.within
    (λ i. omega (arith, c.type_inv.bytes i)) (read.is ∙ ap Ok read.field-0-is) in
    omega (arith, stood.onward, stood.within)

pub loop-read-preserved : goal.loop-read-preserved
loop-read-preserved c =
    let read = c.in-Ok-Some in
    let stood =
    record_stands c.args.bytes.now c.loop-read.at read.read c.next.result c.next.ensures.step c.next.ensures.within
    (λ i. omega (arith, c.type_inv.bytes i)) (read.is ∙ ap Ok read.field-0-is) in
    let so = c.loop-read.invariant in
    let put = c.put_record.ensures in
    let line = c.as_slice.ensures.value in
    printing_goes_on so stood (omega (arith, c.if-out-written-lt-MOST_LINE.false, kept so, so.fits))
    (line ∙ put.text ∙ ap (λ (l : List ℕ). l ++ record_line (record_of read.read.0)) c.new-line.ensures)
    (omega (arith, ap length line, put.few, ap length c.new-line.ensures)) c.put-written.ensures
