-- The number of rows from its twin, and where they start.
use Rattle.std.proofs.Common.{ap, ◌∙◌, arith}
use Rattle.codes.specs.Codes.{numbers_of}
use Rattle.capi.proofs.Laws.{within, accepted_part, refused_part}
use Rattle.capi.proofs.lending_desk_contents.Goals as goal

pub rows_start-start-requires : goal.rows_start-start-requires
rows_start-start-requires c =
    within c.args.book.now c.args.object _ (c.from-n.ensures ∙ ap numbers_of c.contents_count.ensures)
    c.if-n-eq-ACCEPTED.true

pub overflow_cast-start : goal.overflow_cast-start
overflow_cast-start c =
    let low = within c.args.book.now c.args.object _ (c.from-n.ensures ∙ ap numbers_of c.contents_count.ensures)
    c.if-n-eq-ACCEPTED.true in
    omega (arith, low, c.rows_start-start.ensures)

pub returns-then-n-eq-ACCEPTED : goal.returns-then-n-eq-ACCEPTED
returns-then-n-eq-ACCEPTED c =
    accepted_part c.args.book.now c.args.object _ (c.from-n.ensures ∙ ap numbers_of c.contents_count.ensures)
    c.if-n-eq-ACCEPTED.true _ c.rows_start-start.ensures

pub returns-else-n-eq-ACCEPTED : goal.returns-else-n-eq-ACCEPTED
returns-else-n-eq-ACCEPTED c =
    refused_part c.args.book.now c.args.object _ (c.from-n.ensures ∙ ap numbers_of c.contents_count.ensures)
    c.if-n-eq-ACCEPTED.false
