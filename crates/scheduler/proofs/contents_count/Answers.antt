-- Refused, or the number of the object's rows.
use Rattle.std.proofs.Common.{sym, ap, ◌∙◌, arith}
use Rattle.store.specs.Layout.{base}
use Rattle.store.proofs.Decisions.{whether_sound}
use Rattle.store.proofs.Laws.Reading.{kind_below}
use Rattle.store.proofs.Laws.Rows.{rows_counted}
use Rattle.protocol.specs.Replies.{Served, counted}
use Rattle.protocol.proofs.Laws.Reasons.{contents_accepted}
use Rattle.scheduler.specs.Laws.Serving.{contents_refused, contents_served}
use Rattle.scheduler.proofs.contents_count.Goals as goal

pub returns-in-Err : goal.returns-in-Err
returns-in-Err c =
    rw c.number.ensures
    (ap (λ (s : Served). s.outcome.reply)
    (contents_refused c.args.book.now c.args.object c.in-Err.reason c.in-Err.ensures))

pub row_count-requires : goal.row_count-requires
row_count-requires c =
    let a = contents_accepted base whether_sound c.args.book.now c.args.object (sym c.in_default.ensures) in
    (a.words, omega (arith, kind_below base c.args.book.now c.args.object a.kind.0 a.kind.1))

pub returns : goal.returns
returns c =
    let w = c.args.book.now in
    let o = c.args.object in
    let a = contents_accepted base whether_sound w o (sym c.in_default.ensures) in
    ap counted (c.row_count.ensures ∙ sym (rows_counted w o (kind_below base w o a.kind.0 a.kind.1)))
    ∙ ap (λ (s : Served). s.outcome.reply) (contents_served w o c.in_default.ensures)
