-- `dispatch::reply_line`: what is read is served.
use Rattle.std.proofs.Common.{◌∙◌, sym, ap, rules}
use Rattle.lines.specs.Coded.{call_said}
use Rattle.dispatch.specs.Laws.{unread_line, answered_line}
use Rattle.dispatch.proofs.reply_line.Goals as goal

pub returns-in-Some : goal.returns-in-Some
returns-in-Some c =
    answered_line c.args.book.now c.args.line.now (ap call_said (sym c.in-Some.is) ∙ c.read_line.ensures)
    c.reply_call.ensures

pub returns-in-None : goal.returns-in-None
returns-in-None c =
    unread_line c.args.book.now c.args.line.now (ap call_said (sym c.in-None.is) ∙ c.read_line.ensures)
    (search rules) c.clear-in-None.ensures
