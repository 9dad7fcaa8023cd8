-- `reply_fits`: a list's length decides where no test before it did.
use Rattle.std.proofs.Common.{arith}
use Rattle.std.proofs.lemmas.Bool.{lt-leb}
use Rattle.journal_writer.specs.Laws.Shape.{reply_right}
use Rattle.journal_writer.proofs.reply_fits.Goals as goal

pub returns-else-content-le-ANSWERED : goal.returns-else-content-le-ANSWERED
returns-else-content-le-ANSWERED c =
    let r = c.args.content.now in grind (arith, reply_right r, lt-leb r.code 1 c.if-content-le-ANSWERED.false)
