-- `read_behind`: answers, or a list behind its count.
use Rattle.std.proofs.Common.{refl, ◌*◌, ◌++◌, arith}
use Rattle.std.proofs.lemmas.Grind.{common_steps}
use Rattle.journal_reader.specs.Laws.Replies.{answers_read, list_read}
use Rattle.journal_reader.proofs.reply.read_behind.Goals as goal

pub returns-then-content-eq-ANSWERED-clause-reads : goal.returns-then-content-eq-ANSWERED-clause-reads
returns-then-content-eq-ANSWERED-clause-reads c =
    answers_read
    (record c.args.content.now {
      owners = 2 * c.args.content.now.operations;
      listed = 2 * c.args.content.now.operations;
      numbers = c.read_numbers.new.into ++ _;
    })
    c.read_numbers.new.into _ refl c.requires.replies _ c.if-content-eq-ANSWERED.true (grind (arith, common_steps))
    (grind (arith, common_steps)) c.in_ok-end.ensures

pub returns-clause-reads : goal.returns-clause-reads
returns-clause-reads c =
    list_read
    (record c.args.content.now {
      owners = c.in_ok-count.count;
      listed = c.in_ok-count.count;
      numbers = c.read_numbers-2.new.into ++ _;
    })
    c.read_numbers-2.new.into _ refl c.requires.replies _ _ c.if-content-eq-WAIT.false c.if-content-eq-ANSWERED.false
    (grind (arith, common_steps)) (grind (arith, common_steps)) c.in_ok-count.ensures c.in_ok-end-2.ensures
