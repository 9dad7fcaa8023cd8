-- `read_record`: the letter, its arguments and the reply.
use Rattle.std.proofs.Common.{refl}
use Rattle.std.proofs.lemmas.Result.{MatchResult-weaker, err_from_is_err_and}
use Rattle.journal_reader.specs.Laws.Records.{bad_arguments, bad_reply, record_read}
use Rattle.journal_reader.proofs.read_record.Goals as goal

pub returns-in_err-behind-clause-reads : goal.returns-in_err-behind-clause-reads
returns-in_err-behind-clause-reads c =
    let p = err_from_is_err_and c.from_residual.result c.from_residual.ensures.1 in
    rw (p.1, p.2) (bad_arguments c.args.bytes.now c.args.at _ c.requires refl c.in_err-behind.ensures.reads)

pub returns-clause-reads : goal.returns-clause-reads
returns-clause-reads c =
    let so = c.in_ok-behind.ensures in
    MatchResult-weaker c.read_reply.result c.read_reply.ensures.reads
    (λ end finds.
    record_read c.args.bytes.now c.args.at _ c.requires refl c.read_arguments.new.content c.read_reply.new.content
    so.letter c.read_reply.ensures.kept so.reads so.operations finds)
    (λ damage fails.
    bad_reply c.args.bytes.now c.args.at _ c.requires refl c.read_arguments.new.content c.read_reply.new.content
    so.letter c.read_reply.ensures.kept so.reads so.operations fails)
