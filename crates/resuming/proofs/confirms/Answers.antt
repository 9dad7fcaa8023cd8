-- `resuming::confirms`: the call's record, written again, and these bytes.
use lib.Pointwise.{bytes_decides}
use Rattle.journal.specs.Coded.{record_of}
use Rattle.dispatch.specs.Laws.{served_given}
use Rattle.resuming.specs.Laws.Confirming.{left_again, none_written, confirmed_exactly}
use Rattle.resuming.proofs.confirms.Goals as goal

pub record_of-requires-clause-given : goal.record_of-requires-clause-given
record_of-requires-clause-given c = served_given c.serve-told.ensures

pub returns-in_default-record_of : goal.returns-in_default-record_of
returns-in_default-record_of c =
    let r = record_of c.args.content.now in
    let w = c.args.book.now in (
      left_again r w c.in-Some.ensures c.serve-told.ensures,
      none_written r w c.in-Some.ensures c.serve-told.ensures c.in_default-record_of.ensures,
    )

pub returns : goal.returns
returns c =
    let r = record_of c.args.content.now in
    let w = c.args.book.now in (
      left_again r w c.in-Some.ensures c.serve-told.ensures,
      confirmed_exactly r w c.in-Some.ensures c.serve-told.ensures c.requires.0 c.requires.1
          c.in-Some-record_of.ensures {same = c.eq.result}
          (rw (c.eq.ensures, c.as_slice.ensures.value) (bytes_decides _ _)),
    )
