-- `read_arguments`: no letter; or a batch's.
use Rattle.std.proofs.Common.{arith}
use Rattle.std.proofs.lemmas.Grind.{common_steps}
use Rattle.std.proofs.lemmas.Result.{err_from_is_err_and}
use Rattle.journal_numbers.specs.Laws.Reads.{failed}
use Rattle.journal_reader.specs.Laws.Arguments.{no_letter, batch_read, batch_stops, batch_front, batch_operations}
use Rattle.journal_reader.proofs.arguments.read_arguments.Goals as goal

pub returns-in_default-clause-reads : goal.returns-in_default-clause-reads
returns-in_default-clause-reads c =
    failed (cc) (no_letter c.args.bytes.now c.args.at _ c.requires.0 c.requires.1 c.in_default.ensures)

pub returns-clause-operations : goal.returns-clause-operations
returns-clause-operations c =
    let first = c.read_numbers.new.into in
    let more = c.read_numbers-2.new.into in
    let operations = c.in_ok-operations.operations in
    batch_operations c.args.content.now.letter c.in-Some.count operations first more c.if-content-ne-BATCH.false
    c.in-Some.ensures (grind (arith, common_steps)) (grind (arith, common_steps)) _
    (batch_front c.args.content.now.letter c.in-Some.count operations first more c.if-content-ne-BATCH.false
    c.in-Some.ensures (grind (arith, common_steps)) (grind (arith, common_steps)) _
    (grind (arith, common_steps)) (grind (arith, common_steps)))

pub returns-in_err-end-clause-reads : goal.returns-in_err-end-clause-reads
returns-in_err-end-clause-reads c =
    let p = err_from_is_err_and c.from_residual-in_err-end.result c.from_residual-in_err-end.ensures.1 in
    rw (p.1, p.2)
    (batch_stops c.args.content.now.letter c.args.at c.in-Some.count _ c.if-content-ne-BATCH.false c.in-Some.ensures
    (grind (arith, common_steps)) c.in_ok-behind.ensures _ (grind (arith, common_steps)) c.in_ok-operations.ensures
    c.in_err-end.ensures)

pub returns-clause-reads : goal.returns-clause-reads
returns-clause-reads c =
    let first = c.read_numbers.new.into in
    let more = c.read_numbers-2.new.into in
    let operations = c.in_ok-operations.operations in
    batch_read c.args.content.now.letter c.args.at c.in-Some.count _ c.if-content-ne-BATCH.false c.in-Some.ensures
    (grind (arith, common_steps)) c.in_ok-behind.ensures _ (grind (arith, common_steps)) c.in_ok-operations.ensures _
    (batch_front c.args.content.now.letter c.in-Some.count operations first more c.if-content-ne-BATCH.false
    c.in-Some.ensures (grind (arith, common_steps)) (grind (arith, common_steps)) _
    (grind (arith, common_steps)) (grind (arith, common_steps)))
    c.in_ok-end.ensures
