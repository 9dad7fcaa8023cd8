-- `put_arguments`: a batch's with their count, or any other's.
use Rattle.std.proofs.Common.{arith}
use Rattle.std.proofs.lemmas.Grind.{common_steps}
use Rattle.journal_writer.specs.Laws.Numbers.{other_numbers, batch_bytes, batch_small}
use Rattle.journal_writer.proofs.put_arguments.Goals as goal

-- ---- Any other's

pub put_numbers-requires : goal.put_numbers-requires
put_numbers-requires c =
    let e = other_numbers c.args.content.now c.requires.shape (omega arith) c.if-content-ne-BATCH.true in
    grind (arith, common_steps, e)

pub returns-then-content-ne-BATCH-clause-bytes : goal.returns-then-content-ne-BATCH-clause-bytes
returns-then-content-ne-BATCH-clause-bytes c =
    let e = other_numbers c.args.content.now c.requires.shape (omega arith) c.if-content-ne-BATCH.true in
    grind (arith, common_steps, e)

pub returns-then-content-ne-BATCH-clause-small : goal.returns-then-content-ne-BATCH-clause-small
returns-then-content-ne-BATCH-clause-small c =
    let e = other_numbers c.args.content.now c.requires.shape (omega arith) c.if-content-ne-BATCH.true in
    grind (arith, common_steps, e)

-- ---- A batch's

pub put_numbers-requires-2 : goal.put_numbers-requires-2
put_numbers-requires-2 c =
    let e = batch_bytes c.args.content.now c.requires.shape (omega arith) c.if-content-ne-BATCH.false in
    grind (arith, common_steps, e)

pub put_number-requires : goal.put_number-requires
put_number-requires c =
    let e = batch_bytes c.args.content.now c.requires.shape (omega arith) c.if-content-ne-BATCH.false in
    grind (arith, common_steps, e)

pub put_numbers-requires-3 : goal.put_numbers-requires-3
put_numbers-requires-3 c =
    let e = batch_bytes c.args.content.now c.requires.shape (omega arith) c.if-content-ne-BATCH.false in
    grind (arith, common_steps, e)

pub returns-clause-bytes : goal.returns-clause-bytes
returns-clause-bytes c =
    let e = batch_bytes c.args.content.now c.requires.shape (omega arith) c.if-content-ne-BATCH.false in
    grind (arith, common_steps, e)

pub returns-clause-small : goal.returns-clause-small
returns-clause-small c =
    let e = batch_small c.args.content.now c.requires.shape (omega arith) c.if-content-ne-BATCH.false in
    grind (arith, common_steps, e)
