-- `put_reply`: what stands behind the reply code.
use Rattle.std.proofs.Common.{sym, ◌∙◌, arith}
use Rattle.std.proofs.lemmas.Grind.{common_steps}
use Rattle.journal_writer.specs.Laws.Numbers.{wait_small, answer_numbers, list_numbers, list_small}
use Rattle.journal_writer.proofs.put_reply.Goals as goal

-- ---- A wait

pub returns-then-content-eq-WAIT-clause-small : goal.returns-then-content-eq-WAIT-clause-small
returns-then-content-eq-WAIT-clause-small c =
    wait_small c.args.content.now c.requires.shape (omega arith) (sym c.has_reply.ensures ∙ c.if-not-has_reply.false)
    c.if-content-eq-WAIT.true

-- ---- An answer

pub put_numbers-requires : goal.put_numbers-requires
put_numbers-requires c =
    let e = answer_numbers c.args.content.now c.requires.shape (omega arith)
    (sym c.has_reply.ensures ∙ c.if-not-has_reply.false) c.if-content-eq-ANSWERED.true in
    grind (arith, common_steps, e)

pub returns-then-content-eq-ANSWERED-clause-bytes : goal.returns-then-content-eq-ANSWERED-clause-bytes
returns-then-content-eq-ANSWERED-clause-bytes c =
    let e = answer_numbers c.args.content.now c.requires.shape (omega arith)
    (sym c.has_reply.ensures ∙ c.if-not-has_reply.false) c.if-content-eq-ANSWERED.true in
    grind (arith, common_steps, e)

pub returns-then-content-eq-ANSWERED-clause-small : goal.returns-then-content-eq-ANSWERED-clause-small
returns-then-content-eq-ANSWERED-clause-small c =
    let e = answer_numbers c.args.content.now c.requires.shape (omega arith)
    (sym c.has_reply.ensures ∙ c.if-not-has_reply.false) c.if-content-eq-ANSWERED.true in
    grind (arith, common_steps, e)

-- ---- A list

pub put_number-requires-2 : goal.put_number-requires-2
put_number-requires-2 c =
    let e = list_numbers c.args.content.now c.requires.shape (omega arith)
    (sym c.has_reply.ensures ∙ c.if-not-has_reply.false) (omega arith) in
    grind (arith, common_steps, e)

pub put_numbers-requires-2 : goal.put_numbers-requires-2
put_numbers-requires-2 c =
    let e = list_numbers c.args.content.now c.requires.shape (omega arith)
    (sym c.has_reply.ensures ∙ c.if-not-has_reply.false) (omega arith) in
    grind (arith, common_steps, e)

pub returns-clause-bytes : goal.returns-clause-bytes
returns-clause-bytes c =
    let e = list_numbers c.args.content.now c.requires.shape (omega arith)
    (sym c.has_reply.ensures ∙ c.if-not-has_reply.false) (omega arith) in
    grind (arith, common_steps, e)

pub returns-clause-small : goal.returns-clause-small
returns-clause-small c =
    list_small c.args.content.now c.requires.shape (omega arith) (sym c.has_reply.ensures ∙ c.if-not-has_reply.false)
    (omega arith) (omega arith) c.put_numbers-2.ensures.small
