-- `write_into`: the letter, the arguments and the reply, where the record is shaped.
use Rattle.std.proofs.Common.{sym, ◌∙◌, arith}
use Rattle.std.proofs.lemmas.Grind.{common_steps}
use Rattle.journal.specs.Coded.{record_of}
use Rattle.journal_writer.specs.Laws.Whole.{turned_away, room, fitting, whole}
use Rattle.journal_writer.proofs.write_into.Goals as goal

pub returns-then-not-is_shaped-clause-bytes : goal.returns-then-not-is_shaped-clause-bytes
returns-then-not-is_shaped-clause-bytes c =
    turned_away (record_of c.args.content.now) (sym c.is_shaped.ensures ∙ c.if-not-is_shaped.true)

pub put_arguments-requires-clause-room : goal.put_arguments-requires-clause-room
put_arguments-requires-clause-room c =
    let shape = sym c.is_shaped.ensures ∙ c.if-not-is_shaped.false in
    grind (arith, common_steps, room (record_of c.args.content.now) shape)

pub put_reply-requires-clause-room : goal.put_reply-requires-clause-room
put_reply-requires-clause-room c =
    let shape = sym c.is_shaped.ensures ∙ c.if-not-is_shaped.false in
    grind (arith, common_steps, room (record_of c.args.content.now) shape)

pub returns-clause-bytes : goal.returns-clause-bytes
returns-clause-bytes c =
    whole (record_of c.args.content.now) (sym c.is_shaped.ensures ∙ c.if-not-is_shaped.false)
    c.put_arguments.ensures.small c.put_reply.ensures.small _ _ _ _ c.clear.ensures
    c.push.ensures.items c.put_arguments.ensures.bytes c.put_reply.ensures.bytes

pub returns-clause-fits : goal.returns-clause-fits
returns-clause-fits c shape =
    fitting (record_of c.args.content.now) shape c.put_arguments.ensures.small c.put_reply.ensures.small
