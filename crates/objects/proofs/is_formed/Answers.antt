-- Each arm is the form of its kind.
use mathlib.Core.Logic.Iff
use Rattle.objects.specs.Laws.Tests.{answer_first, answer_second}
use Rattle.objects.specs.Laws.Rows.{as_stack, as_set, as_table}
use Rattle.objects.proofs.is_formed.Goals as goal

pub returns-in-Ok-Stack : goal.returns-in-Ok-Stack
returns-in-Ok-Stack c =
    Iff.trans c.has_no_values.ensures
    (as_stack c.args.book.now c.args.object _ c.object_start-start.ensures _ c.rows-rows.ensures _
    c.in-Ok-Stack.ensures c.in-Ok-Stack.field-0-is)

pub returns-then-has_no_values : goal.returns-then-has_no_values
returns-then-has_no_values c =
    Iff.trans (answer_second c.has_no_values-in-Ok-Set.ensures c.if-has_no_values.true c.is_keyed.ensures)
    (as_set c.args.book.now c.args.object _ c.object_start-start.ensures _ c.rows-rows.ensures _ c.in-Ok-Set.ensures
    c.in-Ok-Set.field-0-is)

pub returns-else-has_no_values : goal.returns-else-has_no_values
returns-else-has_no_values c =
    Iff.trans (answer_first c.has_no_values-in-Ok-Set.ensures c.if-has_no_values.false)
    (as_set c.args.book.now c.args.object _ c.object_start-start.ensures _ c.rows-rows.ensures _ c.in-Ok-Set.ensures
    c.in-Ok-Set.field-0-is)

pub returns-in-Ok-Table : goal.returns-in-Ok-Table
returns-in-Ok-Table c =
    Iff.trans c.is_keyed-in-Ok-Table.ensures
    (as_table c.args.book.now c.args.object _ c.object_start-start.ensures _ c.rows-rows.ensures _
    c.in-Ok-Table.ensures c.in-Ok-Table.field-0-is)
