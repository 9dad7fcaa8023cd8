use Rattle.std.proofs.Common.{◌∙◌}
use Rattle.operations.proofs.Laws.Numbers.{number_named}
use Rattle.entry_log.specs.Laws.Fitting.{kind_past, kind_tested}
use Rattle.entry_log.proofs.of_kind.Goals as goal

pub returns-then-object-lt-OBJECTS : goal.returns-then-object-lt-OBJECTS
returns-then-object-lt-OBJECTS c =
    kind_tested c.args.book.now c.args.i c.requires.2 _ _ c.entry_operation.ensures.0
    (c.from.ensures ∙ number_named _ _ c.of-kind.ensures) _ _ c.entry_object-object.ensures
    c.if-object-lt-OBJECTS.true c.object_kind.ensures

pub returns-else-object-lt-OBJECTS : goal.returns-else-object-lt-OBJECTS
returns-else-object-lt-OBJECTS c =
    kind_past c.args.book.now c.args.i _ c.entry_object-object.ensures c.if-object-lt-OBJECTS.false
