use Rattle.std.proofs.Common.{ap}
use Rattle.operations.specs.Kinds.{number_of_kind}
use Rattle.operations.proofs.Laws.Numbers.{number_named, named_stack}
use Rattle.entry_log.specs.Laws.Fitting.{no_key, key_tested}
use Rattle.entry_log.proofs.is_reduced.Goals as goal

pub returns-in-Stack : goal.returns-in-Stack
returns-in-Stack c =
    no_key c.args.book.now c.args.i c.requires.2 _ _ c.entry_operation-operation.ensures.0
    (number_named _ _ c.of.ensures) (ap number_of_kind c.in-Stack.is)

pub returns-in_default : goal.returns-in_default
returns-in_default c =
    let read = c.entry_operation-operation.ensures in
    key_tested c.args.book.now c.args.i c.requires.2 _ _ read.0 (number_named _ _ c.of.ensures) _ read.1
    (λ e. c.in_default.not-Stack (named_stack _ e))
