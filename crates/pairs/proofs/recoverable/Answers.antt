-- Each arm has the code of its kind's table.
use Rattle.std.proofs.Common.{◌≡◌, sym, ◌∙◌}
use Rattle.std.proofs.Math.Option.{some, some-injective}
use Rattle.operations.specs.Operations.{Kind, Stack, Set, Table}
use Rattle.operations.specs.PairRules.{kind_numbered, recoverable_rules}
use Rattle.operations.specs.declared.Operation.{Operation}
use Rattle.pairs.specs.Pairs.{OneKind}
use Rattle.pairs.specs.Laws.{Within, within, recoverable_keyed, decided}
use Rattle.pairs.proofs.recoverable.Goals as goal
use Rattle.pairs.proofs.recoverable.Goals.{in-Stack, in-Set, in-Table}

of_kind : (kind : Kind) (requested logged : Operation) → OneKind requested logged
    → some kind ≡ some (kind_numbered requested.number) → Within kind requested.number logged.number
of_kind kind requested logged one e = within requested logged one kind (sym (some-injective _ _ e))

pub returns : goal.returns
returns c =
    let a = c.args.requested in
    let b = c.args.logged in
    let rules = recoverable_rules in
    let one = c.requires in
    elim c.match-of.branch [
      | in-Stack w ↦ decided rules recoverable_keyed Stack a b (of_kind Stack a b one w.in-Stack.ensures)
          (w.code-is ∙ w.stack_recoverable-code.ensures) c.allowed.ensures
      | in-Set w ↦ decided rules recoverable_keyed Set a b (of_kind Set a b one w.in-Set.ensures)
          (w.code-is ∙ w.set_recoverable-code.ensures) c.allowed.ensures
      | in-Table w ↦ decided rules recoverable_keyed Table a b (of_kind Table a b one w.in-Table.ensures)
          (w.code-is ∙ w.table_recoverable-code.ensures) c.allowed.ensures
    ]
