-- The arms that reduce the key, by the number.
use Rattle.std.proofs.Common.{arith}
use Rattle.waits.specs.Laws.Storing.{reduced, with_value, without_value}
use Rattle.waits.proofs.request.Goals as goal
use Rattle.waits.proofs.request.Goals.{in_default-via-then-number-lt1, in_default-via-else-number-lt1+else-number-lt4}

pub returns-in-7 : goal.returns-in-7
returns-in-7 c =
    let is = c.in-7.is in
    with_value c.args.number c.args.key c.args.value _ c.requires
    (reduced c.args.number c.args.key (λ e. omega arith) (λ e. omega arith) (omega arith)) c.in-7.is

pub returns-in_default : goal.returns-in_default
returns-in_default c =
    elim c.in_default.branch [
      | in_default-via-then-number-lt1 v ↦ absurd (omega arith)
      | in_default-via-else-number-lt1+else-number-lt4 v ↦
          without_value c.args.number c.args.key c.args.value _ c.requires
          (reduced c.args.number c.args.key (λ e. omega arith) (λ e. omega arith) (omega arith))
          (λ e. omega arith)
    ]
