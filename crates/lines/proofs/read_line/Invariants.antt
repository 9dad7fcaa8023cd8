-- `lines::read_line`: the numbers of the fields passed.
use Rattle.std.proofs.Common.{◌≡◌, map}
use Rattle.std.proofs.Math.Option.{some}
use Rattle.lines.specs.Lines.{numbers_in}
use Rattle.lines.proofs.read_line.Given as goal

abbrev pub invariant-loop-field : goal.invariant-loop-field
invariant-loop-field l = numbers_in (map (λ field. field.now) l.yielded) ≡ some l.arguments.items
