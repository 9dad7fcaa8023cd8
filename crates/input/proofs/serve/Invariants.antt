-- `input::serve`: no more is kept of a line than its array has room for.
use Rattle.std.proofs.Common.{◌≤◌}
use Rattle.script.specs.Sessions.{line_kept}
use Rattle.input.proofs.serve.Given as goal

abbrev pub invariant-loop : goal.invariant-loop
invariant-loop l = l.kept ≤ line_kept
