use Rattle.std.proofs.Common.{◌-◌}
use Rattle.waits.specs.Laws.Scan.{Scanning}
use Rattle.waits.proofs.owners.Given as goal

abbrev pub invariant-scan : goal.invariant-scan
invariant-scan l = Scanning l.book l.transaction l.object l.requested l.set l.i

abbrev pub decreases-scan : goal.decreases-scan
decreases-scan l = l.entries - l.i
