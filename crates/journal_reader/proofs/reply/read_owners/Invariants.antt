-- `read_owners`: the set's members, before those that are left, are the whole.
use Rattle.journal_reader.specs.Laws.Owners.{Gathering}
use Rattle.journal_reader.proofs.reply.read_owners.Given as goal

abbrev pub invariant-loop : goal.invariant-loop
invariant-loop l = Gathering l.bytes l.at l.count l.owners l.least l.place l.counter
