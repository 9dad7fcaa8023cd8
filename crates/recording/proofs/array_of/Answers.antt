-- `recording::array_of`: the numbers stand in front of zeros.
use Rattle.journal.proofs.Laws.Fronts.{front_first}
use Rattle.recording.proofs.array_of.Goals as goal

pub returns : goal.returns
returns g c = rw c.copy_from_slice.ensures.after (front_first c.args.numbers.now _)
