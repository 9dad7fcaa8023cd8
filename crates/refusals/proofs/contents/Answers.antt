use Rattle.refusals.specs.Laws.{found_whole}
use Rattle.refusals.proofs.contents.Goals as goal

pub kind_of-requires : goal.kind_of-requires
kind_of-requires c = (found_whole c.args.book.now c.in_ok-sound.ensures).packed
