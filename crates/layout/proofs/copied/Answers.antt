use Rattle.layout.specs.Laws.{pairs_copied}
use Rattle.layout.proofs.copied.Goals as goal

pub returns : goal.returns
returns c =
    pairs_copied c.args.words.now c.args.count c.as_chunks.result.0.now c.copy_from_slice.new.self _
    c.requires.1 c.as_chunks.ensures.front c.as_chunks.ensures.front_len c.copy_from_slice.ensures.after
