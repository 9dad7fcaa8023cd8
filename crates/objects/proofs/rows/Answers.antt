-- The words behind kind and count, two by two.
use Rattle.std.proofs.Common.{ap, map, ◌∙◌}
use Rattle.replay.specs.Replay.{row_of}
use Rattle.objects.specs.Laws.Writing.{rows_chunks}
use Rattle.objects.proofs.rows.Goals as goal

pub returns : goal.returns
returns c =
    ap (map row_of) c.as_chunks.ensures.front ∙ rows_chunks c.args.part.now c.requires.0 c.requires.1
