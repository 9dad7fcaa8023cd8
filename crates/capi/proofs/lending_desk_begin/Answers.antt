-- The call, its reply written.
use Rattle.capi.specs.Exported.{accepted}
use Rattle.capi.proofs.Laws.{exports}
use Rattle.capi.proofs.lending_desk_begin.Goals as goal

pub returns : goal.returns
returns c = exports accepted _ _ _ c.from-n.ensures c.begin.ensures
