-- The call, its reply written.
use Rattle.capi.specs.Exported.{ended}
use Rattle.capi.proofs.Laws.{exports}
use Rattle.capi.proofs.lending_desk_finish.Goals as goal

pub returns : goal.returns
returns c = exports ended _ _ _ c.from-n.ensures c.finish.ensures
