-- The call, its reply written.
use Rattle.capi.specs.Exported.{operated}
use Rattle.capi.proofs.Laws.{exports}
use Rattle.capi.proofs.lending_desk_operate.Goals as goal

pub returns : goal.returns
returns c = exports operated _ _ _ c.from-n.ensures c.operate.ensures
