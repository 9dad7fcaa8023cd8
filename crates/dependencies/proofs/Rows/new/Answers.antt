-- `dependencies::Rows::new`: nobody owns an entry.
use Rattle.dependencies.specs.Laws.Rows.{gathered_none}
use Rattle.std.proofs.Common.{refl}
use Rattle.dependencies.proofs.Rows.new.Goals as goal

pub returns : goal.returns
returns c = λ w. gathered_none w 16 256 256 refl refl refl
