use Rattle.std.proofs.Common.{refl}
use Rattle.representatives.specs.Laws.Chains.{chained_none}
use Rattle.representatives.proofs.Chains.new.Goals as goal

pub returns : goal.returns
returns g c = λ w. chained_none _ w _ refl refl
