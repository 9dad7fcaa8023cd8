use Rattle.statuses.specs.Laws.Sets.{in_order_lem}
use Rattle.statuses.proofs.in_order.Goals as goal

pub returns : goal.returns
returns c = in_order_lem c.args.seen c.join.result c.join.ensures
