use Rattle.std.proofs.Common.{arith}
use Rattle.states.specs.Laws.Stacks.{top_pushed, top_first}
use Rattle.states.proofs.State.top.Goals as goal

pub returns-in-Some : goal.returns-in-Some
returns-in-Some c =
    top_pushed _ _ c.args.self.now _ _ c.in-Some.ensures c.entry_operation.ensures.1

pub returns : goal.returns
returns c =
    let last = c.in_ok-last.ensures in
    top_first _ _ c.args.self.now (omega arith) _ _ (omega (arith, last)) c.row_key.ensures
