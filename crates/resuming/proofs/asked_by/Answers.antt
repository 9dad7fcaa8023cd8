-- `resuming::asked_by`: as many arguments as the letter has.
use Rattle.std.proofs.Common.{◌≡◌, length, rules}
use Rattle.resuming.specs.Laws.Confirming.{asked_for}
use Rattle.resuming.proofs.asked_by.Goals as goal

pub returns : goal.returns
returns c =
    let long : length c.args.content.now.arguments ≡ 65 = search rules in
    asked_for c.args.content.now c.requires c.argument_count-count.ensures long c.line_of.ensures
