-- `put_number`: the groups of what is left are left to put.
use Rattle.std.proofs.Common.{sym, ◌∙◌, ◌/◌, ◌++◌, [], ◌∷◌, ap, arith, length-append}
use Rattle.journal.specs.Groups.{groups}
use Rattle.journal.proofs.Laws.Groups.{one_group}
use Rattle.journal_writer.specs.Laws.Groups.{more_groups}
use Rattle.journal_writer.specs.Laws.Putting.{room, one_more}
use Rattle.journal_writer.proofs.put_number.Goals as goal

pub push-requires : goal.push-requires
push-requires c =
    let next = more_groups c.loop-left.left c.loop-left-test.true (omega arith) in (
      omega arith,
      omega (
        arith,
        room c.loop-left.invariant.left (_ ∷ []) _ next,
        length-append c.args.out.now.items (groups c.args.number),
      ),
    )

pub loop-left-preserved : goal.loop-left-preserved
loop-left-preserved c = record {
  left = one_more c.loop-left.invariant.left (_ ∷ []) (groups (c.loop-left.left / 128)) c.push.new.self.items
      (more_groups c.loop-left.left c.loop-left-test.true (omega arith)) c.push.ensures.items;
  lower = omega arith;
}

pub push-requires-2 : goal.push-requires-2
push-requires-2 c = (
  omega arith,
  omega (
    arith,
    room c.loop-left.invariant.left (_ ∷ []) [] (one_group c.loop-left.left c.loop-left-test.false),
    length-append c.args.out.now.items (groups c.args.number),
  ),
)

pub returns : goal.returns
returns c =
    c.push-2.ensures.items
    ∙ ap (λ l. c.loop-left.out.items ++ l) (sym (one_group c.loop-left.left c.loop-left-test.false))
    ∙ c.loop-left.invariant.left.join
