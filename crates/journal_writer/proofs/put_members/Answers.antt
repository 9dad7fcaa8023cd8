-- `put_members`: the members of what is left are left to put.
use Rattle.std.proofs.Common.{ap, arith, length-append}
use Rattle.bitset.specs.Bitset.{members}
use Rattle.bitset.specs.Laws.{lowest_first, none_listed}
use Rattle.journal.specs.Groups.{groups, grouped}
use Rattle.journal_writer.specs.Laws.Putting.{room, one_more, all_put}
use Rattle.journal_writer.proofs.put_members.Goals as goal

pub put_number-requires : goal.put_number-requires
put_number-requires c =
    let others = c.next.new.self.set in
    let (lowest, fewer) = c.in-Some.ensures.steps in
    omega (
      arith,
      room c.loop-member.invariant (groups c.in-Some.member) (grouped (members others))
          (ap grouped (lowest_first _ others _ lowest fewer)),
      length-append c.args.out.now.items (grouped (members c.args.set)),
    )

pub loop-member-preserved : goal.loop-member-preserved
loop-member-preserved c =
    let (lowest, fewer) = c.in-Some.ensures.steps in
    one_more c.loop-member.invariant _ _ _ (ap grouped (lowest_first _ c.next.new.self.set _ lowest fewer))
    c.put_number.ensures

pub returns : goal.returns
returns c = all_put c.loop-member.invariant (ap grouped (none_listed _ c.in-None.ensures.steps.0))
