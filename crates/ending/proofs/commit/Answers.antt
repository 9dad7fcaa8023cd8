-- `ending::commit`: the entries are carried into the rows, and it ends.
use Rattle.ending.specs.Laws.Books.{is_packed}
use Rattle.ending.specs.Laws.Carrying.{carried_held, then_ended}
use Rattle.ending.proofs.commit.Goals as goal

pub end-requires : goal.end-requires
end-requires c =
    let pre = c.requires in (
      is_packed _ _
          (carried_held c.args.book.now pre.0 c.args.transaction pre.2 pre.3 _ c.carry_out.ensures),
      pre.1,
    )

pub returns : goal.returns
returns c =
    let pre = c.requires in
    then_ended c.args.book.now pre.0 c.args.transaction _ _
    (carried_held c.args.book.now pre.0 c.args.transaction pre.2 pre.3 _ c.carry_out.ensures) c.end.ensures
