-- `dependencies::Rows::enter_as`: the owners that the rows and the rules tell, and the rows with the entry's own.
use Rattle.std.proofs.Common.{◌-◌, ◌<◌, ap, sym, arith}
use Rattle.operations.specs.PairRules.{Numbered}
use Rattle.pairs.specs.Pairs.{column_of}
use Rattle.dependencies.specs.Dependencies.{EntryRead}
use Rattle.dependencies.specs.Laws.Sets.{added_equal, added_one, with_owner, in_column}
use Rattle.dependencies.specs.Laws.Numbers.{ranged, column_within}
use Rattle.dependencies.specs.Laws.Others.{others}
use Rattle.dependencies.specs.Laws.Barring.{barred}
use Rattle.dependencies.specs.Laws.Entering.{gathered_more}
use Rattle.dependencies.proofs.Rows.enter_as.Goals as goal

pub overflow_sub-first : goal.overflow_sub-first
overflow_sub-first g c =
    let read = c.read-entry.ensures in
    let numbered : Numbered g.row.NUMBER = omega (arith, read.numbered, read.of_number) in
    omega (arith, c.first.ensures, (ranged g.row.NUMBER numbered).least)

pub join_at-requires-3 : goal.join_at-requires-3
join_at-requires-3 g c =
    let read = c.read-entry.ensures in
    let numbered : Numbered g.row.NUMBER = omega (arith, read.numbered, read.of_number) in
    let within = column_within g.row.NUMBER numbered _ c.first.ensures in
    (omega arith, within)

pub returns : goal.returns
returns g c =
    let w = c.args.book.now in
    let rows = c.args.self.now in
    let (log, by, by_value, gathered, named) = c.requires in
    let number = g.row.NUMBER in
    let t = c.read-entry.result.transaction in
    let told = c.read-entry.ensures in
    let numbered : Numbered number = omega (arith, told.numbered, told.of_number) in
    let read : EntryRead w c.args.i (record { transaction = t; object = c.read-entry.result.object; number = number }) =
    record {
      of_transaction = told.of_transaction;
      of_object = told.of_object;
      of_number = sym named;
      live = told.live;
      within = told.within;
      numbered = numbered;
    } in
    let at_below : c.args.at < 256 = omega (arith, log.0.entries, log.1, by.within) in
    let twin_below : c.args.twin < 256 = omega (arith, log.0.entries, log.1, by_value.within) in
    let other = others w log.0 c.args.i log.1 rows gathered c.args.at at_below by _
    c.args.twin _ read twin_below by_value c.differing-others.ensures in
    let column = in_column 6 _ _ (ap (λ f. number - f) c.first.ensures)
    (column_within number numbered _ c.first.ensures) in (
      barred w log.0 c.args.i log.1 rows gathered _ c.args.at _ _ _ read by other c.barring-found.ensures
          c.without.ensures,
      gathered_more w c.args.i rows gathered _ c.args.at c.args.twin read at_below by
          by_value _ _ other _ c.single-own.ensures c.meet-again.ensures _ _ _ _ _
          (added_equal 6 _ _ 5 _ number 1 _ c.then_some.ensures c.join_at.ensures)
          (added_equal 4 _ _ 3 _ number 11 _ c.then_some-2.ensures c.join_at-2.ensures)
          (with_owner 6 _ _ (column_of number) _ t _ column c.single-own.ensures c.join_at-3.ensures)
          (with_owner 4 _ _ _ _ t _ c.key_column.ensures c.single-own.ensures c.join_at-4.ensures)
          (added_one 256 _ _ c.args.twin _ number 11 _ c.then_some-3.ensures t c.single-own.ensures
          c.join_at-5.ensures),
    )
