-- `ending::end`: entries leave, then the status, then the rank.
use Rattle.ending.specs.Laws.Books.{is_packed}
use Rattle.ending.specs.Laws.Steps.{without_entries, without_status, ranked_ended, unranked_ended}
use Rattle.ending.proofs.end.Goals as goal

pub set_status-requires : goal.set_status-requires
set_status-requires c = (
  is_packed _ _ (without_entries c.args.book.now c.requires.0 c.args.transaction _ c.remove.ensures),
  c.requires.1,
)

pub close_ranks-requires : goal.close_ranks-requires
close_ranks-requires c =
    is_packed _ _
    (without_status c.args.book.now c.requires.0 c.args.transaction _ c.remove.ensures _ c.set_status.ensures)

pub returns-then-status-ge-FIRST_RANK : goal.returns-then-status-ge-FIRST_RANK
returns-then-status-ge-FIRST_RANK c =
    ranked_ended c.args.book.now c.requires.0 c.args.transaction _ c.requires.1 c.status_word-status.ensures _ _
    (without_status c.args.book.now c.requires.0 c.args.transaction _ c.remove.ensures _ c.set_status.ensures)
    c.if-status-ge-FIRST_RANK.true c.close_ranks.ensures

pub returns-else-status-ge-FIRST_RANK : goal.returns-else-status-ge-FIRST_RANK
returns-else-status-ge-FIRST_RANK c =
    unranked_ended c.args.book.now c.requires.0 c.args.transaction _ c.requires.1 c.status_word-status.ensures _
    (without_status c.args.book.now c.requires.0 c.args.transaction _ c.remove.ensures _ c.set_status.ensures)
    c.if-status-ge-FIRST_RANK.false
