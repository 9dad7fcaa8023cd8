use Rattle.store.proofs.Laws.Writing.{status_put}
use Rattle.statuses.proofs.set_status.Goals as goal

pub returns : goal.returns
returns c = status_put c.args.book.now c.requires.0 c.args.transaction c.args.status c.requires.1
