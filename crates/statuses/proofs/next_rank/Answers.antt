use Rattle.std.proofs.Common.{rules, ◌≡◌, ℕ, count_by, ltb, take, drop}
use Rattle.std.proofs.iter.runs.Made.{chains}
use Rattle.statuses.specs.Laws.Count.{pseudo_committed_counted}
use Rattle.statuses.proofs.next_rank.Goals as goal

pub returns : goal.returns
returns c =
    let many : c.count.result ≡ count_by (λ (x : ℕ). ltb 1 x) (take 64 (drop 1 c.args.book.now)) =
    search (rules, chains) in
    pseudo_committed_counted c.args.book.now c.count.result c.requires many
