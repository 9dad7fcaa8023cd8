use Rattle.std.proofs.Common.{◌+◌, ap₂, ◌∙◌, arith}
use Rattle.std.proofs.lemmas.List.Sums.{count_by-le-length}
use Rattle.std.proofs.lemmas.List.FromFn.{length-range_with_len}
use Rattle.std.specs.List.{range_with_len}
use Rattle.answers.specs.Answers.{may_add}
use Rattle.answers.specs.Laws.Counting.{all_rows, additions_counted}
use Rattle.answers.proofs.used.Goals as goal

pub overflow_add-result : goal.overflow_add-result
overflow_add-result c =
    let n = c.entry_count.result in
    omega (
      arith,
      c.added.ensures,
      count_by-le-length (λ i. may_add c.args.book.now c.args.object i) (range_with_len 0 n),
      length-range_with_len 0 n,
      c.requires.0.log.entries,
      (c.requires.0.objects c.args.object c.requires.1).rows,
    )

pub returns : goal.returns
returns c =
    ap₂ ◌+◌ (all_rows _ c.requires.0 _ c.requires.1 _ c.row_count.ensures)
    (c.added.ensures ∙ additions_counted _ c.requires.0 _ _ c.entry_count.ensures)
