-- Where the key is there the copy is as it was, else a gap is opened at its position.
use Rattle.std.proofs.Common.{◌+◌, arith, length-take-le, sym, ◌∙◌}
use Rattle.replay.specs.Laws.Copies.{gap, inserted_put, inserted_kept}
use Rattle.replay.proofs.insert.Goals as goal

pub slice_bounds-rows-end-then-not-present : goal.slice_bounds-rows-end-then-not-present
slice_bounds-rows-end-then-not-present c =
    let a = c.args in
    (gap a.rows a.count (omega arith) a.key a.at c.requires.2 a.value
    (sym c.present.ensures ∙ c.if-not-present.true) (omega (arith, c.requires.1))).0

pub slice_bounds-open_at-end : goal.slice_bounds-open_at-end
slice_bounds-open_at-end c =
    let a = c.args in
    sym (length-take-le (a.count + 1) a.rows (gap a.rows a.count (omega arith) a.key a.at c.requires.2 a.value
    (sym c.present.ensures ∙ c.if-not-present.true) (omega (arith, c.requires.1))).0)

pub open_at-requires : goal.open_at-requires
open_at-requires c =
    let a = c.args in
    (gap a.rows a.count (omega arith) a.key a.at c.requires.2 a.value
    (sym c.present.ensures ∙ c.if-not-present.true) (omega (arith, c.requires.1))).1

pub returns-then-not-present : goal.returns-then-not-present
returns-then-not-present c =
    let a = c.args in
    inserted_put a.rows a.count (omega arith) a.key a.at c.requires.2 a.value c.open_at.new.rows
    (sym c.present.ensures ∙ c.if-not-present.true) (omega (arith, c.requires.1)) c.open_at.ensures

pub returns-else-not-present : goal.returns-else-not-present
returns-else-not-present c =
    let a = c.args in
    inserted_kept a.rows a.count (omega arith) a.key a.at c.requires.2 a.value
    (sym c.present.ensures ∙ c.if-not-present.false)
