-- The value of the row at the position, where it has the key.
use Rattle.std.proofs.Common.{◌<◌, arith, length, sym, ◌∙◌}
use Rattle.replay.specs.Laws.Copies.{found_within, found_here, found_none}
use Rattle.replay.proofs.lookup.Goals as goal

inside : (c : goal.Then-present) → c.args.at < length c.args.rows.now
inside c =
    let a = c.args in
    found_within a.key a.rows.now a.at c.requires (sym c.present.ensures ∙ c.if-present.true)

pub offset_bounds-rows-at : goal.offset_bounds-rows-at
offset_bounds-rows-at c = omega (arith, inside c)

pub bounds-rows-at : goal.bounds-rows-at
bounds-rows-at c = inside c

pub returns-then-present : goal.returns-then-present
returns-then-present c =
    let a = c.args in
    found_here a.key a.rows.now a.at c.requires (sym c.present.ensures ∙ c.if-present.true)

pub returns : goal.returns
returns c =
    let a = c.args in
    found_none a.key a.rows.now a.at c.requires (sym c.present.ensures ∙ c.if-present.false)
