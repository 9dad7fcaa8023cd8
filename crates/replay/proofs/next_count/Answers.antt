-- Inserts and deletes count as whether the key is there says; a number without an arm changes nothing.
use Rattle.std.proofs.Common.{◌+◌, ◌-◌, not, ap, arith, rules, ◌∙◌}
use mir.Val.{bool_byte}
use Rattle.replay.specs.Laws.Numbers.{count_insert, count_delete, count_same}
use Rattle.replay.proofs.next_count.Goals as goal

pub returns-in-4 : goal.returns-in-4
returns-in-4 c =
    let a = c.args in
    ap (λ n. a.count + n) (c.from.ensures ∙ ap (λ b. bool_byte (not b)) c.present.ensures)
    ∙ count_insert a.operation a.rows.now a.count (omega arith) c.in-4.is

pub returns-in-5 : goal.returns-in-5
returns-in-5 c =
    let a = c.args in
    ap (λ n. a.count - n) (c.from-in-5.ensures ∙ ap bool_byte c.present-in-5.ensures)
    ∙ count_delete a.operation a.rows.now a.count (omega arith) c.in-5.is

pub returns-in_default : goal.returns-in_default
returns-in_default c =
    count_same c.args.operation c.args.rows.now c.args.count (omega arith) (search rules) (search rules) (search rules)
    (search rules)
