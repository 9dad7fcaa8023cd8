-- Each key below the next, the last one decides.
use Rattle.std.proofs.Common.{◌≡◌, ◌<◌, ◌-◌, rules, sym, ap, ◌∙◌, get_or, [], length, not, false}
use Rattle.objects.specs.Laws.Rows.{falls, windows_of, windows_yield, keyed_last, keyed_no}
use Rattle.std.specs.List.{fold}
use Rattle.operations.proofs.Laws.Cases.{no}
use Rattle.std.proofs.lemmas.Iterator.Consumers.{fold_from_yields_List}
use Rattle.objects.proofs.is_keyed.Goals as goal

pub returns-then-not-falling : goal.returns-then-not-falling
returns-then-not-falling c =
    let pairs = c.args.rows.now in
    let told : c.fold-falling.result ≡ fold falls false (windows_of pairs) =
    fold_from_yields_List _ falls false c.fold-falling.result c.fold-falling.ensures.ran
    (windows_yield pairs c.windows.result c.windows.ensures.size c.windows.ensures.rest)
    (λ a x b q k. search rules) in
    let filled : 0 < length pairs = search rules in
    let ends : c.in-Some.last.now ≡ get_or pairs (length pairs - 1) [] = search rules in
    keyed_last pairs c.in-Some.last.now filled ends (sym told ∙ c.if-not-falling.true)

pub returns-else-not-falling : goal.returns-else-not-falling
returns-else-not-falling c =
    let pairs = c.args.rows.now in
    let told : c.fold-falling.result ≡ fold falls false (windows_of pairs) =
    fold_from_yields_List _ falls false c.fold-falling.result c.fold-falling.ensures.ran
    (windows_yield pairs c.windows.result c.windows.ensures.size c.windows.ensures.rest)
    (λ a x b q k. search rules) in
    no (ap not c.if-not-falling.false) (keyed_no pairs (sym told ∙ c.if-not-falling.false))
