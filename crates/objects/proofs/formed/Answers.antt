-- Each object that the desk has is asked.
use Rattle.std.proofs.Common.{refl, rules}
use mathlib.Core.Logic.Iff
use Rattle.std.proofs.lemmas.Iterator.{YieldsList-from_range, cases_from_all}
use Rattle.objects.specs.Objects.{ObjectFormed}
use Rattle.objects.specs.Laws.Tests.{each_below}
use Rattle.objects.specs.Laws.Rows.{all_formed}
use Rattle.objects.proofs.formed.Goals as goal

pub returns : goal.returns
returns c =
    let w = c.args.book.now in
    Iff.trans
    (each_below (ObjectFormed w) 16 c.all.result
    (cases_from_all _ _ c.all.result (ObjectFormed w) (λ o. ObjectFormed w o → ⊥) c.all.ensures.ran
    (YieldsList-from_range 0 16 16 refl refl) (λ x q k. search rules) (λ x q k. search rules)))
    (all_formed w)
