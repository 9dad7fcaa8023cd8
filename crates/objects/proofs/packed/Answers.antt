-- Each object that the desk has is asked.
use Rattle.std.proofs.Common.{refl, rules}
use Rattle.std.proofs.lemmas.Iterator.{YieldsList-from_range, cases_from_all}
use Rattle.store.specs.Layout.{ObjectPacked}
use Rattle.objects.specs.Laws.Tests.{each_below}
use Rattle.objects.proofs.packed.Goals as goal

pub returns : goal.returns
returns c =
    let w = c.args.book.now in
    each_below (ObjectPacked w) 16 c.all.result
    (cases_from_all _ _ c.all.result (ObjectPacked w) (λ o. ObjectPacked w o → ⊥) c.all.ensures.ran
    (YieldsList-from_range 0 16 16 refl refl) (λ x q k. search rules) (λ x q k. search rules))
