-- What `any` finds is what the definition says, kind by kind.
use Rattle.std.proofs.Common.{ℕ, ◌≡◌, refl, ap, ◌∙◌, Bool, ◌||◌, List, [], ◌∷◌, ltb, rules, tests}
use Rattle.std.proofs.lemmas.Iterator.{YieldsList-from_slice}
use Rattle.std.proofs.lemmas.Iterator.Search.{any_from_yields_List}
use Rattle.std.specs.List.{list_any}
use Rattle.protocol.specs.Calls.{some_above}
use Rattle.refusals.proofs.some_above.Goals as goal

each : (n : ℕ) (kinds : List ℕ) → list_any (ltb n) kinds ≡ some_above n kinds
each n [] = refl
each n (k ∷ kinds) = ap (λ (b : Bool). ltb n k || b) (each n kinds)

pub returns : goal.returns
returns c =
    let kinds = c.args.kinds.now in
    any_from_yields_List (ltb 3) _ _ _ c.any.ensures.ran (YieldsList-from_slice kinds cc)
    (λ x b q k. search (rules, tests))
    ∙ each 3 kinds
