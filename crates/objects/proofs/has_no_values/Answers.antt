-- The union of the second words is 0 exactly where each is.
use Rattle.std.proofs.Common.{◌≡◌, rules, sym, ◌∙◌, eqb-true, eq-eqb, refl}
use Rattle.std.specs.List.{fold}
use Rattle.objects.specs.Laws.Rows.{union, none_seen}
use Rattle.objects.proofs.has_no_values.Goals as goal

pub returns : goal.returns
returns c =
    let pairs = c.args.rows.now in
    let told : c.fold.result ≡ fold union 0 pairs = search rules in
    let both = none_seen pairs 0 in (
      λ e. (both.0 (sym told ∙ eqb-true _ _ e)).1,
      λ a. eq-eqb _ _ (told ∙ both.1 (refl, a)),
    )
