-- `text::find`: the search in a part, from its start on.
use Rattle.std.proofs.Common.{ℕ, ◌+◌, ◌≡◌, ◌∙◌, ap, arith, ◌-◌}
use Rattle.std.specs.Prelude.{unwrap_or, Option}
use Rattle.text.specs.Finding.{index_of, slice}
use Rattle.text.proofs.Laws.Finding.{found, found_within}
use Rattle.text.proofs.find.Goals as goal

pub returns : goal.returns
returns c =
    let a = c.args in
    let is : c.unwrap_or.result ≡ index_of a.separator (slice a.from a.to a.text.now) =
    c.unwrap_or.ensures ∙ ap (λ (o : Option ℕ). unwrap_or o (a.to - a.from)) c.first.ensures
    ∙ found a.separator a.text.now a.from a.to c.requires.0 c.requires.1 in (
      ap (λ (n : ℕ). a.from + n) is,
      omega (arith, found_within a.separator a.text.now a.from a.to c.requires.0 c.requires.1),
    )
