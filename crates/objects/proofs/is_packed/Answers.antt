-- In range, the words past the rows decide.
use Rattle.std.proofs.Common.{◌≡◌, ◌↔◌, ◌+◌, ◌-◌, ◌*◌, ℕ, true, take, drop, subst}
use mathlib.Core.Logic.Iff
use Rattle.store.specs.Layout.{word}
use Rattle.objects.specs.Laws.Ranges.{packed_zeros}
use Rattle.objects.proofs.is_packed.Goals as goal

pub returns : goal.returns
returns c =
    let w = c.args.book.now in
    let n = c.row_count-count.result in
    let zeros =
    subst (λ (s : ℕ). (c.is_zero.result ≡ true)
    ↔ ((i : ℕ) → word (take (s + 130 - (s + 2 + 2 * n)) (drop (s + 2 + 2 * n) w)) i ≡ 0))
    c.object_start-start.ensures c.is_zero.ensures in
    Iff.trans zeros
    (packed_zeros w c.args.object _ _ c.object_kind-kind.ensures c.row_count-count.ensures
    (c.is_in_range.ensures.0 c.if-not-is_in_range.false))
