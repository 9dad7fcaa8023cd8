-- The words behind the row move down by one row's.
use Rattle.std.proofs.Common.{◌+◌, ◌-◌, ◌*◌, ◌≡◌, ap, ap₂, arith, rules, List, ℕ, ◌∙◌}
use Rattle.std.proofs.Common.{length, take, drop, length-drop, length-take-le, set, replicate}
use borrow.Rule.Slice.PartMut.{put_mid}
use Rattle.store.specs.Layout.{word}
use Rattle.objects.specs.Laws.Writing.{closed}
use Rattle.objects.proofs.close_at.Goals as goal

pub returns : goal.returns
returns c =
    let w = c.args.part.now in
    let end = 2 + 2 * word w 1 in
    let size : length (take (end - (end - 2)) (drop (end - 2) c.copy_within.new.self)) ≡ end - (end - 2) =
    length-take-le _ _ (omega (
      arith,
      length-drop (end - 2) c.copy_within.new.self,
      c.copy_within.ensures.len,
      c.requires.0.long,
      c.requires.0.rows,
    )) in
    let cleared : c.fill.new.self ≡ replicate (end - (end - 2)) 0 =
    c.fill.ensures.after (λ y k. search rules) ∙ ap (λ n. replicate n 0) size in
    ap₂ (λ (moved free : List ℕ).
    let now = put_mid (end - 2) (end - (end - 2)) moved free in
    set now 1 (word now 1 - 1))
    c.copy_within.ensures.after cleared
    ∙ closed w c.requires.0 c.args.at (end - 2) (end - (end - 2)) c.requires.1 (omega arith) (omega arith)
