-- The empty part where refused, and else the object's rows.
use Rattle.std.proofs.Common.{ℕ, ◌+◌, ◌-◌, ◌*◌, ◌≡◌, ◌<◌, sym, ap, ◌∙◌, List, take, drop, arith}
use Rattle.store.specs.Layout.{base, word, object_start, rows_start}
use Rattle.store.proofs.Decisions.{whether_sound}
use Rattle.store.proofs.Laws.Reading.{kind_below}
use Rattle.store.proofs.Laws.Rows.{rows_part, rows_few}
use Rattle.protocol.specs.Replies.{Served}
use Rattle.protocol.specs.Calls as calls
use Rattle.protocol.specs.Terms.{ContentsAccepted}
use Rattle.protocol.proofs.Laws.Reasons.{contents_accepted}
use Rattle.scheduler.specs.Laws.Serving.{contents_nothing, contents_free, contents_served, contents_handed}
use Rattle.scheduler.proofs.contents.Goals as goal

module _ (w : List ℕ) (o : ℕ) (free : 0 ≡ calls.contents_reason base whether_sound w o) where
  readable : ContentsAccepted base w o
  readable = contents_accepted base whether_sound w o (sym free)

  within : o < 16
  within = kind_below base w o readable.kind.0 readable.kind.1

  rows : (start count : ℕ) → start ≡ rows_start o → count ≡ word w (object_start o + 1)
      → take (start + 2 * count - start) (drop start w) ≡ (calls.contents base whether_sound w o).outcome.rows
  rows start count from many =
      ap (λ (s : ℕ). take (s + 2 * count - s) (drop s w)) from
      ∙ rows_part w o within readable.sound.packed count many
      ∙ ap (λ (s : Served). s.outcome.rows) (contents_served w o free)

pub returns-then-is_err-clause-handed : goal.returns-then-is_err-clause-handed
returns-then-is_err-clause-handed c =
    contents_nothing c.args.book.now c.args.object c.contents.result c.contents.ensures
    (sym c.is_err.ensures.value ∙ c.if-is_err.true)

pub returns-then-is_err-clause-part : goal.returns-then-is_err-clause-part
returns-then-is_err-clause-part c =
    (contents_handed c.args.book.now c.args.object _
    (contents_nothing c.args.book.now c.args.object c.contents.result c.contents.ensures
    (sym c.is_err.ensures.value ∙ c.if-is_err.true))).1

pub rows_start-start-requires : goal.rows_start-start-requires
rows_start-start-requires c =
    let free = contents_free c.args.book.now c.args.object c.contents.result c.contents.ensures
    (sym c.is_err.ensures.value ∙ c.if-is_err.false) in
    within c.args.book.now c.args.object free

pub row_count-requires : goal.row_count-requires
row_count-requires c =
    let free = contents_free c.args.book.now c.args.object c.contents.result c.contents.ensures
    (sym c.is_err.ensures.value ∙ c.if-is_err.false) in
    ((readable c.args.book.now c.args.object free).words, within c.args.book.now c.args.object free)

pub slice_bounds-result-end-2 : goal.slice_bounds-result-end-2
slice_bounds-result-end-2 c =
    let w = c.args.book.now in
    let o = c.args.object in
    let free = contents_free w o c.contents.result c.contents.ensures
    (sym c.is_err.ensures.value ∙ c.if-is_err.false) in
    let few = rows_few w o (within w o free) (readable w o free).sound.packed in
    omega (arith, few, within w o free, (readable w o free).words, c.rows_start-start.ensures, c.row_count.ensures)

pub returns-clause-handed : goal.returns-clause-handed
returns-clause-handed c =
    let w = c.args.book.now in
    let o = c.args.object in
    let free = contents_free w o c.contents.result c.contents.ensures
    (sym c.is_err.ensures.value ∙ c.if-is_err.false) in
    rows w o free _ _ c.rows_start-start.ensures c.row_count.ensures

pub returns-clause-part : goal.returns-clause-part
returns-clause-part c =
    let w = c.args.book.now in
    let o = c.args.object in
    let free = contents_free w o c.contents.result c.contents.ensures
    (sym c.is_err.ensures.value ∙ c.if-is_err.false) in
    (contents_handed w o _ (rows w o free _ _ c.rows_start-start.ensures c.row_count.ensures)).1
