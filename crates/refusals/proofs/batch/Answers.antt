-- Reasons of who asks, the operations' own, and the limits.
use Rattle.std.proofs.Common.{ℕ, ◌≡◌, sym, ap, subst, ◌∙◌, Bool, List, length, arith}
use Rattle.std.proofs.lemmas.Result.{err_from_is_err_and}
use Rattle.store.specs.Layout.{base, decode}
use Rattle.protocol.specs.Calls.{LentOperation, operations_in, own_reasons, first, too_many}
use Rattle.protocol.proofs.Laws.Reasons.{Silent}
use Rattle.protocol.proofs.Laws.Lent.{lent_length}
use Rattle.refusals.specs.Reasons.{asker_reasons, row_limits}
use Rattle.refusals.specs.Laws.{asker_sound, own_refuses, own_silent, limited, batch_full, batch_within}
use Rattle.refusals.proofs.batch.Goals as goal

-- Who asks is refused for nothing, nor is an operation of its own.
asked : (w : List ℕ) (t : ℕ) (operations : List ℕ) {many : Bool} → many ≡ too_many operations
    → 0 ≡ first (asker_reasons w t many) → 0 ≡ first (asker_reasons w t (too_many operations))
asked w t operations is e = e ∙ ap (λ (b : Bool). first (asker_reasons w t b)) is

own : (w : List ℕ) {qs : List LentOperation} {lent : List LentOperation} → lent ≡ qs → {n : ℕ}
    → n ≡ first (own_reasons (decode base w) lent) → n ≡ first (own_reasons (decode base w) qs)
own w is e = e ∙ ap (λ (l : List LentOperation). first (own_reasons (decode base w) l)) is

pub first_own-requires : goal.first_own-requires
first_own-requires c =
    let a = c.args in
    let none = asked a.book.now a.transaction a.operations.now c.too_many.ensures c.in_ok-asker.ensures in
    (asker_sound a.book.now a.transaction a.operations.now none).packed

pub returns-in_err-first_own : goal.returns-in_err-first_own
returns-in_err-first_own c =
    let a = c.args in
    let none = asked a.book.now a.transaction a.operations.now c.too_many.ensures c.in_ok-asker.ensures in
    let p = err_from_is_err_and c.from_residual-in_err-first_own.result c.from_residual-in_err-first_own.ensures.1 in
    rw (p.1, p.2)
    (own_refuses a.book.now a.transaction a.operations.now none c.in_err-first_own.field-0.0
    (own a.book.now c.lent-lent.ensures c.in_err-first_own.ensures))

pub returns-then-entry_count-lent-gt-ENTRIES : goal.returns-then-entry_count-lent-gt-ENTRIES
returns-then-entry_count-lent-gt-ENTRIES c =
    let a = c.args in
    let w = a.book.now in
    let qs = operations_in a.operations.now in
    let none = asked w a.transaction a.operations.now c.too_many.ensures c.in_ok-asker.ensures in
    limited w a.transaction a.operations.now none (own w c.lent-lent.ensures c.in_ok-first_own.ensures)
    (batch_full w a.transaction qs (asker_sound w a.transaction a.operations.now none).packed
    (omega (
      arith,
      c.if-entry_count-lent-gt-ENTRIES.true,
      c.entry_count.ensures,
      lent_length c.lent-lent.result.now,
      ap length c.lent-lent.ensures,
    )))

pub roomy-requires : goal.roomy-requires
roomy-requires c =
    let a = c.args in
    let w = a.book.now in
    let none = asked w a.transaction a.operations.now c.too_many.ensures c.in_ok-asker.ensures in (
      asker_sound w a.transaction a.operations.now none,
      subst (λ (l : List LentOperation). Silent (own_reasons (decode base w) l)) (sym c.lent-lent.ensures)
          (own_silent w a.transaction a.operations.now none
          (own w c.lent-lent.ensures c.in_ok-first_own.ensures)),
    )

pub returns : goal.returns
returns c =
    let a = c.args in
    let w = a.book.now in
    let qs = operations_in a.operations.now in
    let none = asked w a.transaction a.operations.now c.too_many.ensures c.in_ok-asker.ensures in
    limited w a.transaction a.operations.now none (own w c.lent-lent.ensures c.in_ok-first_own.ensures)
    (batch_within w a.transaction qs (asker_sound w a.transaction a.operations.now none).packed
    (omega (
      arith,
      c.if-entry_count-lent-gt-ENTRIES.false,
      c.entry_count.ensures,
      lent_length c.lent-lent.result.now,
      ap length c.lent-lent.ensures,
    ))
    (c.roomy.ensures a.transaction
    ∙ ap (λ (l : List LentOperation). first (row_limits a.transaction w l)) c.lent-lent.ensures))
