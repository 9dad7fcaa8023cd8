-- Reasons of who asks, the operation's own, and the limits.
use Rattle.std.proofs.Common.{refl, sym, ◌∙◌, [], ◌∷◌, arith, le-leb}
use Rattle.std.proofs.lemmas.Bool.{lt-leb}
use Rattle.std.proofs.lemmas.Result.{err_from_is_err_and}
use Rattle.store.specs.Layout.{base, decode}
use Rattle.refusals.specs.Laws.{applies, passed, log_full_lem, log_room, no_room_lem, needs_none, has_room}
use Rattle.refusals.specs.Laws.{asker_sound, own_refuses, own_silent, limited, lent_below}
use Rattle.refusals.proofs.operate.Goals as goal
use Rattle.refusals.proofs.operate.Goals.{else-rows_needed-eq1-via-then-rows_needed-eq1+else-used-ge-ROWS}
use Rattle.refusals.proofs.operate.Goals.{else-rows_needed-eq1-via-else-rows_needed-eq1}

pub own-requires : goal.own-requires
own-requires c =
    let a = c.args in
    (asker_sound a.book.now a.transaction (a.object ∷ a.number ∷ 0 ∷ 0 ∷ []) c.in_ok-asker.ensures).packed

pub returns-in_err-own : goal.returns-in_err-own
returns-in_err-own c k v =
    let a = c.args in
    let p = err_from_is_err_and c.from_residual-in_err-own.result c.from_residual-in_err-own.ensures.1 in
    rw (p.1, p.2)
    (own_refuses a.book.now a.transaction (a.object ∷ a.number ∷ k ∷ v ∷ []) c.in_ok-asker.ensures
    c.in_err-own.field-0.0 c.in_err-own.ensures)

pub returns-then-entry_count-eq-ENTRIES : goal.returns-then-entry_count-eq-ENTRIES
returns-then-entry_count-eq-ENTRIES c k v =
    let a = c.args in
    limited a.book.now a.transaction (a.object ∷ a.number ∷ k ∷ v ∷ []) c.in_ok-asker.ensures c.in_ok-own.ensures
    (applies _ _ (log_full_lem a.book.now (sym c.entry_count.ensures ∙ c.if-entry_count-eq-ENTRIES.true)))

pub used-requires : goal.used-requires
used-requires c =
    let a = c.args in
    let operations = a.object ∷ a.number ∷ 0 ∷ 0 ∷ [] in (
      (asker_sound a.book.now a.transaction operations c.in_ok-asker.ensures).packed,
      lent_below (operations ∷ []) a.book.now
          (own_silent a.book.now a.transaction operations c.in_ok-asker.ensures c.in_ok-own.ensures) 0 (omega arith),
    )

pub returns-then-used-ge-ROWS : goal.returns-then-used-ge-ROWS
returns-then-used-ge-ROWS c k v =
    let a = c.args in
    let w = a.book.now in
    let operations = a.object ∷ a.number ∷ k ∷ v ∷ [] in
    limited w a.transaction operations c.in_ok-asker.ensures c.in_ok-own.ensures
    (passed _
    (log_room w (asker_sound w a.transaction operations c.in_ok-asker.ensures).packed
    (λ e. c.if-entry_count-eq-ENTRIES.false (c.entry_count.ensures ∙ e)))
    (applies _ _
    (no_room_lem (decode base w) a.object a.number k v c.rows_needed.ensures c.if-rows_needed-eq1.true c.used.ensures
    (le-leb 64 _ c.if-used-ge-ROWS.true))))

pub returns : goal.returns
returns c k v =
    let a = c.args in
    let w = a.book.now in
    let operations = a.object ∷ a.number ∷ k ∷ v ∷ [] in
    limited w a.transaction operations c.in_ok-asker.ensures c.in_ok-own.ensures
    (passed _
    (log_room w (asker_sound w a.transaction operations c.in_ok-asker.ensures).packed
    (λ e. c.if-entry_count-eq-ENTRIES.false (c.entry_count.ensures ∙ e)))
    (passed _
    (elim c.else-rows_needed-eq1.branch [
      | else-rows_needed-eq1-via-then-rows_needed-eq1+else-used-ge-ROWS x ↦
          has_room (decode base w) a.object a.number k v x.used.ensures (lt-leb 64 _ x.if-used-ge-ROWS.false)
      | else-rows_needed-eq1-via-else-rows_needed-eq1 x ↦
          needs_none (decode base w) a.object a.number k v c.rows_needed.ensures x.if-rows_needed-eq1.false
    ]) refl))
