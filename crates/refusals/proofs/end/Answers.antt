-- The tests in order.
use Rattle.std.proofs.Common.{ℕ, ◌≡◌, ◌≤◌, refl, not, ◌∙◌, true, false, ltb, List, [], ◌∷◌, length, le-ltb, arith}
use Rattle.std.proofs.Common.{Option, Some, None, Ok, Err}
use Rattle.std.specs.Option.{is_some, ok_or}
use Rattle.std.proofs.lemmas.Result.{err_from_is_err_and}
use Rattle.protocol.specs.Refusals.{refusal_number}
use Rattle.protocol.specs.declared.Refusal.{Refusal}
use Rattle.store.specs.Layout.{base, decode}
use Rattle.protocol.specs.Calls.{above_last, not_active}
use Rattle.refusals.specs.Laws.{applies, passed, refused, soundness, past_length, past_number}
use Rattle.refusals.proofs.end.Goals as goal

-- What was found of a sound book is handed on,
was_some : (o : Option ℕ) (r : Refusal) (finished : ℕ) → Ok finished ≡ ok_or o r → not (is_some o) ≡ false
was_some (Some found) r finished e = refl
was_some None r finished e = cc

-- and nothing was found of another.
was_none : (o : Option ℕ) (r reason : Refusal) → Err reason ≡ ok_or o r
    → (not (is_some o) ≡ true) × (refusal_number reason ≡ refusal_number r)
was_none (Some found) r reason e = cc
was_none None r reason e = (refl, cc)

long_list : (list : List ℕ) (len : ℕ) → length list ≡ len → 64 ≤ len → ltb (length list) 64 ≡ false
long_list list len e l = le-ltb (length list) 64 (omega arith)

pub returns-in_err-finished-clause-reason : goal.returns-in_err-finished-clause-reason
returns-in_err-finished-clause-reason c list e =
    let w = c.args.book.now in
    let p = err_from_is_err_and c.from_residual-in_err-finished.result c.from_residual-in_err-finished.ensures.1 in
    let none = was_none c.args.examined _ c.in_err-finished.field-0.0 c.in_err-finished.ensures.value in
    rw (p.1, p.2)
    (past_length w c.in_ok-long.ensures
    (passed 2 (long_list list c.args.len e c.if-len-lt-LIST.false)
    (none.1 ∙ applies 4 _ (soundness w c.requires ∙ none.0))))

pub returns-in_err-numbered-clause-reason : goal.returns-in_err-numbered-clause-reason
returns-in_err-numbered-clause-reason c list e =
    let w = c.args.book.now in
    let p = err_from_is_err_and c.from_residual-in_err-numbered.result c.from_residual-in_err-numbered.ensures.1 in
    let is_some = was_some c.args.examined _ _ c.in_ok-finished.ensures.value in
    rw (p.1, p.2)
    (past_length w c.in_ok-long.ensures
    (passed 2 (long_list list c.args.len e c.if-len-lt-LIST.false)
    (passed 4 (soundness w c.requires ∙ is_some)
    (refused ((5, above_last c.args.transaction) ∷ []) ((7, not_active (decode base w) c.args.transaction) ∷ [])
    c.in_err-numbered.field-0.0 c.in_err-numbered.ensures))))

pub returns-in_err-active-clause-reason : goal.returns-in_err-active-clause-reason
returns-in_err-active-clause-reason c list e =
    let w = c.args.book.now in
    let p = err_from_is_err_and c.from_residual-in_err-active.result c.from_residual-in_err-active.ensures.1 in
    let is_some = was_some c.args.examined _ _ c.in_ok-finished.ensures.value in
    rw (p.1, p.2)
    (past_length w c.in_ok-long.ensures
    (passed 2 (long_list list c.args.len e c.if-len-lt-LIST.false)
    (passed 4 (soundness w c.requires ∙ is_some)
    (past_number c.args.transaction c.in_ok-numbered.ensures c.in_err-active.ensures))))

pub returns-clause-reason : goal.returns-clause-reason
returns-clause-reason c list e =
    let w = c.args.book.now in
    let is_some = was_some c.args.examined _ _ c.in_ok-finished.ensures.value in
    past_length w c.in_ok-long.ensures
    (passed 2 (long_list list c.args.len e c.if-len-lt-LIST.false)
    (passed 4 (soundness w c.requires ∙ is_some)
    (past_number c.args.transaction c.in_ok-numbered.ensures c.in_ok-active.ensures)))
