-- `lines::read_line`: the fields as they come, the first of them the letter.
use Rattle.std.proofs.Common.{◌∙◌, sym, ap, arith, rules, get_or}
use Rattle.std.proofs.lemmas.List.{map-append}
use borrow.Author.Tests.{tests}
use Rattle.std.proofs.Math.Option.{some}
use Rattle.lines.specs.Coded.{call_said}
use Rattle.lines.specs.Lines.{call_in, call_of_fields, asked, numbers_in}
use Rattle.lines.proofs.Laws.Fields.{numbers_pushed, no_number, too_many_fields, all_read}
use Rattle.lines.proofs.Laws.Fields.{no_second, no_letter, last_passed, another}
use Rattle.lines.proofs.read_line.Goals as goal

pub returns-then-line-ne-SPACE : goal.returns-then-line-ne-SPACE
unfolding call_in
returns-then-line-ne-SPACE c =
    no_second c.args.line.now (omega (arith, c.if-line-gt1.true)) c.if-line-ne-SPACE.true

pub returns-in_default : goal.returns-in_default
unfolding call_in
returns-in_default c =
    let split = c.split-fields.ensures in
    no_letter c.split-fields.result c.next.new.self c.in_ok-first.first c.in_ok-first.ensures.steps
    c.args.line.now split.rest split.done split.closure (λ x r q k. search (rules, tests))
    (λ one. omega (arith, c.in_default.len_below))

pub returns-in_default-2 : goal.returns-in_default-2
unfolding call_in
returns-in_default-2 c =
    let split = c.split-fields.ensures in
    no_letter c.split-fields.result c.next.new.self c.in_ok-first.first c.in_ok-first.ensures.steps
    c.args.line.now split.rest split.done split.closure (λ x r q k. search (rules, tests))
    (λ one. omega (arith, c.in_default.len_at_least))

pub returns-in_err-read_number : goal.returns-in_err-read_number
unfolding call_in
returns-in_err-read_number c =
    let first = c.in_ok-first.first in
    let loop = c.loop-field in
    let split = c.split-fields.ensures in
    let (more, all) = another c.split-fields.result c.next.new.self first c.in_ok-first.ensures.steps
    c.args.line.now split.rest split.done split.closure (λ x r q k. search (rules, tests))
    c.into_iter-field-iterator.result loop.field-iterator c.next-in-loop-field.new.self
    c.into_iter-field-iterator.ensures.into_iter_gives loop.yielded loop.yielded_by
    c.in-Some.field c.in-Some.ensures.steps in
    ap call_said c.from_residual-in_err-read_number.ensures
    ∙ no_number first.now (omega arith) _ loop.invariant c.in-Some.field.now more c.in_err-read_number.ensures
    ∙ ap call_of_fields (sym all)

pub returns-in_err-ok : goal.returns-in_err-ok
unfolding call_in
returns-in_err-ok c =
    let first = c.in_ok-first.first in
    let loop = c.loop-field in
    let split = c.split-fields.ensures in
    let (more, all) = another c.split-fields.result c.next.new.self first c.in_ok-first.ensures.steps
    c.args.line.now split.rest split.done split.closure (λ x r q k. search (rules, tests))
    c.into_iter-field-iterator.result loop.field-iterator c.next-in-loop-field.new.self
    c.into_iter-field-iterator.ensures.into_iter_gives loop.yielded loop.yielded_by
    c.in-Some.field c.in-Some.ensures.steps in
    ap call_said c.from_residual-in_err-ok.ensures
    ∙ too_many_fields first.now (omega arith) _ loop.invariant c.in-Some.field.now more
    (grind (arith, c.in_err-ok.ensures.value, c.try_push.ensures.full))
    ∙ ap call_of_fields (sym all)

pub returns : goal.returns
unfolding call_in
returns c =
    let first = c.in_ok-first.first in
    let loop = c.loop-field in
    let split = c.split-fields.ensures in
    let all = last_passed c.split-fields.result c.next.new.self first c.in_ok-first.ensures.steps
    c.args.line.now split.rest split.done split.closure (λ x r q k. search (rules, tests))
    c.into_iter-field-iterator.result loop.field-iterator c.next-in-loop-field.new.self
    c.into_iter-field-iterator.ensures.into_iter_gives loop.yielded loop.yielded_by
    c.in-None.ensures.steps in
    c.line_of.ensures ∙ ap (asked (get_or first.now 0 0)) c.deref.ensures.0
    ∙ all_read first.now (omega arith) _ loop.invariant
    ∙ ap call_of_fields (sym all)

pub loop-field-preserved : goal.loop-field-preserved
loop-field-preserved c =
    ap numbers_in (map-append (λ x. x.now) c.loop-field.yielded _)
    ∙ numbers_pushed _ c.loop-field.invariant c.in-Some.field.now c.in_ok-read_number.ensures
    ∙ ap some (grind (arith, c.in_ok-ok.ensures.value, c.try_push.ensures.ok))
