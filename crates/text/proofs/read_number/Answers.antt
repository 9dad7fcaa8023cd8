-- `text::read_number`: the bytes passed are digits, and say the value.
use Rattle.std.proofs.Common.{◌≤◌, ◌∙◌, sym, ap, arith, length, eqb-true}
use Rattle.std.proofs.lemmas.Bool.{eqb-false}
use Rattle.text.specs.Fields.{number_said}
use Rattle.text.proofs.Laws.Numbers.{stops, overflows, said, empty, too_long}
use Rattle.text.proofs.read_number.Goals.{then-is_empty-via-then-is_empty}
use Rattle.text.proofs.read_number.Goals.{then-is_empty-via-else-is_empty+then-field-gt-MOST_DIGITS}
use Rattle.text.proofs.read_number.Goals as goal

pub returns-then-is_empty : goal.returns-then-is_empty
returns-then-is_empty c =
    let field = c.args.field.now in
    elim c.then-is_empty.branch [
      | then-is_empty-via-then-is_empty w ↦ empty field (eqb-true _ 0 (sym (w.if-is_empty.ensures)))
      | then-is_empty-via-else-is_empty+then-field-gt-MOST_DIGITS w ↦ too_long field w.if-field-gt-MOST_DIGITS.true
    ]

pub returns-then-not-is_ascii_digit : goal.returns-then-not-is_ascii_digit
returns-then-not-is_ascii_digit c =
    stops c.loop-byte.invariant c.loop-byte-test.true (sym c.if-not-is_ascii_digit.ensures.value)

pub returns-in_err-checked_mul : goal.returns-in_err-checked_mul
returns-in_err-checked_mul c =
    ap number_said c.from_residual.ensures
    ∙ overflows c.loop-byte.invariant c.loop-byte-test.true (omega (arith, c.in_err-checked_mul.ensures))

pub returns-in_err-value : goal.returns-in_err-value
returns-in_err-value c =
    ap number_said c.from_residual-in_err-value.ensures
    ∙ overflows c.loop-byte.invariant c.loop-byte-test.true
    (omega (arith, c.in_ok-checked_mul.ensures, c.in_err-value.ensures, c.from.ensures))

pub returns : goal.returns
returns c =
    let some : 1 ≤ length c.args.field.now = omega (arith, eqb-false _ 0 (sym c.if-is_empty.ensures)) in
    said c.loop-byte.invariant c.loop-byte-test.false some (omega arith)
