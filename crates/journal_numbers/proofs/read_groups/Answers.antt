-- `read_groups`: what the groups that are left come to, behind those that were read, is the number.
use Rattle.std.proofs.Common.{◌≡◌, ◌≤◌, ◌<◌, ◌+◌, ◌-◌, length, get_or, arith}
use Rattle.std.proofs.lemmas.Grind.{common_steps}
use Rattle.journal_numbers.specs.Laws.Reads.{failed}
use Rattle.journal_numbers.specs.Laws.Numbers.{grouping_starts, grouping_goes_on, groups_cut}
use Rattle.journal_numbers.specs.Laws.Numbers.{within_words, long_form_lem, too_wide, number_is}
use Rattle.journal_numbers.proofs.read_groups.Goals as goal

pub loop-i-init : goal.loop-i-init
loop-i-init c =
    grouping_starts c.args.bytes.now c.args.at c.args.low c.requires.0 c.requires.1 c.requires.2 c.requires.3

pub returns-in_default : goal.returns-in_default
returns-in_default c =
    let past : length c.args.bytes.now ≤ c.args.at + c.loop-i.i = grind (arith, common_steps) in
    failed (cc)
    (groups_cut c.args.bytes.now c.args.at c.loop-i.value c.loop-i.scale c.loop-i.i c.loop-i.invariant
    c.loop-i-test.true past)

pub returns-then-group-eq0 : goal.returns-then-group-eq0
returns-then-group-eq0 c =
    let place = c.args.at + c.loop-i.i in
    let inside : place < length c.args.bytes.now = grind (arith, common_steps) in
    let there : c.in-Some.byte.now ≡ get_or c.args.bytes.now place 0 = grind (arith, common_steps) in
    failed (cc)
    (long_form_lem c.args.bytes.now c.args.at c.loop-i.value c.loop-i.scale c.loop-i.i c.loop-i.invariant
    c.loop-i-test.true _ inside there (omega arith) c.if-group-eq0.true)

pub returns-in_default-try_from : goal.returns-in_default-try_from
returns-in_default-try_from c =
    let place = c.args.at + c.loop-i.i in
    let inside : place < length c.args.bytes.now = grind (arith, common_steps) in
    let there : c.in-Some.byte.now ≡ get_or c.args.bytes.now place 0 = grind (arith, common_steps) in
    failed (cc)
    (too_wide c.args.bytes.now c.args.at c.loop-i.value c.loop-i.scale c.loop-i.i c.loop-i.invariant
    c.loop-i-test.true _ inside there c.if-group-lt-GROUP.true c.if-group-eq0.false
    (omega (arith, c.in_default-try_from.ensures)))

pub returns-then-group-lt-GROUP : goal.returns-then-group-lt-GROUP
returns-then-group-lt-GROUP c =
    let place = c.args.at + c.loop-i.i in
    let inside : place < length c.args.bytes.now = grind (arith, common_steps) in
    let there : c.in-Some.byte.now ≡ get_or c.args.bytes.now place 0 = grind (arith, common_steps) in
    number_is c.args.bytes.now c.args.at c.loop-i.value c.loop-i.scale c.loop-i.i c.loop-i.invariant
    c.loop-i-test.true _ inside there c.if-group-lt-GROUP.true c.if-group-eq0.false _ c.in-Ok.ensures.1
    (omega (arith, c.in-Ok.ensures.0))

pub loop-i-preserved : goal.loop-i-preserved
loop-i-preserved c =
    let place = c.args.at + c.loop-i.i in
    let inside : place < length c.args.bytes.now = grind (arith, common_steps) in
    let there : c.in-Some.byte.now ≡ get_or c.args.bytes.now place 0 = grind (arith, common_steps) in
    grouping_goes_on c.args.bytes.now c.args.at c.loop-i.value c.loop-i.scale c.loop-i.i c.loop-i.invariant
    c.loop-i-test.true _ inside there c.if-group-lt-GROUP.false (omega (arith, c.type_inv.bytes place))

pub overflow_mul-scale : goal.overflow_mul-scale
overflow_mul-scale c = omega (
  arith,
  within_words c.args.bytes.now c.args.at c.loop-i.value c.loop-i.scale c.loop-i.i c.loop-i.invariant
      c.loop-i-test.true c.in-Some.byte.now c.if-group-lt-GROUP.true,
)

pub overflow_add-value : goal.overflow_add-value
overflow_add-value c = omega (
  arith,
  within_words c.args.bytes.now c.args.at c.loop-i.value c.loop-i.scale c.loop-i.i c.loop-i.invariant
      c.loop-i-test.true c.in-Some.byte.now c.if-group-lt-GROUP.true,
)

pub overflow_mul-value : goal.overflow_mul-value
overflow_mul-value c =
    let there : c.in-Some.byte.now ≡ get_or c.args.bytes.now (c.args.at + c.loop-i.i) 0 = grind (arith, common_steps) in
    omega (
      arith,
      within_words c.args.bytes.now c.args.at c.loop-i.value c.loop-i.scale c.loop-i.i c.loop-i.invariant
          c.loop-i-test.true (c.in-Some.byte.now - 128) (omega (arith, c.type_inv.bytes (c.args.at + c.loop-i.i))),
    )

pub overflow_add-value-in-loop-i : goal.overflow_add-value-in-loop-i
overflow_add-value-in-loop-i c =
    let there : c.in-Some.byte.now ≡ get_or c.args.bytes.now (c.args.at + c.loop-i.i) 0 = grind (arith, common_steps) in
    omega (
      arith,
      within_words c.args.bytes.now c.args.at c.loop-i.value c.loop-i.scale c.loop-i.i c.loop-i.invariant
          c.loop-i-test.true (c.in-Some.byte.now - 128) (omega (arith, c.type_inv.bytes (c.args.at + c.loop-i.i))),
    )

pub overflow_mul-scale-in-loop-i : goal.overflow_mul-scale-in-loop-i
overflow_mul-scale-in-loop-i c = omega (
  arith,
  within_words c.args.bytes.now c.args.at c.loop-i.value c.loop-i.scale c.loop-i.i c.loop-i.invariant
      c.loop-i-test.true 1 (omega arith),
)
