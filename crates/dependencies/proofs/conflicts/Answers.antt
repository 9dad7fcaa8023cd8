-- `dependencies::conflicts`: a turn adds the owners that bar its entry.
use Rattle.std.proofs.Common.{◌≡◌, ◌<◌, sym, ap, ◌∙◌, length, arith, length-set}
use Rattle.std.proofs.lemmas.List.{get_or-take, length-take-le}
use Rattle.store.specs.Layout.{word}
use Rattle.representatives.specs.Laws.Reading.{readable}
use Rattle.dependencies.specs.Laws.Gathering.{dependencies_none, dependencies_more, unrecoverable_none}
use Rattle.dependencies.specs.Laws.Gathering.{unrecoverable_more, decided, decided_none}
use Rattle.dependencies.proofs.conflicts.Goals as goal

pub returns-then-count-eq0 : goal.returns-then-count-eq0
returns-then-count-eq0 c =
    decided_none c.args.book.now c.requires.2 _ c.requires.4 (sym c.entry_count-count.ensures ∙ c.if-count-eq0.true)

pub loop-i-init : goal.loop-i-init
loop-i-init c = (
  ap length c.requires.4,
  dependencies_none c.args.book.now _ c.requires.4,
  unrecoverable_none c.args.book.now,
  c.new-rows.ensures c.args.book.now,
  c.new-chains.ensures c.args.book.now,
)

pub twin-twin-requires : goal.twin-twin-requires
twin-twin-requires c =
    let read = readable c.args.book.now c.requires.1 c.requires.2 c.requires.0 in
    ((read, omega (arith, c.loop-i-test.true, c.entry_count-count.ensures)), c.loop-i.invariant.4)

pub enter-found-requires : goal.enter-found-requires
enter-found-requires c =
    let read = readable c.args.book.now c.requires.1 c.requires.2 c.requires.0 in
    let l : c.loop-i.i < word c.args.book.now 0 = omega (arith, c.loop-i-test.true, c.entry_count-count.ensures) in
    let below : c.loop-i.i < c.entry_count-count.result = omega (arith, l, c.entry_count-count.ensures) in (
      (read, l),
      rw (get_or-take c.entry_count-count.result c.args.representatives.now c.loop-i.i 0 below)
          (c.requires.3.each c.loop-i.i l),
      c.twin-twin.ensures.0,
      c.loop-i.invariant.3,
    )

pub bounds-dependencies-requester : goal.bounds-dependencies-requester
bounds-dependencies-requester c =
    let read = readable c.args.book.now c.requires.1 c.requires.2 c.requires.0 in
    let l : c.loop-i.i < word c.args.book.now 0 = omega (arith, c.loop-i-test.true, c.entry_count-count.ensures) in
    omega (arith, c.entry_transaction-requester.ensures, read.transactions c.loop-i.i l)

pub bounds-dependencies-requester-in-loop-i : goal.bounds-dependencies-requester-in-loop-i
bounds-dependencies-requester-in-loop-i c =
    let read = readable c.args.book.now c.requires.1 c.requires.2 c.requires.0 in
    let l : c.loop-i.i < word c.args.book.now 0 = omega (arith, c.loop-i-test.true, c.entry_count-count.ensures) in
    omega (arith, c.entry_transaction-requester.ensures, read.transactions c.loop-i.i l)

pub loop-i-preserved : goal.loop-i-preserved
loop-i-preserved c =
    let book = c.args.book.now in
    let read = readable book c.requires.1 c.requires.2 c.requires.0 in
    let l : c.loop-i.i < word book 0 = omega (arith, c.loop-i-test.true, c.entry_count-count.ensures) in
    let (long, depends, unrecoverable, gathered, chained) = c.loop-i.invariant in
    let found = c.enter-found.ensures in
    let within : c.entry_transaction-requester.result < length c.loop-i.dependencies = omega (
      arith,
      c.entry_transaction-requester.ensures,
      read.transactions c.loop-i.i l,
      long,
    ) in (
      simp length-set long,
      dependencies_more book c.loop-i.dependencies c.loop-i.i _ _ _ c.entry_transaction-requester.ensures within depends
          found.0.conflictings c.join.ensures,
      unrecoverable_more book c.loop-i.i _ _ _ unrecoverable found.0.unrecoverables c.join-unrecoverable.ensures,
      found.1,
      c.twin-twin.ensures.1,
    )

pub returns : goal.returns
returns c =
    let book = c.args.book.now in
    let read = readable book c.requires.1 c.requires.2 c.requires.0 in
    let whole = length-take-le c.entry_count-count.result c.args.representatives.now
    (omega (arith, c.entry_count-count.ensures, read.entries, c.requires.3.entries)) in
    let e : c.loop-i.i ≡ word book 0 = omega (
      arith,
      c.loop-i-test.false,
      c.loop-i.auto.i-end,
      whole,
      c.entry_count-count.ensures,
    ) in
    let (long, depends, unrecoverable, gathered, chained) = c.loop-i.invariant in
    let (recoverable, represented) =
    decided book c.requires.2 c.loop-i.dependencies c.loop-i.unrecoverable (rw e at depends) (rw e at unrecoverable) in
    (recoverable, long, represented)
