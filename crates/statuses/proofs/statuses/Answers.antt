use Rattle.std.proofs.Common.{◌≡◌, ◌-◌, true, false, ◌||◌, ◌&&◌, ◌↔◌, ap, ltb, eqb, lt-ltb, rules, arith}
use Rattle.std.specs.Prelude.{MatchOption, None}
use borrow.Author.Tests.{le-ltb}
use mathlib.Core.Logic.Iff
use Rattle.bitset.specs.Bitset.{has, Members}
use Rattle.store.specs.Layout.{read_status}
use Rattle.statuses.specs.Statuses.{Noted, Joined, Downward}
use Rattle.statuses.specs.Laws.Words.{own_word, own_words, noted_none, noted_rank}
use Rattle.statuses.specs.Laws.Sets.{with_one, marked_with, marked_not, ordered}
use Rattle.statuses.specs.Laws.Pass.{pass_start, pass_turn, pass_end}
use Rattle.statuses.proofs.statuses.Goals as goal

pub loop-transaction-init : goal.loop-transaction-init
loop-transaction-init c = pass_start c.args.book.now

pub loop-transaction-preserved : goal.loop-transaction-preserved
loop-transaction-preserved c =
    let loop = c.loop-transaction in
    let n = loop.transaction in
    let status = own_word c.args.book.now n in
    let live : Members c.if-status-ne-ABSENT.live (λ h. has loop.live h || (ltb 0 status && eqb h n)) =
    elim c.if-status-ne-ABSENT.branch [
      | goal.then-status-ne-ABSENT w ↦ rw w.live-is
          (marked_with loop.live n (ltb 0 status) w.join-live.result
          (lt-ltb 0 status (omega (arith, w.if-status-ne-ABSENT.true)))
          (with_one loop.live n c.single-own.result w.join-live.result c.single-own.ensures w.join-live.ensures))
      | goal.else-status-ne-ABSENT w ↦ rw w.live-is
          (marked_not loop.live n (ltb 0 status) (ap (ltb 0) w.if-status-ne-ABSENT.false))
    ]
    in
    let finished : Members c.if-status-gt-ACTIVE.finished (λ h. has loop.finished h || (ltb 1 status && eqb h n)) =
    elim c.if-status-gt-ACTIVE.branch [
      | goal.then-status-gt-ACTIVE w ↦ rw w.finished-is
          (marked_with loop.finished n (ltb 1 status) w.join-finished.result
          (lt-ltb 1 status w.if-status-gt-ACTIVE.true)
          (with_one loop.finished n c.single-own.result w.join-finished.result
          c.single-own.ensures w.join-finished.ensures))
      | goal.else-status-gt-ACTIVE w ↦ rw w.finished-is
          (marked_not loop.finished n (ltb 1 status) (le-ltb 1 status w.if-status-gt-ACTIVE.false))
    ]
    in
    let noted : Noted (read_status status) loop.ranks c.if-status-gt-ACTIVE.ranks =
    elim c.if-status-gt-ACTIVE.branch [
      | goal.then-status-gt-ACTIVE w ↦
          (let joined : MatchOption loop.ranks (w.and_then-ranks.result ≡ None)
          (λ seen. Joined seen (status - 2) w.and_then-ranks.result) = search rules in
          rw w.ranks-is (noted_rank loop.ranks w.and_then-ranks.result status w.if-status-gt-ACTIVE.true joined))
      | goal.else-status-gt-ACTIVE w ↦ rw w.ranks-is
          (noted_none loop.ranks status (omega (arith, w.if-status-gt-ACTIVE.false)))
    ]
    in
    pass_turn c.args.book.now n loop.live loop.finished loop.ranks loop.invariant
    (omega (arith, own_words c.args.book.now c.requires, c.loop-transaction-test.true))
    c.if-status-ne-ABSENT.live c.if-status-gt-ACTIVE.finished c.if-status-gt-ACTIVE.ranks live finished noted

pub returns : goal.returns
returns c =
    let loop = c.loop-transaction in
    let e : loop.transaction ≡ 64 = omega (arith, own_words c.args.book.now c.requires) in
    let found = pass_end c.args.book.now loop.transaction loop.live loop.finished loop.ranks e loop.invariant in
    let tells : MatchOption loop.ranks (c.is_some_and.result ≡ false)
    (λ seen. (c.is_some_and.result ≡ true) ↔ Downward seen) = search rules in
    (found.0, found.1, Iff.trans (ordered loop.ranks c.is_some_and.result tells) found.2)
