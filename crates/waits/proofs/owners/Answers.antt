-- The set found, and what is left to scan, tell whom the request waits for.
use Rattle.std.proofs.Common.{◌∙◌, arith}
use Rattle.operations.specs.Operations as model
use Rattle.store.specs.Layout.{operation_at}
use Rattle.entry_log.specs.Log.{StoredAs}
use Rattle.waits.specs.Laws.Rules.{within, Pair, Ruled, coded, always_yes, same_keys, other_keys, otherwise_no}
use Rattle.waits.specs.Laws.Scan.{scan_start, scan_end, AtEntry, at_entry, pass_own, pass_other, pass_recoverable}
use Rattle.waits.specs.Laws.Scan.{owner_below, add_owner, paired}
use Rattle.waits.proofs.owners.Goals as goal
use Rattle.waits.proofs.owners.Goals.{After-of, Joined-of}
use Rattle.waits.proofs.owners.Goals.{then-owner-transaction-via-then-owner-transaction}
use Rattle.waits.proofs.owners.Goals.{then-owner-transaction-via-else-owner-transaction+then-on-object}
use Rattle.waits.proofs.owners.Goals.{in-Stack, in-Set, in-Table, in-2+else-requested-logged, in_default}

pub scan-init : goal.scan-init
scan-init c = scan_start c.args.book.now c.args.transaction c.args.object c.args.requested

-- Its own, or another object's.
pub scan-preserved-then-owner-transaction : goal.scan-preserved-then-owner-transaction
scan-preserved-then-owner-transaction c =
    let at = at_entry c.requires c.scan.invariant c.if-i-entries.false c.entry_count-entries.ensures
    c.entry_transaction-owner.ensures c.entry_object-on.ensures in
    elim c.then-owner-transaction.branch [
      | then-owner-transaction-via-then-owner-transaction v ↦ pass_own at v.if-owner-transaction.true
      | then-owner-transaction-via-else-owner-transaction+then-on-object v ↦ pass_other at v.if-on-object.true
    ]

-- ---- Another's entry on the object

entry : (c : After-of) → AtEntry c.args.book.now c.args.transaction c.args.object c.args.requested c.scan.set c.scan.i
    c.entry_transaction-owner.result c.entry_object-on.result
entry c =
    at_entry c.requires c.scan.invariant c.if-i-entries.false c.entry_count-entries.ensures
    c.entry_transaction-owner.ensures c.entry_object-on.ensures

pair : (c : After-of) → (o : model.Operation) → StoredAs c.args.requested o
    → Pair c.args.requested c.entry_operation-logged.result o (operation_at c.args.book.now c.scan.i)
pair c =
    paired (entry c) c.if-on-object.false c.entry_operation-logged.result c.entry_operation-logged.ensures

asked_pair : (c : After-of) → Pair c.args.requested c.entry_operation-logged.result c.requires.kinded.0
    (operation_at c.args.book.now c.scan.i)
asked_pair c = let (o, s, k) = c.requires.kinded in pair c o s

ruled : (c : Joined-of) → {o p : model.Operation} → Pair c.args.requested c.entry_operation-logged.result o p
    → Ruled c.args.requested c.entry_operation-logged.result o p c.match-of.rule
ruled c both =
    elim c.match-of.branch [
      | in-Stack v ↦ coded both v.in-Stack.ensures (v.rule-is ∙ v.stack_recoverable-rule.ensures)
      | in-Set v ↦ coded both v.in-Set.ensures (v.rule-is ∙ v.set_recoverable-rule.ensures)
      | in-Table v ↦ coded both v.in-Table.ensures (v.rule-is ∙ v.table_recoverable-rule.ensures)
    ]

pub stack_recoverable-rule-requires : goal.stack_recoverable-rule-requires
stack_recoverable-rule-requires c =
    within (asked_pair (goal.at.stack_recoverable-rule-requires c).After-of) c.in-Stack.ensures

pub set_recoverable-rule-requires : goal.set_recoverable-rule-requires
set_recoverable-rule-requires c =
    within (asked_pair (goal.at.set_recoverable-rule-requires c).After-of) c.in-Set.ensures

pub table_recoverable-rule-requires : goal.table_recoverable-rule-requires
table_recoverable-rule-requires c =
    within (asked_pair (goal.at.table_recoverable-rule-requires c).After-of) c.in-Table.ensures

pub scan-preserved-in-1 : goal.scan-preserved-in-1
scan-preserved-in-1 c =
    let place = goal.at.scan-preserved-in-1 c in
    pass_recoverable (entry place.After-of) c.if-owner-transaction.false c.if-on-object.false
    (λ o s. always_yes (ruled place.Joined-of (pair place.After-of o s)) c.in-1.is)

pub scan-preserved-then-requested-logged : goal.scan-preserved-then-requested-logged
scan-preserved-then-requested-logged c =
    let place = goal.at.scan-preserved-then-requested-logged c in
    pass_recoverable (entry place.After-of) c.if-owner-transaction.false c.if-on-object.false
    (λ o s. other_keys (ruled place.Joined-of (pair place.After-of o s)) c.in-2.is c.if-requested-logged.true)

pub single-requires : goal.single-requires
single-requires c = owner_below (entry (goal.at.single-requires c).After-of)

-- An entry forces the wait where the rule is not `always`, and not `apart` with other keys.
pub scan-preserved : goal.scan-preserved
scan-preserved c =
    let place = goal.at.scan-preserved c in
    add_owner (entry place.After-of) c.if-owner-transaction.false c.if-on-object.false
    (λ o s.
    let by = ruled place.Joined-of (pair place.After-of o s) in
    elim c.match-rule.branch [
      | in-2+else-requested-logged v ↦ same_keys by v.in-2.is v.if-requested-logged.false
      | in_default v ↦ otherwise_no by (λ e. omega arith) (λ e. omega arith)
    ])
    c.single.result c.join-set.result c.single.ensures c.join-set.ensures

pub returns : goal.returns
returns c =
    scan_end c.args.book.now c.args.transaction c.args.object c.args.requested c.scan.set c.scan.i c.scan.invariant
    (omega (arith, c.if-i-entries.true, c.entry_count-entries.ensures))
