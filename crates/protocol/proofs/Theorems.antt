-- What holds of the calls as `Calls` and `Ending` define them: where each is refused, and what it leaves; that each
-- operation is answered, told to wait, ordered behind another, finished, cancelled for a circle or committed exactly
-- where document 000's recoverability and commit protocol (sections 4.2.1 and 4.3), as 01 and 02 fix them, says so; and
-- what every call keeps.
use Rattle.std.specs.Prelude.{ℕ, ◌+◌, ◌*◌, ◌%◌, ◌^◌, ◌<◌, ◌≤◌, ◌≡◌, refl, true, false, ◌↔◌, ◌⊎◌, List, [], ◌∷◌, ◌++◌}
use Rattle.std.specs.Prelude.{map, length, get_or, replicate, take, drop}
use Rattle.std.proofs.Common.{sym, ap, ◌∙◌, subst, arith, length-set, get_or-set_same, get_or-set_other}
use Rattle.std.proofs.Math.Path.{subst⁻¹}
use Rattle.std.proofs.Math.Option.{some}
use Rattle.operations.specs.Operations.{Kind, Operation, Answer, answering, All, number_of, key_of, value_of, answer}
use Rattle.operations.specs.Operations.{next, reduce_key}
use Rattle.operations.specs.PairRules.{recoverable, commutes}
use Rattle.operations.specs.Log.{Entry, after}
use Rattle.bitset.specs.Bitset.{In, Holds, members, size}
use Rattle.store.specs.Store.{absent, active, pseudo_committed, Logged, Store, status_of, Active, PseudoCommitted}
use Rattle.store.specs.Store.{pseudo_committed_count, object_of, on_object}
use Rattle.store.specs.Dependency.{Any, DependsOn, Ready, Leads, PRED, SUCC, Meet}
use Rattle.store.specs.Layout.{decode, word, rows_start, read_kind, joined, row_words, Representable, base}
use Rattle.store.specs.Steps.{with_log, appended, without, with_status}
use Rattle.store.specs.Soundness.{Unsettled, Sound}
use Rattle.store.proofs.Decisions.{whether_sound}
use Rattle.store.proofs.Theorems.{representable, cycle_met, none_left}
use Rattle.store.proofs.Laws.Changes.{representable_status}
use Rattle.protocol.specs.Replies.{Served, ok, answered, wait, finished, committed, circle, cancelled, counted}
use Rattle.protocol.specs.Replies.{refused}
use Rattle.protocol.specs.Ending.{ended, commit, Settlement, settled_all}
use Rattle.protocol.specs.Calls.{LentOperation, lent_operation, operations_in, owners, request, awaited}
use Rattle.protocol.specs.Calls.{set_up_reason, set_up, begin_reason, begin, batch_reason, batch}
use Rattle.protocol.specs.Calls.{operate_reason, operate, end_reason, finish, cancel, contents_reason, contents}
use Rattle.protocol.specs.Calls as calls
use Rattle.protocol.specs.Call as calling
use Rattle.protocol.specs.Call.{Call, answered_operations, desk, reason_of, list_of}
use Rattle.protocol.specs.Terms.{SetUpAccepted, BeginAccepted, OperateAccepted, BatchAccepted, EndAccepted}
use Rattle.protocol.specs.Terms.{ContentsAccepted, BatchPremises, Has8, Has9, HasNeither, FirstOwn, SomeCrowded}
use Rattle.protocol.specs.Terms.{LowestReady, Places, Owner, Among, Ascends, in_order, without_all, Distinct}
use Rattle.protocol.proofs.Laws.Reasons.{set_up_accepted, set_up_accepts, begin_accepted, begin_accepts}
use Rattle.protocol.proofs.Laws.Reasons.{operate_accepted, operate_accepts, batch_accepted, batch_accepts}
use Rattle.protocol.proofs.Laws.Reasons.{end_accepted, end_accepts, contents_accepted, contents_accepts, too_many_lem}
use Rattle.protocol.proofs.Laws.Reasons.{too_many_exactly, own_reason, own_8, own_9, log_reason, row_reason}
use Rattle.protocol.proofs.Laws.Waiting.{held_exactly, none_owned, owned_exactly, owner_below, none_awaited}
use Rattle.protocol.proofs.Laws.Lent.{row_limit_lem}
use Rattle.protocol.proofs.Laws.Batches as batches
use Rattle.protocol.proofs.Laws.Listing.{listed_as}
use Rattle.protocol.proofs.Laws.Settling.{lowest_found, none_ready, settled_end, settled_step}
use Rattle.protocol.proofs.Laws.Protocol as protocol
use Rattle.protocol.proofs.Laws.Commits as commits
use Rattle.protocol.proofs.Laws.Concluding as concluding
use Rattle.protocol.proofs.Laws.Concluding.{EndLeaves}
use Rattle.protocol.proofs.Laws.Keeping.{emptied_sound}
use Rattle.protocol.proofs.Laws.Kept as kept
use Rattle.protocol.proofs.Laws.Leaving as leaving
use mathlib.Core.Logic.Iff

-- ---- Reasons for saying no

-- A call is refused exactly where a reason applies, with the first one's number,
pub refused_exactly : (call : Call) (w : List ℕ) (n : ℕ)
    → ((desk call w).outcome.reply ≡ refused n) ↔ ((reason_of call w ≡ n) × (n ≡ 0 → ⊥))
refused_exactly call w = leaving.refused_by (reason_of call w) w (list_of call) (desk call w) (leaving.guard call w)

-- and leaves book and list as they are, with an empty part handed back.
pub refused_untouched : (call : Call) (w : List ℕ) (n : ℕ) → (desk call w).outcome.reply ≡ refused n
    → ((desk call w).book ≡ w) × ((desk call w).outcome.list ≡ list_of call) × ((desk call w).outcome.rows ≡ [])
refused_untouched call w = leaving.untouched_by (reason_of call w) w (list_of call) (desk call w) (leaving.guard call w)

-- No reason applies exactly where a call may be served: the records say so clause by clause.
pub set_up_may : (w kinds : List ℕ) → (set_up_reason base w kinds ≡ 0) ↔ SetUpAccepted w kinds
set_up_may w kinds = (set_up_accepted base w kinds, set_up_accepts base w kinds)

pub begin_may : (w : List ℕ) (t : ℕ) → (begin_reason base whether_sound w t ≡ 0) ↔ BeginAccepted base w t
begin_may w t = (begin_accepted base whether_sound w t, begin_accepts base whether_sound w t)

pub operate_may : (w : List ℕ) (t o number k v : ℕ)
    → (operate_reason base whether_sound w t o number k v ≡ 0) ↔ OperateAccepted base w t o number k v
operate_may w t o number k v =
    (operate_accepted base whether_sound w t o number k v, operate_accepts base whether_sound w t o number k v)

pub batch_may : (w : List ℕ) (t : ℕ) (operations : List ℕ)
    → (batch_reason base whether_sound w t operations ≡ 0) ↔ BatchAccepted base w t operations
batch_may w t operations =
    (batch_accepted base whether_sound w t operations, batch_accepts base whether_sound w t operations)

pub end_may : (w : List ℕ) (t : ℕ) (list : List ℕ)
    → (end_reason base whether_sound w t list ≡ 0) ↔ EndAccepted base w t list
end_may w t list = (end_accepted base whether_sound w t list, end_accepts base whether_sound w t list)

pub contents_may : (w : List ℕ) (o : ℕ) → (contents_reason base whether_sound w o ≡ 0) ↔ ContentsAccepted base w o
contents_may w o = (contents_accepted base whether_sound w o, contents_accepts base whether_sound w o)

-- ---- Set up, begin and contents

-- Accepted, set up leaves an empty book of the kinds given, over any contents;
pub set_up_leaves : (w kinds : List ℕ) → set_up_reason base w kinds ≡ 0
    → ((set_up base w kinds).outcome.reply ≡ ok)
    × (decode base (set_up base w kinds).book
    ≡ record {
      statuses = replicate 64 absent;
      objects = map (λ k. record { kind = read_kind k; rows = [] }) kinds;
      log = [];
    })
set_up_leaves w kinds accepted =
    leaving.read_back (set_up base w kinds) _ (emptied_sound kinds (set_up_accepted base w kinds accepted).sixteen).1
    (leaving.set_up_served w kinds accepted)

-- begin leaves the transaction active, and all else as it was;
pub begin_leaves : (w : List ℕ) (t : ℕ) → begin_reason base whether_sound w t ≡ 0
    → ((begin base whether_sound w t).outcome.reply ≡ ok)
    × (decode base (begin base whether_sound w t).book ≡ with_status t active (decode base w))
begin_leaves w t accepted =
    let s = decode base w in
    let fits = representable w (begin_accepted base whether_sound w t accepted).sound.packed in
    leaving.read_back (begin base whether_sound w t) (with_status t active s) (representable_status s fits t active)
    (leaving.begin_served w t accepted)

-- of the book's words it changes one, the transaction's, which becomes 1;
pub begin_one_word : (w : List ℕ) (t : ℕ) → begin_reason base whether_sound w t ≡ 0
    → let after = (begin base whether_sound w t).book in
    (word after (1 + t) ≡ 1) × ((i : ℕ) → (i ≡ 1 + t → ⊥) → word after i ≡ word w i) × (length after ≡ length w)
begin_one_word w t accepted =
    let (written, within) = leaving.begin_written w t accepted in
    rw written
    (get_or-set_same w (1 + t) 1 0 within, λ i other. get_or-set_other w (1 + t) i 1 0 other, length-set w (1 + t) 1)

-- contents counts the object's rows, and hands them back, two words each, as that part of the book itself.
pub contents_leaves : (w : List ℕ) (o : ℕ) → contents_reason base whether_sound w o ≡ 0
    → let r = contents base whether_sound w o in
    let rows = (object_of (decode base w) o).rows in
    (r.outcome.reply ≡ counted (length rows)) × (r.book ≡ w) × (r.outcome.rows ≡ joined row_words rows)
    × (r.outcome.rows ≡ take (2 * length rows) (drop (rows_start o) w))
contents_leaves w o accepted =
    let so = leaving.contents_served w o accepted in
    let handed = ap (λ (r : Served). r.outcome.rows) so in (
      ap (λ (r : Served). r.outcome.reply) so,
      ap (λ (r : Served). r.book) so,
      handed,
      handed ∙ leaving.contents_part w o accepted,
    )

-- ---- Operate

module _ (w : List ℕ) (t o number k v : ℕ) (accepted : operate_reason base whether_sound w t o number k v ≡ 0) where
  abbrev s : Store
  s = decode base w

  abbrev requested : Operation
  requested = request base number k v

  abbrev operated : Served
  operated = operate base whether_sound w t o number k v

  -- It is answered exactly where it is recoverable against every entry of another transaction on the object,
  pub operate_answered_exactly : ((a : Answer) × (operated.outcome.reply ≡ answered (a ∷ [])))
      ↔ All (λ (e : Entry Operation Answer). (e.transaction ≡ t → ⊥) → recoverable requested e.operation ≡ true)
      (on_object o s.log)
  operate_answered_exactly =
      rw (protocol.responded w t o number k v accepted)
      (Iff.trans (protocol.answered_once w t (lent_operation o number k v) (owners t requested (on_object o s.log)))
      (none_owned t requested (on_object o s.log)))

  -- else waits for a set, not empty, whose members are exactly the other transactions with an entry on the object that
  -- it is not recoverable against, says how many they are, and changes no word;
  pub operate_waits_exactly : (set count : ℕ) → ((operated.outcome.reply ≡ wait set count)
      ↔ (Holds set (Owner t requested (on_object o s.log)) × (set ≡ 0 → ⊥) × (count ≡ size set)))
      × (operated.outcome.reply ≡ wait set count → operated.book ≡ w)
  operate_waits_exactly set count =
      let barring = owners t requested (on_object o s.log) in
      let exactly = owned_exactly t requested (on_object o s.log) set in
      rw (protocol.responded w t o number k v accepted) (
        Iff.trans (protocol.waits_some w t (lent_operation o number k v ∷ []) set count barring)
            (λ p. (exactly.0 p.0, p.1, p.2), λ p. (exactly.1 p.0, p.1, p.2)),
        protocol.waits_unchanged w t (lent_operation o number k v ∷ []) set count barring,
      )

  -- there is no third reply.
  pub operate_either : ((a : Answer) × (operated.outcome.reply ≡ answered (a ∷ [])))
      ⊎ ((set count : ℕ) × (operated.outcome.reply ≡ wait set count))
  operate_either =
      rw (protocol.responded w t o number k v accepted)
      (protocol.either_once w t (lent_operation o number k v) (owners t requested (on_object o s.log)))

  -- The set has 64 bits. Listed, as a script prints them, its members are exactly these, ascend, and are as many as it
  -- says.
  pub operate_waits_listed : (set count : ℕ) → operated.outcome.reply ≡ wait set count
      → (set < 2 ^ 64) × ((u : ℕ) → Among u (members set) ↔ Owner t requested (on_object o s.log) u)
      × Ascends (members set) × (length (members set) ≡ count)
  operate_waits_listed set count said =
      let (owned, others, sized) = (operate_waits_exactly set count).0.0 said in
      let sound = (operate_accepted base whether_sound w t o number k v accepted).sound in
      let (few, exactly, ascends) = listed_as _ set owned (owner_below t requested o w sound) in
      (few, exactly, ascends, sym sized)

  -- Once all of them have ended, committed or cancelled, others perhaps too, and nothing has been logged since, the
  -- same operation is not told to wait, whatever else the book then holds: its log is this one without the entries of
  -- those that have ended. (It may be refused.)
  pub operate_waits_no_more : (set count : ℕ) → operated.outcome.reply ≡ wait set count
      → (gone : List ℕ) → ((u : ℕ) → In set u → Among u gone)
      → (later : List ℕ) → (decode base later).log ≡ without_all gone s.log
      → (x n : ℕ) → (operate base whether_sound later t o number k v).outcome.reply ≡ wait x n → ⊥
  operate_waits_no_more set count said gone all later left =
      let awaits = protocol.awaits w t o number k v accepted set count said in
      protocol.never_waits later t o number k v
      (ap (λ (log : List Logged). owners t requested (on_object o log)) left
      ∙ none_awaited t requested o gone s.log (λ u m. all u (subst⁻¹ (λ (x : ℕ). In x u) awaits m)))

  -- The answer is what replay gives after the object's rows and its entries in order, and the request stands last in
  -- the log with it.
  pub operate_replayed : (a : Answer) → operated.outcome.reply ≡ answered (a ∷ [])
      → (a ≡ answer requested (after next (on_object o s.log) (object_of s o).rows))
      × (decode base operated.book
      ≡ appended (record { object = o; entry = record { transaction = t; operation = requested; answer = a } }) s)
  operate_replayed a said =
      (protocol.replayed w t o number k v accepted a said, protocol.entered_last w t o number k v accepted a said)

  -- Of the book's words an answered one writes eight: the number of entries, which goes up by one, and the seven
  -- behind the entries that there were, which become the new entry's.
  pub operate_eight_words : (a : Answer) → operated.outcome.reply ≡ answered (a ∷ [])
      → let after = operated.book in
      let start = 2_145 + 7 * word w 0 in
      (word after 0 ≡ word w 0 + 1)
      × (word after start ≡ t) × (word after (start + 1) ≡ o)
      × (word after (start + 2) ≡ number_of requested) × (word after (start + 3) ≡ key_of requested)
      × (word after (start + 4) ≡ value_of requested)
      × (word after (start + 5) ≡ a.code) × (word after (start + 6) ≡ a.value)
      × ((i : ℕ) → (i ≡ 0 → ⊥) → (i < start) ⊎ (start + 7 ≤ i) → word after i ≡ word w i)
      × (length after ≡ length w)
  operate_eight_words a said =
      let (count, entry, other, size) = protocol.eight_words w t o number k v accepted a said in
      let first : word operated.book (2_145 + 7 * word w 0) ≡ t =
      ap (word operated.book) (omega arith) ∙ entry 0 (omega arith) in (
        count,
        first,
        entry 1 (omega arith),
        entry 2 (omega arith),
        entry 3 (omega arith),
        entry 4 (omega arith),
        entry 5 (omega arith),
        entry 6 (omega arith),
        other,
        size,
      )

  -- Answered, it orders its transaction behind the owners of entries on the object that it does not commute with, and
  -- no other behind anyone.
  pub ordered_behind : (a : Answer) → operated.outcome.reply ≡ answered (a ∷ []) → (x b : ℕ)
      → DependsOn (decode base operated.book).log x b
      ↔ (DependsOn s.log x b ⊎ ((x ≡ t) × (x ≡ b → ⊥)
      × Any (λ (l : Logged). (l.entry.transaction ≡ b) × (l.object ≡ o)
      × (commutes requested l.entry.operation ≡ false)) s.log))
  ordered_behind = protocol.ordered w t o number k v accepted

-- A transaction depends on another exactly where two places of the log say so; d stands for entries past its end.
pub depends_exactly : (d : Logged) (log : List Logged) (a b : ℕ) → DependsOn log a b ↔ ((a ≡ b → ⊥) × Places d log a b)
depends_exactly d log a b = Iff.and Iff.rfl (protocol.conflict_places d log a b)

-- ---- Batch

-- Operate is the batch of one operation.
pub operate_one : (w : List ℕ) (t o number k v : ℕ)
    → operate base whether_sound w t o number k v ≡ batch base whether_sound w t (o ∷ number ∷ k ∷ v ∷ [])
unfolding operate
operate_one w t o number k v = refl

module _ (w : List ℕ) (t : ℕ) (operations : List ℕ) (accepted : batch_reason base whether_sound w t operations
    ≡ 0) where
  abbrev held : Store
  held = decode base w

  abbrev qs : List LentOperation
  qs = operations_in operations

  abbrev batched : Served
  batched = batch base whether_sound w t operations

  -- It is answered exactly where each of its operations is recoverable against every entry of another transaction on
  -- its object,
  pub batch_answered_exactly : ((given : List Answer) × (batched.outcome.reply ≡ answered given))
      ↔ All (λ (q : LentOperation).
      All (λ (e : Entry Operation Answer). (e.transaction ≡ t → ⊥)
      → recoverable (calls.requested base q) e.operation ≡ true)
      (on_object q.object held.log)) qs
  batch_answered_exactly =
      rw (protocol.batch_responded w t operations accepted)
      (Iff.trans (protocol.answered_none w t qs (awaited base t held qs)) (batches.free_each t held qs))

  -- else waits for a set, not empty, whose members are exactly the other transactions with an entry on the object of
  -- one of its operations that this one is not recoverable against, says how many they are, and changes no word;
  pub batch_waits_exactly : (set count : ℕ) → ((batched.outcome.reply ≡ wait set count)
      ↔ (Holds set (λ u.
      Any (λ (q : LentOperation). Owner t (calls.requested base q) (on_object q.object held.log) u) qs)
      × (set ≡ 0 → ⊥) × (count ≡ size set)))
      × (batched.outcome.reply ≡ wait set count → batched.book ≡ w)
  batch_waits_exactly set count =
      let exactly = held_exactly _ set (awaited base t held qs) (batches.awaits_each t held qs) in
      rw (protocol.batch_responded w t operations accepted) (
        Iff.trans (protocol.waits_some w t qs set count (awaited base t held qs))
            (λ p. (exactly.0 p.0, p.1, p.2), λ p. (exactly.1 p.0, p.1, p.2)),
        protocol.waits_unchanged w t qs set count (awaited base t held qs),
      )

  -- there is no third reply.
  pub batch_either : ((given : List Answer) × (batched.outcome.reply ≡ answered given))
      ⊎ ((set count : ℕ) × (batched.outcome.reply ≡ wait set count))
  batch_either =
      rw (protocol.batch_responded w t operations accepted)
      (protocol.either_reply w t qs (awaited base t held qs))

  -- The set has 64 bits. Listed, its members are exactly these, ascend, and are as many as it says.
  pub batch_waits_listed : (set count : ℕ) → batched.outcome.reply ≡ wait set count
      → (set < 2 ^ 64)
      × ((u : ℕ) → Among u (members set)
      ↔ Any (λ (q : LentOperation). Owner t (calls.requested base q) (on_object q.object held.log) u) qs)
      × Ascends (members set) × (length (members set) ≡ count)
  batch_waits_listed set count said =
      let (owned, others, sized) = (batch_waits_exactly set count).0.0 said in
      let sound = (batch_accepted base whether_sound w t operations accepted).sound in
      let (few, exactly, ascends) = listed_as _ set owned (batches.owner_below t w sound qs) in
      (few, exactly, ascends, sym sized)

  -- Answered, it has an answer for each operation; the log is that before with their entries behind it, in order, and
  -- nothing else changes; and each answer is what replay gives after the object's rows, its entries and those of the
  -- operations before it in the batch.
  pub batch_replayed : (given : List Answer) → batched.outcome.reply ≡ answered given
      → let entries = answered_operations reduce_key t qs given in
      (length given ≡ length qs)
      × (decode base batched.book ≡ with_log (held.log ++ entries) held)
      × ((i : ℕ) → i < length qs
      → let q = get_or qs i (lent_operation 0 0 0 0) in
      get_or given i (answering 0 0)
      ≡ answer (calls.requested base q)
      (after next (on_object q.object (held.log ++ take i entries)) (object_of held q.object).rows))
  batch_replayed given said =
      let replayed = batches.replayed w t operations accepted given said in (
        ap length replayed ∙ batches.answers_counted t held qs,
        batches.logged w t operations accepted given said,
        rw replayed (batches.answer_at t held qs),
      )

  -- Answered, it orders its transaction behind the owners of entries that one of its operations, on the same object,
  -- does not commute with, and no other behind anyone.
  pub batch_ordered_behind : (given : List Answer) → batched.outcome.reply ≡ answered given → (x b : ℕ)
      → DependsOn (decode base batched.book).log x b
      ↔ (DependsOn held.log x b ⊎ ((x ≡ t) × (x ≡ b → ⊥)
      × Any (λ (q : LentOperation). Any (λ (l : Logged). (l.entry.transaction ≡ b) × (l.object ≡ q.object)
      × (commutes (calls.requested base q) l.entry.operation ≡ false)) held.log) qs))
  batch_ordered_behind = batches.ordered w t operations accepted

-- All or nothing, whatever the book and the arguments: refused or told to wait, it changes no word; answered, it has an
-- answer for each operation, and of the store changes the log alone, which gains an entry for each, in order, with its
-- answer.
pub all_or_nothing : (w : List ℕ) (t : ℕ) (operations : List ℕ)
    → let r = batch base whether_sound w t operations in
    let s = decode base w in
    let qs = operations_in operations in
    ((n : ℕ) → r.outcome.reply ≡ refused n → r.book ≡ w)
    × ((set count : ℕ) → r.outcome.reply ≡ wait set count → r.book ≡ w)
    × ((given : List Answer) → r.outcome.reply ≡ answered given
    → (length given ≡ length qs)
    × (decode base r.book ≡ with_log (s.log ++ answered_operations reduce_key t qs given) s)
    × (length (decode base r.book).log ≡ length s.log + length qs))
all_or_nothing w t operations =
    let call = calling.batch t operations in (
      λ n said. (refused_untouched call w n said).0,
      λ set count said. (batch_waits_exactly w t operations (leaving.no_reason call w (λ n e. protocol.clash cc))
          set count).1 said,
      λ given said.
          let accepted = leaving.no_reason call w (λ n e. protocol.clash cc) in
          let (complete, logged, answers) = batch_replayed w t operations accepted given said in (
            complete,
            logged,
            ap (λ (s : Store). length s.log) (batches.left w t operations accepted given said)
                ∙ batches.run_all_counted t (decode base w) (operations_in operations),
          ),
    )

-- 12 is said exactly where the book is sound, the transaction's number is below 64, and more than 16 operations are
-- lent, or the words end in a part of one: whether or not the transaction is active, and whatever the operations.
pub batch_too_many : (w : List ℕ) (t : ℕ) (operations : List ℕ)
    → ((batch base whether_sound w t operations).outcome.reply ≡ refused 12)
    ↔ (Sound base w × (t < 64) × ((64 < length operations) ⊎ (length operations % 4 ≡ 0 → ⊥)))
batch_too_many w t operations =
    let said = leaving.refused_as (calling.batch t operations) w 12 refl in
    let exactly = too_many_exactly base whether_sound w t operations in
    let many = too_many_lem operations in (
      λ e. let p = exactly.0 (said.0 e) in (p.0, p.1, many.0 p.2),
      λ p. said.1 (exactly.1 (p.0, p.1, many.1 p.2)),
    )

-- 8 or 9 is said exactly where 1, 4, 5, 12 and 7 do not apply (`BatchPremises`), and it is that of the first operation
-- with an 8 or 9 of its own;
pub batch_own_reason : (w : List ℕ) (t : ℕ) (operations : List ℕ)
    → let s = decode base w in
    let qs = operations_in operations in
    let reply = (batch base whether_sound w t operations).outcome.reply in
    ((reply ≡ refused 8) ↔ (BatchPremises base w t operations × FirstOwn s (Has8 s) qs))
    × ((reply ≡ refused 9) ↔ (BatchPremises base w t operations × FirstOwn s (Has9 s) qs))
batch_own_reason w t operations =
    let s = decode base w in
    let qs = operations_in operations in
    let before = own_reason base whether_sound w t operations in (
      Iff.trans (leaving.refused_as (calling.batch t operations) w 8 refl)
          (Iff.trans (before 8 refl refl refl) (Iff.and Iff.rfl (own_8 s qs))),
      Iff.trans (leaving.refused_as (calling.batch t operations) w 9 refl)
          (Iff.trans (before 9 refl refl refl) (Iff.and Iff.rfl (own_9 s qs))),
    )

-- 10 exactly where no operation has one, and the log's entries and the batch's operations together are more than 256:
-- so never of an empty batch;
pub batch_log_full : (w : List ℕ) (t : ℕ) (operations : List ℕ)
    → let s = decode base w in
    let qs = operations_in operations in
    ((batch base whether_sound w t operations).outcome.reply ≡ refused 10)
    ↔ (BatchPremises base w t operations × All (HasNeither s) qs × (256 < length s.log + length qs))
batch_log_full w t operations =
    let said = leaving.refused_as (calling.batch t operations) w 10 refl in
    let exactly = log_reason base whether_sound w t operations in
    let limit = batches.log_limit_sound t w (operations_in operations) in (
      λ e. let (p, (own, met)) = exactly.0 (said.0 e) in (p, own, (limit p.stands.sound).0 met),
      λ p. said.1 (exactly.1 (p.0, (p.1, (limit p.0.stands.sound).1 p.2))),
    )

-- 11 exactly where they are not more, and some push or insert has no room, those before it in the batch counted.
pub batch_no_room : (w : List ℕ) (t : ℕ) (operations : List ℕ)
    → let s = decode base w in
    let qs = operations_in operations in
    ((batch base whether_sound w t operations).outcome.reply ≡ refused 11)
    ↔ (BatchPremises base w t operations × All (HasNeither s) qs × (length s.log + length qs ≤ 256)
    × SomeCrowded s qs)
batch_no_room w t operations =
    let s = decode base w in
    let qs = operations_in operations in
    let said = leaving.refused_as (calling.batch t operations) w 11 refl in
    let exactly = row_reason base whether_sound w t operations in
    let limit = batches.log_limit_sound t w qs in
    let rows = row_limit_lem t s qs in (
      λ e. let (p, (own, (room, met))) = exactly.0 (said.0 e) in
          let few : 256 < length s.log + length qs → ⊥ = λ over. room ((limit p.stands.sound).1 over) in
          (p, own, omega (arith, few), rows.0 met),
      λ p. said.1 (exactly.1 (
        p.0,
        (p.1, (λ a. omega (arith, p.2, (limit p.0.stands.sound).0 a), rows.1 p.3)),
      )),
    )

-- ---- Finish

module _ (w : List ℕ) (t : ℕ) (list : List ℕ) (accepted : end_reason base whether_sound w t list ≡ 0) where
  abbrev before : Store
  before = decode base w

  abbrev ending : Served
  ending = finish base whether_sound w t list

  -- It is cancelled for a circle exactly where it lies on one, of any length, whose other members are all
  -- pseudo-committed;
  pub finish_circle : ((n : ℕ) × (ending.outcome.reply ≡ circle n))
      ↔ Leads (DependsOn before.log) (PseudoCommitted before) t t
  finish_circle =
      rw (protocol.finishing w t list accepted)
      (Iff.trans (protocol.circle_exactly before t list) (protocol.any_circle w t list accepted))

  -- that is where its predecessors and successors meet (document 000, section 4.2.1);
  pub finish_circle_met : ((n : ℕ) × (ending.outcome.reply ≡ circle n))
      ↔ Meet (PRED before t) (SUCC before t)
  finish_circle_met = Iff.trans finish_circle (cycle_met before t)

  -- it commits exactly where it depends on nobody;
  pub finish_committed : ((n : ℕ) × (ending.outcome.reply ≡ committed n)) ↔ Ready before.log t
  finish_committed = rw (protocol.finishing w t list accepted) (protocol.committed_exactly before t list)

  -- it is pseudo-committed exactly where they stay apart and it depends on somebody;
  pub finish_finished : (ending.outcome.reply ≡ finished)
      ↔ ((Meet (PRED before t) (SUCC before t) → ⊥) × ((u : ℕ) × DependsOn before.log t u))
  finish_finished =
      let met = Iff.trans (protocol.any_circle w t list accepted) (cycle_met before t) in
      rw (protocol.finishing w t list accepted)
      (Iff.trans (protocol.finished_exactly before t list)
      (Iff.and (λ off m. off (met.1 m), λ apart c. apart (met.0 c)) Iff.rfl))

  -- and there is no fourth reply. Cancel has a single one.
  pub finish_either : ((n : ℕ) × (ending.outcome.reply ≡ circle n))
      ⊎ ((n : ℕ) × (ending.outcome.reply ≡ committed n)) ⊎ (ending.outcome.reply ≡ finished)
  finish_either = rw (protocol.finishing w t list accepted) (protocol.one_of_three before t list)

  pub cancel_cancelled : (n : ℕ) × ((cancel base whether_sound w t list).outcome.reply ≡ cancelled n)
  cancel_cancelled = (_, ap (λ (r : Served). r.outcome.reply) (protocol.cancelling w t list accepted))

  -- Pseudo-committed, it is last in the order of finishing, and nobody commits.
  pub finish_ranked : ending.outcome.reply ≡ finished
      → (decode base ending.book ≡ with_status t (pseudo_committed (pseudo_committed_count before)) before)
      × (ending.outcome.list ≡ list)
  finish_ranked =
      rw (protocol.finishing w t list accepted)
      (protocol.ranked_last before t list
      (representable w (end_accepted base whether_sound w t list accepted).sound.packed))

-- ---- Who commits then

-- Of a store in which transactions may be ready, as one that has ended leaves it.
module _ (s : Store) (r : Representable base s) (h : Unsettled base s) where
  -- The pseudo-committed one of lowest rank that depends on nobody commits, and so on,
  pub commits_lowest : (t : ℕ) → LowestReady s t
      → ((settled_all s).store ≡ (settled_all (commit t s)).store)
      × ((settled_all s).committed ≡ t ∷ (settled_all (commit t s)).committed)
  commits_lowest t lowest =
      let e = settled_step s r.statuses t (lowest_found s r.statuses h.once h.gapless t lowest) in
      (ap (λ (x : Settlement). x.store) e, ap (λ (x : Settlement). x.committed) e)

  -- until none is left.
  pub commits_none : ((t : ℕ) → PseudoCommitted s t → Ready s.log t → ⊥)
      → ((settled_all s).store ≡ s) × ((settled_all s).committed ≡ [])
  commits_none none =
      let e = settled_end s ((none_ready s r.statuses h.once h.gapless).1 none) in
      (ap (λ (x : Settlement). x.store) e, ap (λ (x : Settlement). x.committed) e)

  -- So a pseudo-committed one commits exactly where no way of dependencies leads from it to an active one;
  pub settles_exactly : (u : ℕ) → PseudoCommitted s u
      → Among u (settled_all s).committed
      ↔ (((v : ℕ) × Active s v × Leads (DependsOn s.log) (λ c. Unit {0}) u v) → ⊥)
  settles_exactly = commits.settles_exactly s r h

  -- no other commits,
  pub settles_only : (u : ℕ) → Among u (settled_all s).committed → PseudoCommitted s u
  settles_only = (commits.all_commits s r h).only

  -- one that does not commit stays pseudo-committed,
  pub never_aborted : (u : ℕ) → PseudoCommitted s u
      → Among u (settled_all s).committed ⊎ PseudoCommitted (settled_all s).store u
  never_aborted = (commits.all_commits s r h).kept

  -- and active ones stay active.
  pub settles_active : (u : ℕ) → Active (settled_all s).store u ↔ Active s u
  settles_active = (commits.all_commits s r h).active

-- Of finish and of cancel, where the reply counts those that committed.
module _ (w : List ℕ) (t : ℕ) (list : List ℕ) (accepted : end_reason base whether_sound w t list ≡ 0) (r : Served)
    (call : (r ≡ finish base whether_sound w t list) ⊎ (r ≡ cancel base whether_sound w t list)) (n : ℕ)
    (told : (r.outcome.reply ≡ committed n) ⊎ (r.outcome.reply ≡ circle n)
    ⊎ (r.outcome.reply ≡ cancelled n)) where
  abbrev left : EndLeaves (decode base w) t list r n
  left = concluding.concludes w t list accepted n r told call

  -- At the list's front stand exactly those that commit: the transaction itself, where it does, and each
  -- pseudo-committed one from which, once the transaction's entries are out of the log, no way of dependencies leads to
  -- another active one.
  pub commits_exactly : (u : ℕ)
      → Among u (take n r.outcome.list)
      ↔ (((u ≡ t) × (r.outcome.reply ≡ committed n))
      ⊎ (PseudoCommitted (decode base w) u
      × (((v : ℕ) × (v ≡ t → ⊥) × Active (decode base w) v
      × Leads (DependsOn (without t (decode base w).log)) (λ c. Unit {0}) u v) → ⊥)))
  commits_exactly = concluding.commits_exactly (decode base w) t list r n left

  -- The other pseudo-committed ones stay so, and the other active ones.
  pub stay_exactly : (u : ℕ)
      → PseudoCommitted (decode base r.book) u
      ↔ (PseudoCommitted (decode base w) u × (Among u (take n r.outcome.list) → ⊥))
  stay_exactly = concluding.stay_exactly (decode base w) t list r n left

  -- Ranks close up in their order: of two that stay, one is below the other exactly if it was before.
  pub ranks_keep_order : (u v p q i j : ℕ)
      → status_of (decode base w) u ≡ pseudo_committed p → status_of (decode base w) v ≡ pseudo_committed q
      → status_of (decode base r.book) u ≡ pseudo_committed i → status_of (decode base r.book) v ≡ pseudo_committed j
      → (i < j) ↔ (p < q)
  ranks_keep_order = concluding.ranks_keep_order (decode base w) t list r n left

  pub active_exactly : (u : ℕ) → Active (decode base r.book) u ↔ ((u ≡ t → ⊥) × Active (decode base w) u)
  active_exactly = concluding.active_exactly (decode base w) t list r n left

  -- They stand in the order of `commits_lowest`, the transaction itself first where it commits;
  pub commits_in_order : ((r.outcome.reply ≡ committed n)
      × (take n r.outcome.list ≡ t ∷ (settled_all (commit t (decode base w))).committed))
      ⊎ ((r.outcome.reply ≡ committed n → ⊥)
      × (take n r.outcome.list ≡ (settled_all (ended t (decode base w))).committed))
  commits_in_order = concluding.named_in_order (decode base w) t list r n left

  -- they are as many as the reply counts, at most 64, and none is named twice,
  pub commits_counted : (length (take n r.outcome.list) ≡ n) × (n ≤ 64)
  commits_counted =
      (concluding.named_counted (decode base w) t list r n left, concluding.named_few (decode base w) t list r n left)

  pub commits_once : Distinct (take n r.outcome.list)
  commits_once = concluding.named_once (decode base w) t list r n left

  -- and the rest of the list keeps its bytes.
  pub rest_stays : r.outcome.list ≡ take n r.outcome.list ++ drop n list
  rest_stays = concluding.rest_stays (decode base w) t list r n left

  -- The rows of each object become what the entries of those named make of them, served one transaction after the
  -- other, each one's own in order;
  pub commits_carry : (o : ℕ) (kind : Kind) → (object_of (decode base w) o).kind ≡ some kind
      → (object_of (decode base r.book) o).rows
      ≡ after next (in_order (take n r.outcome.list) (on_object o (decode base w).log))
      (object_of (decode base w) o).rows
  commits_carry = concluding.rows_carried (decode base w) t list r n left

  -- the entries of those named and of the transaction leave the log, and no others,
  pub log_left : (decode base r.book).log ≡ without_all (take n r.outcome.list) (without t (decode base w).log)
  log_left = concluding.log_left (decode base w) t list r n left

  -- and no kind changes.
  pub kinds_stay : (o : ℕ) → (object_of (decode base r.book) o).kind ≡ (object_of (decode base w) o).kind
  kinds_stay = concluding.kinds_stay (decode base w) t list r n left

-- ---- Kept by every call

-- An accepted set up writes a sound book over any words,
pub set_up_sound : (w kinds : List ℕ) → set_up_reason base w kinds ≡ 0 → Sound base (set_up base w kinds).book
set_up_sound w kinds accepted =
    subst (λ (r : Served). Sound base r.book) (sym (leaving.set_up_served w kinds accepted))
    (kept.empty_encoded w kinds accepted)

-- every call leaves a sound book sound,
pub sound_kept : (call : Call) (w : List ℕ) → Sound base w → Sound base (desk call w).book
sound_kept = kept.sound_kept whether_sound

-- and when no transaction is active afterwards, none is left pseudo-committed.
pub none_left_finished : (call : Call) (w : List ℕ) → Sound base w
    → ((t : ℕ) → Active (decode base (desk call w).book) t → ⊥)
    → (t : ℕ) → PseudoCommitted (decode base (desk call w).book) t → ⊥
none_left_finished call w h =
    let after = sound_kept call w h in
    none_left (decode base (desk call w).book) (representable (desk call w).book after.packed).statuses
    after.store.unsettled.acyclic
    after.store.dependent
