-- Document 01, "The serial history", sentence by sentence: lists of calls, the plain desk that keeps the history, and
-- serving it.
use Rattle.std.specs.Prelude.{ℕ, ◌≡◌, Bool, cond, ◌⊎◌, List, [], ◌∷◌, ◌++◌, map, eqb, length, take}
use Rattle.operations.specs.Operations.{Row, Answer, next, answer}
use Rattle.operations.specs.Log.{filter, one, others}
use Rattle.store.specs.Store.{Logged, operations_of}
use Rattle.store.specs.Layout.{joined, row_words}
use Rattle.protocol.specs.Replies.{Reply, ok, answered, wait, finished, committed, circle, cancelled, counted, refused}
use Rattle.protocol.specs.Replies.{Outcome, outcome, Served}
use Rattle.protocol.specs.Calls.{LentOperation, lent_operation, operations_in}
use Rattle.protocol.specs.Call.{Call, set_up, begin, operate, batch, finish, cancel, contents, answered_operations}

-- ---- Lists of calls

-- A call, with any arguments, and what it replied and handed back.
pub record Event : Type 0 where
  pub call : Call
  pub outcome : Outcome

-- For any way of serving a call; the theorems take `desk`, which goes by the definitions that the contracts cite.
module _ (serve : Call → List ℕ → Served) where
  -- The events of a list of calls, each of which gets the book as the one before left it;
  abbrev pub trace : List Call → List ℕ → List Event
  trace [] w = []
  trace (call ∷ calls) w = let r = serve call w in record { call = call; outcome = r.outcome } ∷ trace calls r.book

  -- and the book as the last one leaves it.
  abbrev pub book_after : List Call → List ℕ → List ℕ
  book_after [] w = w
  book_after (call ∷ calls) w = book_after calls (serve call w).book

-- Set ups in the list are refused ones.
abbrev pub SetUpRefused : Event → Type 0
SetUpRefused e = (kinds : List ℕ) → e.call ≡ set_up kinds → (reason : ℕ) × (e.outcome.reply ≡ refused reason)

-- ---- The plain desk, fed calls and outcomes, and nothing else of the book

-- A transaction (handout) that has committed, with its answered operations in the order answered. `Logged` is an
-- operation with its object, its transaction and its answer.
pub record Committed : Type 0 where
  pub transaction : ℕ
  pub operations : List Logged

-- The committed transactions in commit order; the live ones, in the order begun; and the answered operations of live
-- ones, in the order answered. Committed operations stand apart, so that a number used again is a new transaction.
pub record History : Type 0 where
  pub committed : List Committed
  pub live : List ℕ
  pub answered : List Logged

abbrev pub new_history : History
new_history = record { committed = []; live = []; answered = [] }

-- "A begin not refused makes a live handout with no operations." A number used again finds none: they left with the
-- transaction that ended.
abbrev pub begun : Call → History → History
begun (set_up kinds) h = h
begun (begin t) h = record { committed = h.committed; live = h.live ++ (t ∷ []); answered = h.answered }
begun (operate t o number k v) h = h
begun (batch t operations) h = h
begun (finish t list) h = h
begun (cancel t list) h = h
begun (contents o) h = h

abbrev pub put_last : List Logged → History → History
put_last operations h =
    record { committed = h.committed; live = h.live; answered = h.answered ++ operations }

-- "A reply that answers an operation puts it last among the answered ones, with its handout, its key as reduced at the
-- call that asked for it, and its answer." Its number names an operation: otherwise the call was refused. "The
-- serial history shows the batch's operations singly" (02, No. 2), in their order.
abbrev pub entered : (ℕ → ℕ) → Call → List Answer → History → History
entered reduce (set_up kinds) answers h = h
entered reduce (begin t) answers h = h
entered reduce (operate t o number k v) answers h =
    put_last (answered_operations reduce t (lent_operation o number k v ∷ []) answers) h
entered reduce (batch t operations) answers h =
    put_last (answered_operations reduce t (operations_in operations) answers) h
entered reduce (finish t list) answers h = h
entered reduce (cancel t list) answers h = h
entered reduce (contents o) answers h = h

-- A transaction that is live no more, with its operations struck out.
abbrev pub struck : ℕ → History → History
struck t h =
    record {
      committed = h.committed;
      live = filter (others (one t)) h.live;
      answered = operations_of (others (one t)) h.answered;
    }

-- One commits: it comes next, with its operations, and is live no more.
abbrev pub committed_next : ℕ → History → History
committed_next t h =
    let rest = struck t h in
    record {
      committed = h.committed ++ (record { transaction = t; operations = operations_of (one t) h.answered } ∷ []);
      live = rest.live;
      answered = rest.answered;
    }

-- "The handouts a reply names as committed, at the front of the list up to the count, come next in commit order and are
-- live no more."
abbrev pub committed_in_order : List ℕ → History → History
committed_in_order [] h = h
committed_in_order (t ∷ ts) h = committed_in_order ts (committed_next t h)

-- "*Circle* and *cancelled* end the handout they are said of; its operations are struck out."
abbrev pub aborted : Call → History → History
aborted (set_up kinds) h = h
aborted (begin t) h = h
aborted (operate t o number k v) h = h
aborted (batch t operations) h = h
aborted (finish t list) h = struck t h
aborted (cancel t list) h = struck t h
aborted (contents o) h = h

module _ (reduce : ℕ → ℕ) where
  -- What each reply changes. "*Wait*, *finished*, contents and refusals change nothing."
  abbrev pub noted : Call → Reply → List ℕ → History → History
  noted call ok list h = begun call h
  noted call (answered answers) list h = entered reduce call answers h
  noted call (wait owners count) list h = h
  noted call finished list h = h
  noted call (committed n) list h = committed_in_order (take n list) h
  noted call (circle n) list h = committed_in_order (take n list) (aborted call h)
  noted call (cancelled n) list h = committed_in_order (take n list) (aborted call h)
  noted call (counted rows) list h = h
  noted call (refused reason) list h = h

  abbrev pub noted_all : List Event → History → History
  noted_all [] h = h
  noted_all (e ∷ events) h = noted_all events (noted e.call e.outcome.reply e.outcome.list h)

  -- The serial history of the events since the set up.
  abbrev pub history : List Event → History
  history events = noted_all events new_history

-- ---- Serving

-- "the committed handouts in commit order, each one's operations in the order answered"
abbrev pub serial : List Committed → List Logged
serial [] = []
serial (c ∷ l) = c.operations ++ serial l

-- Each object's rows, "without limits". Kinds aren't kept: each operation is one of its object's kind as set up
-- (`of_their_kinds` in `Theorems`).
abbrev pub Contents : Type 0
Contents = ℕ → List Row

-- "empty objects"
abbrev pub empty_objects : Contents
empty_objects o = []

-- The contents after an operation.
abbrev pub changed : Logged → Contents → Contents
changed l rows o = cond (eqb l.object o) (next l.entry.operation (rows o)) (rows o)

-- The contents that serving operations in order reaches,
abbrev pub reached : List Logged → Contents → Contents
reached [] rows = rows
reached (l ∷ ls) rows = reached ls (changed l rows)

-- the answer that each gets then,
abbrev pub answers : List Logged → Contents → List Answer
answers [] rows = []
answers (l ∷ ls) rows = answer l.entry.operation (rows l.object) ∷ answers ls (changed l rows)

-- and the answer that each was given.
abbrev pub given : List Logged → List Answer
given = map (λ (l : Logged). l.entry.answer)

-- The contents that the committed transactions reach, served alone.
abbrev pub committed_contents : History → Contents
committed_contents h = reached (serial h.committed) empty_objects

-- "the rows reached, written as the book writes them, are what contents hands back [..], their number the twin's count"
abbrev pub written : List Row → Outcome
written rows = outcome (counted (length rows)) [] (joined row_words rows)

-- ---- Dropping

-- "To drop a set of live handouts, open or finished, is to leave out what they did: once the committed are served, the
-- operations of the other live handouts follow, all in the order answered." A number in the set that isn't live changes
-- nothing (`live_part`).
abbrev pub after_dropping : (ℕ → Bool) → History → List Logged
after_dropping dropped h = serial h.committed ++ operations_of (others dropped) h.answered

-- "An answer is altered if an operation so served gets another than it was given." Here none is.
abbrev pub Unaltered : List Logged → Type 0
Unaltered ls = answers ls empty_objects ≡ given ls

-- ---- Of several transactions, for `cancelling`

-- The operations of those listed, one transaction after the other.
abbrev pub of_each : List ℕ → List Logged → List Logged
of_each [] ls = []
of_each (t ∷ ts) ls = operations_of (one t) ls ++ of_each ts ls

-- ---- A batch, one by one

-- The operations of a batch, each asked for by a call of its own.
abbrev pub singly : ℕ → List LentOperation → List Call
singly t = map (λ (q : LentOperation). operate t q.object q.number q.key q.value)

abbrev pub replies_of : List Event → List Reply
replies_of = map (λ (e : Event). e.outcome.reply)

abbrev pub Waits : Reply → Type 0
Waits r = (set count : ℕ) × (r ≡ wait set count)

-- It refuses for a reason of an operation: no kind, another kind, or a limit.
abbrev pub OperationRefused : Reply → Type 0
OperationRefused r = (r ≡ refused 8) ⊎ (r ≡ refused 9) ⊎ (r ≡ refused 10) ⊎ (r ≡ refused 11)

-- The replies come to one that is such: all before it answer an operation each.
abbrev pub ComesTo : (Reply → Type 0) → List Reply → Type 0
ComesTo Such [] = ⊥
ComesTo Such (r ∷ replies) = Such r ⊎ (((a : Answer) × (r ≡ answered (a ∷ []))) × ComesTo Such replies)
