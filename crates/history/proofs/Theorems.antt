-- Demand 3, of lists of calls as a whole: what the desk answered and what contents hands back are what the serial
-- history gives.
use Rattle.std.specs.Prelude.{ℕ, ◌≡◌, Bool, ◌↔◌, ◌⊎◌, List, [], ◌∷◌, ◌++◌, map, take}
use Rattle.std.proofs.Math.Option.{some}
use Rattle.operations.specs.Operations.{Answer, All, kind_of, reduce_key}
use Rattle.operations.specs.Log.{one, others}
use Rattle.store.specs.Store.{Logged, Live, Active}
use Rattle.store.specs.Layout.{word, read_kind, decode, base}
use Rattle.store.specs.Soundness.{Sound}
use Rattle.protocol.specs.Replies.{Reply, ok, answered, wait, cancelled, refused, outcome, Served}
use Rattle.protocol.specs.Calls.{operations_in}
use Rattle.protocol.specs.Call.{Call, set_up, batch, cancel, contents, desk}
use Rattle.protocol.specs.Terms.{Among}
use Rattle.history.specs.History.{Event, trace, book_after, SetUpRefused, History, history, serial, reached}
use Rattle.history.specs.History.{noted, noted_all, committed_contents, written, after_dropping, Unaltered}
use Rattle.history.specs.History.{of_each, singly, replies_of, Waits, OperationRefused, ComesTo}
use Rattle.history.proofs.Laws.Steps.{InStep, set_up_follows, set_up_kind, trace_sound, history_follows}
use Rattle.history.proofs.Laws.Consequences.{all_fit, answered_live, all_answered, contents_read, contents_refused}
use Rattle.history.proofs.Laws.Consequences.{cancelled_read, cancelled_unlisted}
use Rattle.history.proofs.Laws.Singly as singles
use Rattle.history.proofs.Laws.Singly.{answered_singly, waits_singly, refused_singly, put_none, empty_exactly}
use Rattle.history.proofs.Laws.Singly.{empty_leaves}

-- ---- The three parts of demand 3

-- 1. Serving the committed transactions alone, in commit order, each one's operations in the order answered, gives each
-- operation the answer that it was given.
abbrev pub CommittedAnswered : History → Type 0
CommittedAnswered h = Unaltered (serial h.committed)

-- 2. For each object whose kind isn't 0, the rows reached so are what contents hands back, as the book writes them, and
-- their number is the twin's count.
abbrev pub ContentsReached : List ℕ → History → List ℕ → Type 0
ContentsReached kinds h book =
    (o : ℕ) → (word kinds o ≡ 0 → ⊥) → (desk (contents o) book).outcome ≡ written (committed_contents h o)

-- 3. Whichever live transactions are dropped, active or pseudo-committed: once the committed are served, serving the
-- operations of the others in the order answered gives each the answer that it was given.
abbrev pub NoAnswerAltered : History → Type 0
NoAnswerAltered h = (dropped : ℕ → Bool) → Unaltered (after_dropping dropped h)

-- For every accepted set up, over any words, and every list of calls whose set ups are refused. For a contents in the
-- midst of a list, take the list up to it.
pub serial_history : (w kinds : List ℕ) → (desk (set_up kinds) w).outcome.reply ≡ ok → (calls : List Call)
    → let start = (desk (set_up kinds) w).book in
    All SetUpRefused (trace desk calls start)
    → let h = history reduce_key (trace desk calls start) in
    CommittedAnswered h × ContentsReached kinds h (book_after desk calls start) × NoAnswerAltered h
serial_history w kinds accepted calls refusedSetUps =
    let f = history_follows w kinds accepted calls refusedSetUps in (
      f.linked.answered,
      λ o positive. contents_read kinds _ _ f o (set_up_kind w kinds accepted o positive),
      λ dropped. all_answered kinds _ _ f (others dropped),
    )

-- ---- Besides

-- No call of a list finds the book unsound.
pub never_unsound : (w kinds : List ℕ) → (desk (set_up kinds) w).outcome.reply ≡ ok → (calls : List Call)
    → All (λ (e : Event). e.outcome.reply ≡ refused 4 → ⊥) (trace desk calls (desk (set_up kinds) w).book)
never_unsound w kinds accepted calls =
    trace_sound calls (desk (set_up kinds) w).book (set_up_follows w kinds accepted).sound

module _ (w kinds : List ℕ) (accepted : (desk (set_up kinds) w).outcome.reply ≡ ok) (calls : List Call)
    (refusedSetUps : All SetUpRefused (trace desk calls (desk (set_up kinds) w).book)) where
  abbrev book : List ℕ
  book = book_after desk calls (desk (set_up kinds) w).book

  abbrev h : History
  h = history reduce_key (trace desk calls (desk (set_up kinds) w).book)

  follows : InStep kinds h book
  follows = history_follows w kinds accepted calls refusedSetUps

  -- The plain desk's live transactions are those of the book; the operations that it has among the answered ones are
  -- theirs, and are the log, entry by entry.
  pub live_part : ((t : ℕ) → Among t h.live ↔ Live (decode base book) t)
      × All (λ (l : Logged). Among l.entry.transaction h.live) h.answered
      × (h.answered ≡ (decode base book).log)
  live_part = (follows.linked.live, answered_live kinds h book follows, follows.linked.log)

  -- Every operation of the history is one of its object's kind, as set up.
  pub of_their_kinds : All (λ (l : Logged). read_kind (word kinds l.object) ≡ some (kind_of l.entry.operation))
      (serial h.committed ++ h.answered)
  of_their_kinds = all_fit kinds h book follows

  -- An object of kind 0, as any above 15, has no contents.
  pub without_kind_lem : (o : ℕ) → word kinds o ≡ 0 → (desk (contents o) book).outcome ≡ outcome (refused 8) [] []
  without_kind_lem = contents_refused kinds h book follows

  -- ---- The equipment officer's question: "if I cancel, can the other club's list change?"

  -- She gets this reply wherever her handout, t, is open and the list has at least 64 bytes (`cancel_cancelled` and
  -- `end_may` in `protocol`).
  module _ (t : ℕ) (list : List ℕ) (n : ℕ) (said : (desk (cancel t list) book).outcome.reply ≡ cancelled n) where
    abbrev after : Served
    after = desk (cancel t list) book

    -- The operations of the handouts that the call lists as committed.
    abbrev listed : List Logged
    listed = of_each (take n after.outcome.list) h.answered

    pub cancelling :
        -- No answer given to another is altered.
        Unaltered (after_dropping (one t) h)
        -- What contents hands back afterwards is what it was before, followed by serving the handouts listed;
        × ((o : ℕ) → (word kinds o ≡ 0 → ⊥)
        → ((desk (contents o) book).outcome ≡ written (committed_contents h o))
        × ((desk (contents o) after.book).outcome ≡ written (reached listed (committed_contents h) o)))
        -- nothing of hers is in it: what was there before is of committed handouts, and of those listed none is hers.
        × (Among t (take n after.outcome.list) → ⊥)
    cancelling = (
      all_answered kinds h book follows (others (one t)),
      λ o positive. let kind = set_up_kind w kinds accepted o positive in
          (contents_read kinds h book follows o kind, cancelled_read kinds h book follows t list n said o kind),
      cancelled_unlisted kinds h book follows t list n said,
    )

-- ---- A batch, one by one

-- Of any book. Where a batch is answered, its operations asked for one by one get the same answers and leave the same
-- book.
pub one_by_one : (w : List ℕ) (t : ℕ) (operations : List ℕ) (given : List Answer)
    → (desk (batch t operations) w).outcome.reply ≡ answered given
    → let calls = singly t (operations_in operations) in
    (replies_of (trace desk calls w) ≡ map (λ (a : Answer). answered (a ∷ [])) given)
    × (book_after desk calls w ≡ (desk (batch t operations) w).book)
one_by_one = answered_singly

-- The history shows them as if they had been asked for so.
pub shown_singly : (w : List ℕ) (t : ℕ) (operations : List ℕ) (given : List Answer)
    → (desk (batch t operations) w).outcome.reply ≡ answered given → (h : History)
    → noted reduce_key (batch t operations) (answered given) [] h
    ≡ noted_all reduce_key (trace desk (singly t (operations_in operations)) w) h
shown_singly = singles.shown_singly

-- Where it is told to wait, they come, answered so far, to one that is told to wait;
pub one_by_one_waits : (w : List ℕ) (t : ℕ) (operations : List ℕ) (set count : ℕ)
    → (desk (batch t operations) w).outcome.reply ≡ wait set count
    → ComesTo Waits (replies_of (trace desk (singly t (operations_in operations)) w))
one_by_one_waits = waits_singly

-- where it is refused for a reason of an operation, they come, answered so far, to one that is refused for such a
-- reason or told to wait.
pub one_by_one_refused : (w : List ℕ) (t : ℕ) (operations : List ℕ)
    → OperationRefused (desk (batch t operations) w).outcome.reply
    → ComesTo (λ (r : Reply). Waits r ⊎ OperationRefused r)
    (replies_of (trace desk (singly t (operations_in operations)) w))
one_by_one_refused = refused_singly

-- An empty batch is answered with no answers exactly where the book is sound and the transaction active, on a full log
-- too; it then leaves the book as it is, and the history notes nothing.
pub empty_batch : (w : List ℕ) (t : ℕ)
    → let r = desk (batch t []) w in
    ((r.outcome.reply ≡ answered []) ↔ (Sound base w × Active (decode base w) t))
    × (r.outcome.reply ≡ answered [] → (r.book ≡ w)
    × ((h : History) → noted reduce_key (batch t []) r.outcome.reply r.outcome.list h ≡ h))
empty_batch w t = (empty_exactly w t, λ said. (empty_leaves w t said, λ h. rw said (put_none h)))
