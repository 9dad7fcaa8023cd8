-- Document 01, "Calls" and "Reasons for saying no", and 02: each call, from every word of a book and any arguments to
-- all that it leaves.
use Rattle.std.specs.Prelude.{ℕ, zero, suc, ◌-◌, ◌*◌, ◌%◌, Bool, true, false, cond, not, ◌&&◌, ◌||◌, List, [], ◌∷◌}
use Rattle.std.specs.Prelude.{◌++◌, map, eqb, ltb, leb, length, replicate, drop}
use Rattle.std.proofs.Math.Bool.{decide}
use Rattle.std.proofs.Math.Option.{Option, none, some}
use Rattle.operations.specs.Operations.{Kind, Operation, Answer, stored, answer, next}
use Rattle.operations.specs.PairRules.{recoverable, first_number, last_number}
use Rattle.operations.specs.Log.{Entry, after}
use Rattle.operations.specs.Operations.{adds}
use Rattle.bitset.specs.Bitset.{including, union, size}
use Rattle.store.specs.Store.{transaction_count, object_count, entry_limit, list_length}
use Rattle.store.specs.Store.{Status, absent, active, pseudo_committed, Store, status_of, object_of}
use Rattle.store.specs.Store.{pseudo_committed_count}
use Rattle.store.specs.Store.{on_object}
use Rattle.store.specs.Layout.{book_words, Format, encode, decode, read_kind, or_pop, joined, row_words}
use Rattle.store.proofs.Decisions.{whether_ready, whether_on_cycle}
use Rattle.store.specs.Soundness.{Sound}
use Rattle.store.specs.Steps.{appended, with_status}
use Rattle.protocol.specs.Replies.{Reply, ok, answered, wait, finished, committed, circle, cancelled, counted}
use Rattle.protocol.specs.Replies.{refused, outcome, Served, served}
use Rattle.protocol.specs.Ending.{ended, commit, Settlement, committed_first, settled_all}

-- ---- Operations lent as words (01, 02 No. 2)

-- An operation that a call asks for, as the words of a batch say it: its object, its number, its key or item, and its
-- value.
pub record LentOperation : Type 0 where
  pub object : ℕ
  pub number : ℕ
  pub key : ℕ
  pub value : ℕ

abbrev pub lent_operation : ℕ → ℕ → ℕ → ℕ → LentOperation
lent_operation o number k v = record { object = o; number = number; key = k; value = v }

-- The words of one, and how many a batch may have.
abbrev pub operation_words : ℕ
operation_words = 4

abbrev pub batch_limit : ℕ
batch_limit = 16

-- The operations lent as words, four for each. A part of one at the end is none of them; 12 refuses it.
abbrev pub operations_in : List ℕ → List LentOperation
operations_in [] = []
operations_in (o ∷ []) = []
operations_in (o ∷ number ∷ []) = []
operations_in (o ∷ number ∷ k ∷ []) = []
operations_in (o ∷ number ∷ k ∷ v ∷ l) = lent_operation o number k v ∷ operations_in l

-- ---- Reasons for saying no, as 01 and 02 number them

-- 1: the book isn't 3,937 words long.
abbrev pub wrong_length : List ℕ → Bool
wrong_length w = not (eqb (length w) book_words)

-- 2: the list given to finish or cancel is shorter than 64.
abbrev pub list_too_short : List ℕ → Bool
list_too_short list = ltb (length list) list_length

abbrev pub some_above : ℕ → List ℕ → Bool
some_above n [] = false
some_above n (k ∷ kinds) = ltb n k || some_above n kinds

-- 3: the kinds given to set up aren't 16 bytes, or one is above 3.
abbrev pub bad_kinds : List ℕ → Bool
bad_kinds kinds = not (eqb (length kinds) object_count) || some_above 3 kinds

-- 4: the book isn't sound.
abbrev pub unsound : {format : Format} → ((w : List ℕ) → Dec (Sound format w)) → List ℕ → Bool
unsound whether_sound w = not (decide (whether_sound w))

-- 5: the transaction's number is above 63.
abbrev pub above_last : ℕ → Bool
above_last t = ltb (transaction_count - 1) t

abbrev pub is_live : Status → Bool
is_live absent = false
is_live active = true
is_live (pseudo_committed rank) = true

-- 6: begin names a live one.
abbrev pub already_live : Store → ℕ → Bool
already_live s t = is_live (status_of s t)

abbrev pub is_active : Status → Bool
is_active absent = false
is_active active = true
is_active (pseudo_committed rank) = false

-- 7: operate, batch, finish or cancel names one that isn't active (open).
abbrev pub not_active : Store → ℕ → Bool
not_active s t = not (is_active (status_of s t))

abbrev pub is_none : Option Kind → Bool
is_none none = true
is_none (some kind) = false

-- 8: the object is above 15, which reads as of no kind, or of kind 0.
abbrev pub without_kind : Store → ℕ → Bool
without_kind s o = is_none (object_of s o).kind

-- The number is that of an operation of the kind.
abbrev pub is_of : Option Kind → ℕ → Bool
is_of none number = false
is_of (some kind) number = leb (first_number kind) number && leb number (last_number kind)

-- 9: the operation isn't one of that kind.
abbrev pub not_of_kind : Store → ℕ → ℕ → Bool
not_of_kind s o number = not (is_of (object_of s o).kind number)

-- 10: the log holds 256 entries; of an operation of a batch, with those before it entered (`limits`).
abbrev pub log_full : Store → Bool
log_full s = leb entry_limit (length s.log)

-- 11: a push or insert, of a key that is there already too, finds rows plus logged pushes and inserts of the object at
-- the limit; in a batch likewise.
abbrev pub no_room : Format → Store → ℕ → Operation → Bool
no_room format s o requested = adds requested && leb format.limit (format.used s o)

-- 12: more than 16 operations are lent; a part of one at the end counts as more than is allowed.
abbrev pub too_many : List ℕ → Bool
too_many operations =
    ltb (operation_words * batch_limit) (length operations) || not (eqb (length operations % operation_words) 0)

-- 8 and 9 of each of several: "the first operation with an 8 or 9 of its own gives the number".
abbrev pub own_reasons : Store → List LentOperation → List (ℕ × Bool)
own_reasons s [] = []
own_reasons s (q ∷ qs) = (8, without_kind s q.object) ∷ (9, not_of_kind s q.object q.number) ∷ own_reasons s qs

-- The number of the first reason that applies; 0 where none does.
abbrev pub first : List (ℕ × Bool) → ℕ
first [] = 0
first ((number, applies) ∷ later) = cond applies number (first later)

-- A call refused for a reason leaves book and list as they are, and hands back an empty part.
abbrev pub unless : ℕ → List ℕ → List ℕ → Served → Served
unless zero w list s = s
unless (suc n) w list s = served w (outcome (refused (suc n)) list [])

-- ---- What set up, operate and batch go by

-- An empty book of these kinds.
abbrev pub empty : List ℕ → Store
empty kinds =
    record {
      statuses = replicate transaction_count absent;
      objects = map (λ k. record { kind = read_kind k; rows = [] }) kinds;
      log = [];
    }

-- The owners that force a transaction's request to wait, as a set of 64 bits (02, No. 1): every other transaction with
-- an entry, of those on the object, that the request isn't recoverable against.
abbrev pub owners : ℕ → Operation → List (Entry Operation Answer) → ℕ
owners t requested [] = 0
owners t requested (e ∷ l) =
    cond (eqb e.transaction t || recoverable requested e.operation)
    (owners t requested l) (including e.transaction (owners t requested l))

-- The answer that replay gives after the object's rows and its entries in order.
abbrev pub answer_to : Operation → Store → ℕ → Answer
answer_to requested s o = answer requested (after next (on_object o s.log) (object_of s o).rows)

-- The request entered in the log with its answer.
abbrev pub entered : ℕ → ℕ → Operation → Store → Store
entered t o requested s =
    appended (
    record {
      object = o;
      entry = record { transaction = t; operation = requested; answer = answer_to requested s o };
    }
    ) s

-- ---- The calls

module _ (format : Format) where
  -- The operation that a call asks for, its arguments as stored. Its number names one where 9 does not apply.
  abbrev pub request : ℕ → ℕ → ℕ → Operation
  request number k v = or_pop (stored format.reduce number k v)

  abbrev pub requested : LentOperation → Operation
  requested q = request q.number q.key q.value

  -- One of several operations, entered.
  abbrev pub run : ℕ → LentOperation → Store → Store
  run t q s = entered t q.object (requested q) s

  -- They run in order, each seeing those before it: the store that they leave,
  abbrev pub run_all : ℕ → List LentOperation → Store → Store
  run_all t [] s = s
  run_all t (q ∷ qs) s = run_all t qs (run t q s)

  -- and their answers.
  abbrev pub answers_to : ℕ → List LentOperation → Store → List Answer
  answers_to t [] s = []
  answers_to t (q ∷ qs) s = answer_to (requested q) s q.object ∷ answers_to t qs (run t q s)

  -- All that force some of them to wait: the owners joined. A batch's own operations never force it to wait.
  abbrev pub awaited : ℕ → Store → List LentOperation → ℕ
  awaited t s [] = 0
  awaited t s (q ∷ qs) = union (awaited t s qs) (owners t (requested q) (on_object q.object s.log))

  -- Of each, whether it meets a limit with those before it entered: "The log and row limits now count the batch
  -- together".
  abbrev pub limits : ℕ → (Store → LentOperation → Bool) → ℕ → Store → List LentOperation → List (ℕ × Bool)
  limits number meets t s [] = []
  limits number meets t s (q ∷ qs) = (number, meets s q) ∷ limits number meets t (run t q s) qs

  -- Where the set of those that force a wait is empty, all are entered and answered; else told to wait for them, with
  -- nothing changed.
  abbrev pub respond : List ℕ → ℕ → List LentOperation → ℕ → Served
  respond w t qs zero =
      let s = decode format w in
      served (encode format (run_all t qs s)) (outcome (answered (answers_to t qs s)) [] [])
  respond w t qs (suc n) = served w (outcome (wait (suc n) (size (suc n))) [] [])

  -- Those that committed go to the list's front; the rest of the list keeps its bytes.
  abbrev pub concluded : (ℕ → Reply) → List ℕ → Settlement → Served
  concluded said list r =
      let n = length r.committed in
      served (encode format r.store) (outcome (said n) (r.committed ++ drop n list) [])

  -- Circle, and aborted; else committed; else finished, with the next rank.
  abbrev pub finish_active : Store → ℕ → List ℕ → Served
  finish_active s t list =
      cond (decide (whether_on_cycle s t)) (concluded circle list (settled_all (ended t s)))
      (cond (decide (whether_ready s.log t)) (concluded committed list (committed_first t (settled_all (commit t s))))
      (served (encode format (with_status t (pseudo_committed (pseudo_committed_count s)) s))
      (outcome finished list [])))

  abbrev pub set_up_reason : List ℕ → List ℕ → ℕ
  set_up_reason w kinds = first ((1, wrong_length w) ∷ (3, bad_kinds kinds) ∷ [])

  unfoldable pub set_up : List ℕ → List ℕ → Served
  set_up w kinds = unless (set_up_reason w kinds) w [] (served (encode format (empty kinds)) (outcome ok [] []))

  -- However soundness is decided: a decision of it has no choice.
  module _ (whether_sound : (w : List ℕ) → Dec (Sound format w)) where
    abbrev pub begin_reason : List ℕ → ℕ → ℕ
    begin_reason w t =
        first (
        (1, wrong_length w) ∷ (4, unsound whether_sound w) ∷ (5, above_last t) ∷ (6, already_live (decode format w) t)
        ∷ []
        )

    unfoldable pub begin : List ℕ → ℕ → Served
    begin w t =
        unless (begin_reason w t) w []
        (served (encode format (with_status t active (decode format w))) (outcome ok [] []))

    abbrev pub batch_reason : List ℕ → ℕ → List ℕ → ℕ
    batch_reason w t operations =
        let s = decode format w in
        let qs = operations_in operations in
        first (
        (1, wrong_length w) ∷ (4, unsound whether_sound w) ∷ (5, above_last t) ∷ (12, too_many operations)
        ∷ (7, not_active s t)
        ∷ (own_reasons s qs ++ (limits 10 (λ s q. log_full s) t s qs
        ++ limits 11 (λ s q. no_room format s q.object (requested q)) t s qs))
        )

    -- Up to 16 operations of one transaction, answered entirely or not at all (02, No. 2).
    unfoldable pub batch : List ℕ → ℕ → List ℕ → Served
    batch w t operations =
        let qs = operations_in operations in
        unless (batch_reason w t operations) w [] (respond w t qs (awaited t (decode format w) qs))

    -- Operate is the batch of one operation. 12 never applies to it.
    abbrev pub operate_reason : List ℕ → ℕ → ℕ → ℕ → ℕ → ℕ → ℕ
    operate_reason w t o number k v = batch_reason w t (o ∷ number ∷ k ∷ v ∷ [])

    unfoldable pub operate : List ℕ → ℕ → ℕ → ℕ → ℕ → ℕ → Served
    operate w t o number k v = batch w t (o ∷ number ∷ k ∷ v ∷ [])

    -- Of finish and of cancel.
    abbrev pub end_reason : List ℕ → ℕ → List ℕ → ℕ
    end_reason w t list =
        first (
        (1, wrong_length w) ∷ (2, list_too_short list) ∷ (4, unsound whether_sound w) ∷ (5, above_last t)
        ∷ (7, not_active (decode format w) t) ∷ []
        )

    unfoldable pub finish : List ℕ → ℕ → List ℕ → Served
    finish w t list = unless (end_reason w t list) w list (finish_active (decode format w) t list)

    unfoldable pub cancel : List ℕ → ℕ → List ℕ → Served
    cancel w t list =
        unless (end_reason w t list) w list (concluded cancelled list (settled_all (ended t (decode format w))))

    abbrev pub contents_reason : List ℕ → ℕ → ℕ
    contents_reason w o =
        first ((1, wrong_length w) ∷ (4, unsound whether_sound w) ∷ (8, without_kind (decode format w) o) ∷ [])

    -- The reply is the twin's; the rows, two words each, are what contents hands back: that part of the book itself.
    unfoldable pub contents : List ℕ → ℕ → Served
    contents w o =
        let rows = (object_of (decode format w) o).rows in
        unless (contents_reason w o) w [] (served w (outcome (counted (length rows)) [] (joined row_words rows)))
