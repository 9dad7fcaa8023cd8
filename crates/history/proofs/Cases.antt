-- That the history says something: of document 01's whole case, and of two lists more, events and history, written out.
-- The crate `traces` proves that the events are those of the desk.
use Rattle.std.specs.Prelude.{ℕ, ◌≡◌, refl, false, List, [], ◌∷◌, map, get_or, replicate}
use Rattle.std.proofs.Common.{ap, arith}
use Rattle.operations.specs.Operations.{Operation, on_stack, on_set, on_table, push, pop, top, member, table_insert}
use Rattle.operations.specs.Operations.{lookup}
use Rattle.operations.specs.Operations.{size, modify, Answer, answering, row, reduce_key, by_order}
use Rattle.operations.specs.Log.{one}
use Rattle.store.specs.Store.{Logged}
use Rattle.protocol.specs.Replies.{Reply, ok, answered, wait, finished, committed, circle, cancelled, counted, refused}
use Rattle.protocol.specs.Replies.{outcome}
use Rattle.protocol.specs.Call.{Call, set_up, begin, operate, batch, finish, cancel, contents}
use Rattle.protocol.proofs.Laws.Protocol.{clash}
use Rattle.history.specs.History.{Event, SetUpRefused, Committed, History, history, serial, empty_objects, answers}
use Rattle.history.specs.History.{committed_contents, written, after_dropping, Unaltered}

-- A call and its reply, where no list or part is handed back.
abbrev says : Call → Reply → Event
says call reply = record { call = call; outcome = outcome reply [] [] }

-- A call that lends a list, with the list afterwards.
abbrev lists : Call → Reply → List ℕ → Event
lists call reply list = record { call = call; outcome = outcome reply list [] }

abbrev logged : ℕ → ℕ → Operation → Answer → Logged
logged t o operation answer =
    record { object = o; entry = record { transaction = t; operation = operation; answer = answer } }

abbrev group : ℕ → List Logged → Committed
group t operations = record { transaction = t; operations = operations }

abbrev pub calls_of : List Event → List Call
calls_of = map (λ (e : Event). e.call)

-- ---- Document 01's whole case

-- The list that finish and cancel are lent.
abbrev lent : List ℕ
lent = replicate 64 0

abbrev pub whole_kinds : List ℕ
whole_kinds = 1 ∷ 2 ∷ 3 ∷ replicate 13 0

abbrev pub whole_case : List Event
whole_case =
    says (begin 0) ok
    ∷ says (begin 1) ok
    ∷ says (operate 0 0 1 7 0) (answered (answering 1 0 ∷ []))
    ∷ says (operate 1 0 1 9 0) (answered (answering 1 0 ∷ []))
    ∷ says (operate 1 0 3 0 0) (wait 1 1)
    ∷ lists (finish 1 lent) finished lent
    ∷ lists (finish 0 lent) (committed 2) (0 ∷ 1 ∷ replicate 62 0)
    ∷ says (begin 2) ok
    ∷ says (operate 2 0 2 0 0) (answered (answering 1 9 ∷ []))
    ∷ lists (cancel 2 lent) (cancelled 0) lent
    ∷ []

abbrev pub whole_history : History
whole_history =
    record {
      committed =
          group 0 (logged 0 0 (on_stack (push 7)) (answering 1 0) ∷ [])
          ∷ group 1 (logged 1 0 (on_stack (push 9)) (answering 1 0) ∷ []) ∷ [];
      live = [];
      answered = [];
    }

pub whole_case_lem : (history reduce_key whole_case ≡ whole_history)
    × Unaltered (serial whole_history.committed)
    × (committed_contents whole_history 0 ≡ row 7 0 ∷ row 9 0 ∷ [])
unfolding reduce_key by_order
whole_case_lem = (refl, refl, refl)

-- ---- A wait, a circle and a cancel that commit others, numbers used again, refusals, lists of more than 64 bytes,
-- contents beside live transactions, keys with a maker's mark and an item above them, and a transaction that commits
-- without operations

-- The second time, transaction 0 begins before transaction 1, has the lower number, and commits after it.

abbrev long : List ℕ
long = replicate 70 255

abbrev pub twice_kinds : List ℕ
twice_kinds = 1 ∷ 1 ∷ 2 ∷ 3 ∷ replicate 12 0

abbrev pub twice_used : List Event
twice_used =
    says (set_up (1 ∷ 4 ∷ [])) (refused 3)
    ∷ says (begin 0) ok
    ∷ says (begin 1) ok
    ∷ says (operate 0 0 1 5 0) (answered (answering 1 0 ∷ []))
    ∷ says (operate 1 0 1 6 0) (answered (answering 1 0 ∷ []))
    ∷ says (operate 1 1 1 7 0) (answered (answering 1 0 ∷ []))
    ∷ says (operate 0 1 1 8 0) (answered (answering 1 0 ∷ []))
    ∷ says (operate 0 0 3 0 0) (wait 2 1)
    ∷ says (operate 1 3 7 16_777_221 3) (answered (answering 1 0 ∷ []))
    ∷ says (operate 1 3 9 5 0) (answered (answering 1 3 ∷ []))
    ∷ lists (finish 0 long) finished long
    ∷ lists (finish 1 long) (circle 1) (0 ∷ replicate 69 255)
    ∷ says (begin 0) ok
    ∷ says (begin 1) ok
    ∷ says (operate 1 3 9 5 0) (answered (answering 0 0 ∷ []))
    ∷ says (operate 1 0 3 0 0) (answered (answering 1 5 ∷ []))
    ∷ says (operate 1 0 1 10 0) (answered (answering 1 0 ∷ []))
    ∷ says (operate 0 0 1 11 0) (answered (answering 1 0 ∷ []))
    ∷ says (operate 0 3 7 33_554_441 4) (answered (answering 1 0 ∷ []))
    ∷ says (operate 0 3 10 0 0) (answered (answering 1 1 ∷ []))
    ∷ says (operate 0 3 11 9 6) (answered (answering 1 0 ∷ []))
    ∷ says (operate 0 2 6 3 0) (answered (answering 0 0 ∷ []))
    ∷ lists (finish 0 lent) finished lent
    ∷ lists (finish 1 lent) (committed 2) (1 ∷ 0 ∷ replicate 62 0)
    ∷ says (contents 4) (refused 8)
    ∷ says (begin 2) ok
    ∷ says (operate 2 0 2 0 0) (answered (answering 1 11 ∷ []))
    ∷ says (begin 3) ok
    ∷ says (operate 3 0 1 16_777_228 0) (answered (answering 1 0 ∷ []))
    ∷ record { call = contents 3; outcome = outcome (counted 1) [] (9 ∷ 6 ∷ []) }
    ∷ lists (cancel 3 []) (refused 2) []
    ∷ lists (finish 3 lent) finished lent
    ∷ lists (cancel 2 long) (cancelled 1) (3 ∷ replicate 69 255)
    ∷ says (begin 0) ok
    ∷ lists (finish 0 lent) (committed 1) (0 ∷ replicate 63 0)
    ∷ says (begin 0) ok
    ∷ lists (cancel 0 lent) (cancelled 0) lent
    ∷ says (begin 2) ok
    ∷ says (operate 2 0 2 0 0) (answered (answering 1 16_777_228 ∷ []))
    ∷ []

abbrev pub twice_history : History
twice_history =
    record {
      committed =
          group 0 (logged 0 0 (on_stack (push 5)) (answering 1 0) ∷ logged 0 1 (on_stack (push 8)) (answering 1 0) ∷ [])
          ∷ group 1 (
          logged 1 3 (on_table (lookup 5)) (answering 0 0)
          ∷ logged 1 0 (on_stack top) (answering 1 5)
          ∷ logged 1 0 (on_stack (push 10)) (answering 1 0)
          ∷ []
          )
          ∷ group 0 (
          logged 0 0 (on_stack (push 11)) (answering 1 0)
          ∷ logged 0 3 (on_table (table_insert 9 4)) (answering 1 0)
          ∷ logged 0 3 (on_table size) (answering 1 1)
          ∷ logged 0 3 (on_table (modify 9 6)) (answering 1 0)
          ∷ logged 0 2 (on_set (member 3)) (answering 0 0)
          ∷ []
          )
          ∷ group 3 (logged 3 0 (on_stack (push 16_777_228)) (answering 1 0) ∷ [])
          ∷ group 0 []
          ∷ [];
      live = 2 ∷ [];
      answered = logged 2 0 (on_stack pop) (answering 1 16_777_228) ∷ [];
    }

pub twice_used_lem : (history reduce_key twice_used ≡ twice_history)
    × Unaltered (serial twice_history.committed)
    × Unaltered (after_dropping (λ t. false) twice_history)
    × (map (committed_contents twice_history) (0 ∷ 1 ∷ 2 ∷ 3 ∷ [])
    ≡ (row 5 0 ∷ row 10 0 ∷ row 11 0 ∷ row 16_777_228 0 ∷ []) ∷ (row 8 0 ∷ []) ∷ [] ∷ (row 9 6 ∷ []) ∷ [])
    × (written (committed_contents twice_history 3) ≡ outcome (counted 1) [] (9 ∷ 6 ∷ []))
unfolding reduce_key by_order
twice_used_lem = (refl, refl, refl, refl, refl)

-- ---- Batches (02, No. 2)

-- One is answered, with operations on two objects; one waits for its second operation, and its first isn't shown; one
-- waits for the owners of both of its operations; an empty one is answered, and shows nothing; one is refused for its
-- first operation, of another kind, and not for its second, on an object of kind 0, and one the other way round; two
-- end in a part of an operation, one of them of an absent transaction; empty ones of this and of 64 are refused; and in
-- the last, operations see those before them.

abbrev pub batched_kinds : List ℕ
batched_kinds = 1 ∷ 3 ∷ 1 ∷ replicate 13 0

abbrev pub batched : List Event
batched =
    says (begin 0) ok
    ∷ says (begin 1) ok
    ∷ says (begin 2) ok
    ∷ says (batch 0 (0 ∷ 1 ∷ 7 ∷ 0 ∷ 1 ∷ 7 ∷ 16_777_221 ∷ 3 ∷ [])) (answered (answering 1 0 ∷ answering 1 0 ∷ []))
    ∷ says (batch 2 (2 ∷ 1 ∷ 8 ∷ 0 ∷ [])) (answered (answering 1 0 ∷ []))
    ∷ says (batch 1 (1 ∷ 7 ∷ 6 ∷ 4 ∷ 0 ∷ 3 ∷ 0 ∷ 0 ∷ [])) (wait 1 1)
    ∷ says (batch 1 (0 ∷ 3 ∷ 0 ∷ 0 ∷ 2 ∷ 3 ∷ 0 ∷ 0 ∷ [])) (wait 5 2)
    ∷ says (batch 1 []) (answered [])
    ∷ says (batch 1 (0 ∷ 4 ∷ 5 ∷ 0 ∷ 3 ∷ 1 ∷ 5 ∷ 0 ∷ [])) (refused 9)
    ∷ says (batch 1 (3 ∷ 1 ∷ 5 ∷ 0 ∷ 0 ∷ 4 ∷ 5 ∷ 0 ∷ [])) (refused 8)
    ∷ says (batch 1 (1 ∷ 7 ∷ 6 ∷ 4 ∷ 0 ∷ 3 ∷ [])) (refused 12)
    ∷ says (batch 3 (1 ∷ 7 ∷ 6 ∷ 4 ∷ 0 ∷ 3 ∷ [])) (refused 12)
    ∷ says (batch 3 []) (refused 7)
    ∷ says (batch 64 []) (refused 5)
    ∷ lists (finish 0 lent) (committed 1) (0 ∷ replicate 63 0)
    ∷ says (batch 1 (0 ∷ 2 ∷ 0 ∷ 0 ∷ 0 ∷ 3 ∷ 0 ∷ 0 ∷ 1 ∷ 7 ∷ 6 ∷ 4 ∷ 1 ∷ 9 ∷ 6 ∷ 0 ∷ []))
    (answered (answering 1 7 ∷ answering 0 0 ∷ answering 1 0 ∷ answering 1 4 ∷ []))
    ∷ []

abbrev pub batched_history : History
batched_history =
    record {
      committed =
          group 0 (
          logged 0 0 (on_stack (push 7)) (answering 1 0) ∷ logged 0 1 (on_table (table_insert 5 3)) (answering 1 0) ∷ []
          )
          ∷ [];
      live = 1 ∷ 2 ∷ [];
      answered =
          logged 2 2 (on_stack (push 8)) (answering 1 0)
          ∷ logged 1 0 (on_stack pop) (answering 1 7)
          ∷ logged 1 0 (on_stack top) (answering 0 0)
          ∷ logged 1 1 (on_table (table_insert 6 4)) (answering 1 0)
          ∷ logged 1 1 (on_table (lookup 6)) (answering 1 4)
          ∷ [];
    }

pub in_batches : (history reduce_key batched ≡ batched_history)
    × Unaltered (serial batched_history.committed)
    × Unaltered (after_dropping (λ t. false) batched_history)
    × (map (committed_contents batched_history) (0 ∷ 1 ∷ 2 ∷ []) ≡ (row 7 0 ∷ []) ∷ (row 5 3 ∷ []) ∷ [] ∷ [])
unfolding reduce_key by_order
in_batches = (refl, refl, refl, refl)

-- ---- Serving can belie an answer

-- A top that was answered past another transaction's push gets another value where that one is dropped. What its number
-- committed before stays.
abbrev past : History
past =
    record {
      committed = group 0 (logged 0 0 (on_stack (push 4)) (answering 1 0) ∷ []) ∷ [];
      live = 1 ∷ 0 ∷ [];
      answered = logged 0 0 (on_stack (push 5)) (answering 1 0) ∷ logged 1 0 (on_stack top) (answering 1 5) ∷ [];
    }

pub belied : Unaltered (after_dropping (λ t. false) past)
    × (answers (after_dropping (one 0) past) empty_objects ≡ answering 1 0 ∷ answering 1 4 ∷ [])
    × (Unaltered (after_dropping (one 0) past) → ⊥)
belied = (refl, refl, λ e. omega (arith, ap (λ (l : List Answer). (get_or l 1 (answering 0 0)).value) e))

-- ---- Which lists the theorem is about

-- A begin may stand in the list, and so may a set up that is refused, but none that is accepted.
pub set_ups : SetUpRefused (says (begin 0) ok) × SetUpRefused (says (set_up (1 ∷ 4 ∷ [])) (refused 3))
    × (SetUpRefused (says (set_up whole_kinds) ok) → ⊥)
set_ups = (λ kinds e. clash cc, λ kinds e. (3, refl), λ p. let e = (p whole_kinds refl).1 in clash cc)
