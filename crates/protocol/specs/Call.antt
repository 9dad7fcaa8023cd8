-- A call as a value, with any arguments, and what serving it leaves: the definitions that the contracts of the calls
-- cite.
use Rattle.std.specs.Prelude.{ℕ, List, [], ◌∷◌}
use Rattle.operations.specs.Operations.{Answer, stored}
use Rattle.store.specs.Store.{Logged}
use Rattle.store.specs.Layout.{Format, base, or_pop}
use Rattle.store.proofs.Decisions.{whether_sound}
use Rattle.store.specs.Soundness.{Sound}
use Rattle.protocol.specs.Replies.{Served}
use Rattle.protocol.specs.Calls.{LentOperation}
use Rattle.protocol.specs.Calls as calls

pub data Call : Type 0 where
  set_up : (kinds : List ℕ) → Call
  begin : (transaction : ℕ) → Call
  operate : (transaction object operation key value : ℕ) → Call
  -- operations as words, four for each
  batch : (transaction : ℕ) (operations : List ℕ) → Call
  finish cancel : (transaction : ℕ) (list : List ℕ) → Call
  -- with its twin
  contents : (object : ℕ) → Call

-- A transaction's answered operations: each with its object, its key as reduced at the call, and its answer.
abbrev pub answered_operations : (ℕ → ℕ) → ℕ → List LentOperation → List Answer → List Logged
answered_operations reduce t [] answers = []
answered_operations reduce t (q ∷ qs) [] = []
answered_operations reduce t (q ∷ qs) (a ∷ answers) =
    let operation = or_pop (stored reduce q.number q.key q.value) in
    record { object = q.object; entry = record { transaction = t; operation = operation; answer = a } }
    ∷ answered_operations reduce t qs answers

abbrev pub step : (format : Format) → ((w : List ℕ) → Dec (Sound format w)) → Call → List ℕ → Served
step format whether_sound (set_up kinds) w = calls.set_up format w kinds
step format whether_sound (begin t) w = calls.begin format whether_sound w t
step format whether_sound (operate t o number k v) w = calls.operate format whether_sound w t o number k v
step format whether_sound (batch t operations) w = calls.batch format whether_sound w t operations
step format whether_sound (finish t list) w = calls.finish format whether_sound w t list
step format whether_sound (cancel t list) w = calls.cancel format whether_sound w t list
step format whether_sound (contents o) w = calls.contents format whether_sound w o

-- The desk of 01, as the requests of 02 that have landed leave it.
abbrev pub desk : Call → List ℕ → Served
desk = step base whether_sound

-- The number of the first reason that applies to a call; 0 where none does.
abbrev pub reason_of : Call → List ℕ → ℕ
reason_of (set_up kinds) w = calls.set_up_reason base w kinds
reason_of (begin t) w = calls.begin_reason base whether_sound w t
reason_of (operate t o number k v) w = calls.operate_reason base whether_sound w t o number k v
reason_of (batch t operations) w = calls.batch_reason base whether_sound w t operations
reason_of (finish t list) w = calls.end_reason base whether_sound w t list
reason_of (cancel t list) w = calls.end_reason base whether_sound w t list
reason_of (contents o) w = calls.contents_reason base whether_sound w o

-- The list lent to a call, empty where it takes none.
abbrev pub list_of : Call → List ℕ
list_of (set_up kinds) = []
list_of (begin t) = []
list_of (operate t o number k v) = []
list_of (batch t operations) = []
list_of (finish t list) = list
list_of (cancel t list) = list
list_of (contents o) = []
