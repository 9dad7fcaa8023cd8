-- What a call replies and hands back.
use Rattle.std.specs.Prelude.{ℕ, List, [], ◌∷◌}
use Rattle.operations.specs.Operations.{Answer}

-- The replies of documents 01 and 02, in their words.
pub data Reply : Type 0 where
  ok : Reply
  -- the answers of the call's operations in order, each a code and a value; operate has one
  answered : (answers : List Answer) → Reply
  -- the owners whose entries force the wait, as a set of 64 bits, and their number (02, No. 1)
  wait : (owners count : ℕ) → Reply
  finished : Reply
  -- how many the list names
  committed circle cancelled : (count : ℕ) → Reply
  -- by the twin of contents: how many rows
  counted : (rows : ℕ) → Reply
  -- the number of the reason
  refused : (reason : ℕ) → Reply

-- The reply, the bytes of the lent list afterwards, and the words of the part of the book handed back; empty where the
-- call has none.
pub record Outcome : Type 0 where
  pub reply : Reply
  pub list : List ℕ
  pub rows : List ℕ

abbrev pub outcome : Reply → List ℕ → List ℕ → Outcome
outcome reply list rows = record { reply = reply; list = list; rows = rows }

-- All that a call leaves: every word of the book, and its outcome.
pub record Served : Type 0 where
  pub book : List ℕ
  pub outcome : Outcome

abbrev pub served : List ℕ → Outcome → Served
served book out = record { book = book; outcome = out }

-- The numbers of answers: code and value of each in turn.
abbrev pub answer_numbers : List Answer → List ℕ
answer_numbers [] = []
answer_numbers (a ∷ answers) = a.code ∷ a.value ∷ answer_numbers answers
