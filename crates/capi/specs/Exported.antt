-- Replies as the C interface writes them.
use Rattle.std.specs.Prelude.{ℕ, ◌+◌, ◌*◌, ◌≡◌, cond, List, map, eqb, length, take, drop}
use Rattle.operations.specs.Operations.{Answer}
use Rattle.store.specs.Layout.{base, rows_start}
use Rattle.store.proofs.Decisions.{whether_sound}
use Rattle.protocol.specs.Replies.{Served}
use Rattle.protocol.specs.ReplyOf.{answers_in, filled}
use Rattle.protocol.specs.Calls as calls
use Rattle.codes.specs.Codes.{numbers_of}
use Rattle.codes.specs.declared.Numbers.{Numbers}
use Rattle.capi.specs.declared.Accepted.{Accepted}
use Rattle.capi.specs.declared.Operated.{Operated}
use Rattle.capi.specs.declared.Batched.{Batched}
use Rattle.capi.specs.declared.Ended.{Ended}
use Rattle.capi.specs.declared.Part.{Part}

abbrev pub accepted : Numbers → Accepted
accepted n = record { refusal = n.refusal }

abbrev pub operated : Numbers → Operated
operated n =
    record {
      refusal = n.refusal;
      code = n.code;
      owners = n.owners;
      count = n.count;
      answer = n.answer;
      value = n.value;
    }

-- Of a batch: `count` is how many answers, or how many owners of a wait; places past the answers are 0 0.
abbrev pub batched : List Answer → Numbers → Batched
batched answers n =
    record {
      refusal = n.refusal;
      code = n.code;
      owners = n.owners;
      count = n.count + length answers;
      answers = map (λ a. record { code = a.code; value = a.value }) (filled answers);
    }

abbrev pub ended : Numbers → Ended
ended n = record { refusal = n.refusal; code = n.code; count = n.count }

-- An object's rows start behind its kind and their number.
abbrev pub part : ℕ → Numbers → Part
part object n =
    record {
      refusal = n.refusal;
      start = cond (eqb n.refusal 0) (rows_start object) 0;
      rows = n.rows;
    }

-- The part of the book that these numbers name is what contents hands back.
abbrev pub Handed : List ℕ → ℕ → Part → Type 0
Handed book object p =
    let handed : Served = calls.contents base whether_sound book object in
    (p ≡ part object (numbers_of handed.outcome.reply))
    × (take (2 * p.rows) (drop p.start book) ≡ handed.outcome.rows)

-- All that an exported call leaves: every word of the book, every byte of the list, none where the call takes none, and
-- its reply.
pub record Exported (A : Type 0) : Type 0 where
  pub book : List ℕ
  pub list : List ℕ
  pub reply : A

module _ {A : Type 0} where
  abbrev pub exported : List ℕ → List ℕ → A → Exported A
  exported book list reply = record { book = book; list = list; reply = reply }

  -- What a call leaves, its reply's numbers written so.
  abbrev pub written : (Numbers → A) → Served → Exported A
  written write s = exported s.book s.outcome.list (write (numbers_of s.outcome.reply))

-- What a batch leaves, with its answers.
abbrev pub written_answers : Served → Exported Batched
written_answers s = written (batched (answers_in s.outcome.reply)) s
