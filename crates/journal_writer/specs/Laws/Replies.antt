-- Which reply a record of the code has, by its letter and its reply code.
use Rattle.std.specs.Prelude.{◌≤◌, ◌≡◌, true, false}
use Rattle.std.proofs.Common.{arith, eq-eqb, ne_eqb}
use Rattle.bitset.specs.Bitset.{members}
use Rattle.journal.specs.Records.{has_reply, nothing, wait, answered, ended}
use Rattle.journal.specs.Coded.{front, answer_count, reply_of}
use Rattle.journal.specs.declared.Record.{Record}

module _ (r : Record) where
  pub no_reply : has_reply r.letter ≡ false → reply_of r ≡ nothing
  no_reply e = rw e

  module _ (replies : has_reply r.letter ≡ true) where
    pub a_wait : r.code ≡ 0 → reply_of r ≡ wait (members r.owners)
    a_wait e = rw (replies, eq-eqb r.code 0 e)

    pub an_answer : r.code ≡ 1 → reply_of r ≡ answered (front (answer_count r.letter r.operations) r.numbers)
    an_answer e = rw (replies, ne_eqb r.code 0 (λ z. omega arith), eq-eqb r.code 1 e)

    pub an_end : 2 ≤ r.code → reply_of r ≡ ended r.code (front r.listed r.numbers)
    an_end more = rw (replies, ne_eqb r.code 0 (λ z. omega arith), ne_eqb r.code 1 (λ z. omega arith))
