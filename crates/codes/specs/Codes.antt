-- Replies as numbers.
use Rattle.std.specs.Prelude.{ℕ, get_or}
use Rattle.protocol.specs.Replies.{Reply, ok, answered, wait, finished, committed, circle, cancelled, counted, refused}
use Rattle.codes.specs.declared.Numbers.{Numbers}

abbrev numbers : (refusal code owners answer value count rows : ℕ) → Numbers
numbers refusal code owners answer value count rows =
    record {
      refusal = refusal;
      code = code;
      owners = owners;
      answer = answer;
      value = value;
      count = count;
      rows = rows;
    }

-- Of a reply that counts those in the list.
abbrev listed : (code count : ℕ) → Numbers
listed code count = numbers 0 code 0 0 0 count 0

-- The numbers of a reply, those that it doesn't have 0: the reason for saying no; the reply code of 02, No. 3; of a
-- wait the set of owners; the first answer; how many owners, or how many the list names; how many rows. A batch's
-- answers stand beside the numbers.
abbrev pub numbers_of : Reply → Numbers
numbers_of ok = numbers 0 0 0 0 0 0 0
numbers_of (wait owners count) = numbers 0 0 owners 0 0 count 0
numbers_of (answered answers) =
    let first = get_or answers 0 (record { code = 0; value = 0 }) in
    numbers 0 1 0 first.code first.value 0 0
numbers_of finished = numbers 0 2 0 0 0 0 0
numbers_of (committed count) = listed 3 count
numbers_of (circle count) = listed 4 count
numbers_of (cancelled count) = listed 5 count
numbers_of (counted rows) = numbers 0 0 0 0 0 0 rows
numbers_of (refused reason) = numbers reason 0 0 0 0 0 0
