-- How much room the parts of a line take at the most.
use Rattle.std.specs.Prelude.{ℕ, ◌+◌, ◌*◌, cond, List, eqb, length}
use Rattle.text.specs.Text.{ascii}
use Rattle.journal.specs.Records.{answered_code, Reply, nothing, wait, answered, ended}
use Rattle.listing.specs.Listing.{end_word}

-- A space and ten digits.
abbrev pub most_number : ℕ
most_number = 11

-- `wait`, how many owners there are, and each: a space and two digits.
abbrev pub most_wait : ℕ
most_wait = 4 + most_number + 3 * 64

-- The word of a reply code that is no wait's.
abbrev pub list_word : ℕ → List ℕ
list_word replyCode = cond (eqb replyCode answered_code) (ascii "answer") (end_word replyCode)

abbrev pub most_reply : Reply → ℕ
most_reply nothing = 2
most_reply (wait owners) = most_wait
most_reply (answered answers) = 6 + most_number * length answers
most_reply (ended replyCode list) = 9 + most_number * length list
