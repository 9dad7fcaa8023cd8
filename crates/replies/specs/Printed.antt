-- Document 01, "Script program", and 02: a reply as it is printed, without its line feed.
use Rattle.std.specs.Prelude.{ℕ, List, [], ◌∷◌, ◌++◌, take}
use Prim.Native.Char.{code}
use Rattle.bitset.specs.Bitset.{members}
use Rattle.protocol.specs.Replies.{Reply, ok, answered, wait, finished, committed, circle, cancelled, counted, refused}
use Rattle.protocol.specs.Replies.{answer_numbers}
use Rattle.text.specs.Text.{ascii, decimal}

-- The twin of contents has no letter: no script's line is answered with how many rows were counted.
abbrev pub word_of : Reply → List ℕ
word_of ok = ascii "ok"
word_of (answered answers) = ascii "answer"
word_of (wait owners count) = ascii "wait"
word_of finished = ascii "finished"
word_of (committed count) = ascii "committed"
word_of (circle count) = ascii "circle"
word_of (cancelled count) = ascii "cancelled"
word_of (counted rows) = ascii "counted"
word_of (refused reason) = ascii "refused"

-- The numbers behind the word: of a wait how many owners, then these, ascending (02, No. 1); those that committed stand
-- at the front of the list.
abbrev pub printed_numbers : Reply → List ℕ → List ℕ
printed_numbers ok list = []
printed_numbers (answered answers) list = answer_numbers answers
printed_numbers (wait owners count) list = count ∷ members owners
printed_numbers finished list = []
printed_numbers (committed count) list = take count list
printed_numbers (circle count) list = take count list
printed_numbers (cancelled count) list = take count list
printed_numbers (counted rows) list = rows ∷ []
printed_numbers (refused reason) list = reason ∷ []

-- Numbers, a space before each.
abbrev pub spaced : List ℕ → List ℕ
spaced [] = []
spaced (n ∷ numbers) = code " " ∷ (decimal n ++ spaced numbers)

unfoldable pub printed : Reply → List ℕ → List ℕ
printed reply list = word_of reply ++ spaced (printed_numbers reply list)
