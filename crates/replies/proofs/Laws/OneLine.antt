-- A reply is printed without a line feed.
use Rattle.std.specs.Prelude.{ℕ, refl, List, [], ◌∷◌}
use Prim.Native.Char.{code}
use Rattle.std.proofs.Common.{arith}
use Rattle.protocol.specs.Replies.{Reply, ok, answered, wait, finished, committed, circle, cancelled, counted, refused}
use Rattle.text.specs.Text.{decimal}
use Rattle.text.proofs.Laws.Lines.{Without, without_computed, without_append, decimal_without}
use Rattle.replies.specs.Printed.{word_of, printed_numbers, spaced, printed}

word_without : (reply : Reply) → Without (code "\n") (word_of reply)
word_without ok = without_computed (code "\n") (word_of ok) refl
word_without (answered answers) = without_computed (code "\n") (word_of (answered answers)) refl
word_without (wait owners count) = without_computed (code "\n") (word_of (wait owners count)) refl
word_without finished = without_computed (code "\n") (word_of finished) refl
word_without (committed count) = without_computed (code "\n") (word_of (committed count)) refl
word_without (circle count) = without_computed (code "\n") (word_of (circle count)) refl
word_without (cancelled count) = without_computed (code "\n") (word_of (cancelled count)) refl
word_without (counted rows) = without_computed (code "\n") (word_of (counted rows)) refl
word_without (refused reason) = without_computed (code "\n") (word_of (refused reason)) refl

fields_without : (numbers : List ℕ) → Without (code "\n") (spaced numbers)
fields_without [] = tt
fields_without (n ∷ numbers) = (
  refl,
  without_append (code "\n") (decimal n) (spaced numbers) (decimal_without (code "\n") (omega arith) n)
      (fields_without numbers),
)

pub printed_without : (reply : Reply) (list : List ℕ) → Without (code "\n") (printed reply list)
unfolding printed
printed_without reply list =
    without_append (code "\n") (word_of reply) (spaced (printed_numbers reply list)) (word_without reply)
    (fields_without (printed_numbers reply list))
