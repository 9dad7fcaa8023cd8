-- Replies as they are printed. Of a list, only as many are as the reply counts. The third and fourth answers are those
-- of a batch of none and of two; the second wait is for 1, 4 and 63.
use Rattle.std.specs.Prelude.{ℕ, ◌≡◌, refl, List, [], ◌∷◌}
use Prim.Native.String.{String}
use Rattle.operations.specs.Operations.{answering}
use Rattle.bitset.specs.Bitset.{has, members_from, members}
use Rattle.protocol.specs.Replies.{Reply, ok, answered, wait, finished, committed, circle, cancelled, refused}
use Rattle.text.specs.Text.{ascii, decimal_within, decimal}
use Rattle.replies.specs.Printed.{printed}

abbrev pub Prints : Reply → List ℕ → String → Type 0
Prints reply list text = printed reply list ≡ ascii text

pub replies : Prints ok [] "ok"
    × Prints ok (1 ∷ 2 ∷ []) "ok"
    × Prints (answered (answering 1 4_294_967_295 ∷ [])) [] "answer 1 4294967295"
    × Prints (answered (answering 0 0 ∷ [])) [] "answer 0 0"
    × Prints (answered []) [] "answer"
    × Prints (answered (answering 1 70 ∷ answering 0 0 ∷ [])) [] "answer 1 70 0 0"
    × Prints (wait 1 1) [] "wait 1 0"
    × Prints (wait 9_223_372_036_854_775_826 3) [] "wait 3 1 4 63"
    × Prints finished (0 ∷ 0 ∷ []) "finished"
    × Prints (committed 2) (0 ∷ 1 ∷ 0 ∷ 0 ∷ []) "committed 0 1"
    × Prints (circle 1) (0 ∷ 7 ∷ []) "circle 0"
    × Prints (cancelled 0) (5 ∷ 6 ∷ []) "cancelled"
    × Prints (cancelled 2) (63 ∷ 10 ∷ 5 ∷ []) "cancelled 63 10"
    × Prints (refused 10) [] "refused 10"
unfolding printed decimal decimal_within members members_from has
replies = (refl, refl, refl, refl, refl, refl, refl, refl, refl, refl, refl, refl, refl, refl)
