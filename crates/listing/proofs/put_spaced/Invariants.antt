-- `listing::put_spaced`: the numbers passed are put.
use Rattle.std.proofs.Common.{◌≡◌, ◌+◌, ◌*◌, ◌≤◌, ◌++◌, take}
use Rattle.arrayvec.specs.ArrayVec.{array_vec_len}
use Rattle.replies.specs.Printed.{spaced}
use Rattle.listing.specs.Room.{most_number}
use Rattle.listing.proofs.put_spaced.Given as goal

abbrev pub invariant-loop-number : goal.invariant-loop-number
invariant-loop-number g l =
    (l.out.items ≡ l.initial.out.items ++ spaced (take l.number-index l.numbers))
    × (array_vec_len l.out ≤ array_vec_len l.initial.out + most_number * l.number-index)
