-- `replies::put_front`: the bytes that are not left are put.
use Rattle.std.proofs.Common.{ℕ, ◌≡◌, ◌+◌, ◌*◌, ◌≤◌, ◌++◌, take, length, Fits, w8, slice_index_or}
use Rattle.arrayvec.specs.ArrayVec.{array_vec_len}
use Rattle.replies.specs.Printed.{spaced}
use Rattle.replies.proofs.put_front.Given as goal

abbrev pub invariant-loop-byte : goal.invariant-loop-byte
invariant-loop-byte g l =
    (l.out.items ++ spaced (take l.byte-iterator.n l.byte-iterator.iter.rest.now)
    ≡ l.initial.out.items ++ spaced (take l.count l.list))
    × (array_vec_len l.out + 4 * length l.byte-iterator.iter.rest.now
    ≤ array_vec_len l.initial.out + 4 * length l.list)
    × ((i : ℕ) → Fits w8 (slice_index_or l.byte-iterator.iter.rest.now i 0))
