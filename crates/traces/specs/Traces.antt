-- That the desk says so: the events of each case are those of serving its calls, from the book that the set up writes
-- over any words.
use Rattle.std.specs.Prelude.{ℕ, ◌≡◌, refl, List}
use Rattle.bitset.specs.Bitset.{has, members_from, members}
use Rattle.store.specs.Layout.{BookLong}
use Rattle.protocol.specs.Replies.{ok}
use Rattle.protocol.specs.Call.{set_up, desk}
use Rattle.history.specs.History.{trace}
use Rattle.history.proofs.Cases.{calls_of, whole_kinds, whole_case, twice_kinds, twice_used, batched_kinds, batched}
use Rattle.traces.specs.Laws.Computing.{unchecked, trace_computed}

pub whole_case_trace : (w : List ℕ) → BookLong w
    → ((desk (set_up whole_kinds) w).outcome.reply ≡ ok)
    × (trace desk (calls_of whole_case) (desk (set_up whole_kinds) w).book ≡ whole_case)
unfolding unchecked members members_from has
whole_case_trace = trace_computed whole_kinds refl (calls_of whole_case)

pub twice_used_trace : (w : List ℕ) → BookLong w
    → ((desk (set_up twice_kinds) w).outcome.reply ≡ ok)
    × (trace desk (calls_of twice_used) (desk (set_up twice_kinds) w).book ≡ twice_used)
unfolding unchecked members members_from has
twice_used_trace = trace_computed twice_kinds refl (calls_of twice_used)

pub in_batches_trace : (w : List ℕ) → BookLong w
    → ((desk (set_up batched_kinds) w).outcome.reply ≡ ok)
    × (trace desk (calls_of batched) (desk (set_up batched_kinds) w).book ≡ batched)
unfolding unchecked members members_from has
in_batches_trace = trace_computed batched_kinds refl (calls_of batched)
