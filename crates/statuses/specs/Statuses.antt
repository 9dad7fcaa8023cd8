-- What passes over the statuses (words 1 to 64 of the book) keep and find.
use Rattle.std.specs.Prelude.{ℕ, suc, ◌<◌, ◌≤◌, ◌≡◌, true, false, ◌||◌, ◌⊎◌, eqb, Option, None, Some, MatchOption}
use Rattle.bitset.specs.Bitset.{has, Members}
use Rattle.store.specs.Store.{Status, absent, active, pseudo_committed}
use Rattle.store.specs.Layout.{status_word, read_status}
use Rattle.store.specs.Steps.{lowered}

-- The ranks seen, with one more: it joins where it is below 64 and new, and else is none that once-each ranks without
-- gaps can have.
abbrev pub Joined : ℕ → ℕ → Option ℕ → Type 0
Joined seen rank None = (64 ≤ rank) ⊎ (has seen rank ≡ true)
Joined seen rank (Some next) = (rank < 64) × (has seen rank ≡ false) × Members next (λ h. has seen h || eqb h rank)

-- What a status adds to the ranks seen, or to none.
abbrev pub Noted : Status → Option ℕ → Option ℕ → Type 0
Noted absent before after = after ≡ before
Noted active before after = after ≡ before
Noted (pseudo_committed rank) before after = MatchOption before (after ≡ None) (λ seen. Joined seen rank after)

-- Below each member all lower numbers are members.
abbrev pub Downward : ℕ → Type 0
Downward set = (n : ℕ) → has set (suc n) ≡ true → has set n ≡ true

-- There are ranks seen, and they are in order.
abbrev pub Ordered : Option ℕ → Type 0
Ordered ranks = MatchOption ranks ⊥ Downward

-- A status word once a rank has been taken out.
abbrev pub lowered_word : ℕ → ℕ → ℕ
lowered_word out x = status_word (lowered out (read_status x))
