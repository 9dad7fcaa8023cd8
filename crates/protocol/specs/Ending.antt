-- Document 01, "Calls": how a transaction (handout) ends, and who commits then.
use Rattle.std.specs.Prelude.{ℕ, zero, suc, Bool, false, cond, ◌&&◌, List, [], ◌∷◌, eqb}
use Rattle.std.proofs.Math.Bool.{decide}
use Rattle.std.proofs.Math.Option.{Option, none, some}
use Rattle.store.specs.Store.{transaction_count, Status, absent, active, pseudo_committed, Logged, Store, status_of}
use Rattle.store.specs.Store.{pseudo_committed_count}
use Rattle.store.proofs.Decisions.{whether_ready}
use Rattle.store.specs.Steps.{dropped, folded, with_status, closed_up}

-- The transaction's entries carried into the rows, in order.
abbrev pub carried_out : ℕ → List Logged → Store → Store
carried_out t [] s = s
carried_out t (l ∷ log) s =
    carried_out t log (cond (eqb l.entry.transaction t) (folded l.object l.entry.operation s) s)

-- Ranks close up where one with a rank has ended.
abbrev pub closed_after : Status → Store → Store
closed_after absent s = s
closed_after active s = s
closed_after (pseudo_committed rank) s = closed_up rank s

-- The transaction ends: its entries leave the log.
abbrev pub ended : ℕ → Store → Store
ended t s = closed_after (status_of s t) (with_status t absent (dropped t s))

-- It commits: its entries are carried into the rows, and it ends.
abbrev pub commit : ℕ → Store → Store
commit t s = ended t (carried_out t s.log s)

-- ---- The transactions that then commit

abbrev pub or_else : Option ℕ → Option ℕ → Option ℕ
or_else none later = later
or_else (some t) later = some t

-- The first that is given for a number below n.
unfoldable pub first_below : ℕ → (ℕ → Option ℕ) → Option ℕ
first_below zero f = none
first_below (suc n) f = or_else (f 0) (first_below n (λ i. f (suc i)))

abbrev pub has_rank : ℕ → Status → Bool
has_rank rank absent = false
has_rank rank active = false
has_rank rank (pseudo_committed r) = eqb r rank

-- The pseudo-committed (finished) one of lowest rank that depends on nobody. In a sound store ranks are below 64, as
-- transactions are.
unfoldable pub lowest_ready : Store → Option ℕ
lowest_ready s =
    first_below transaction_count (λ rank. first_below transaction_count (λ t.
    cond (has_rank rank (status_of s t) && decide (whether_ready s.log t)) (some t) none))

-- The store after some commits, and who committed, in order.
pub record Settlement : Type 0 where
  pub store : Store
  pub committed : List ℕ

abbrev pub settlement : Store → List ℕ → Settlement
settlement s l = record { store = s; committed = l }

abbrev pub committed_first : ℕ → Settlement → Settlement
committed_first t r = settlement r.store (t ∷ r.committed)

abbrev pub perhaps : {A : Type 0} → Option ℕ → A → (ℕ → A) → A
perhaps none a f = a
perhaps (some t) a f = f t

-- The lowest ready one commits, n times or until none is left.
abbrev pub settled : ℕ → Store → Settlement
settled zero s = settlement s []
settled (suc n) s = perhaps (lowest_ready s) (settlement s []) (λ t. committed_first t (settled n (commit t s)))

-- Until none is left: no more can commit than are pseudo-committed.
abbrev pub settled_all : Store → Settlement
settled_all s = settled (pseudo_committed_count s) s
