-- Finish on stores that a few entries make: table 1 of document 000, and equal entries (02, No. 5).
use Rattle.std.specs.Prelude.{ℕ, ◌<◌, ◌≡◌, refl, ◌↔◌, List, [], ◌∷◌, ◌++◌, length, drop, replicate}
use Rattle.std.proofs.Math.Bool.{decide}
use Rattle.std.proofs.Math.Decide.{ℕ_discrete}
use Rattle.std.proofs.Common.{arith}
use Rattle.operations.specs.Operations.{push, modify, on_stack, on_table}
use Rattle.store.specs.Store.{active, pseudo_committed, Store}
use Rattle.store.specs.Dependency.{PRED, SUCC}
use Rattle.store.specs.Steps.{with_status}
use Rattle.store.specs.Layout.{base, encode}
use Rattle.store.proofs.Decisions.{whether_ready, whether_on_cycle}
use Rattle.protocol.specs.Replies.{Reply, finished, committed, circle, outcome, served}
use Rattle.protocol.specs.Ending.{ended, commit, lowest_ready, first_below}
use Rattle.protocol.specs.Calls.{empty, entered, finish_active}
use Rattle.protocol.specs.Terms.{Among}
use Rattle.protocol.proofs.Laws.Attempts.{predecessors_of, predecessors_listed, successors_of, successors_listed}
use mathlib.Core.Logic.Dec

module _ (s : Store) (t : ℕ) where
  -- The transaction's SUCC and PRED, listed.
  pub record Sets (successors predecessors : List ℕ) : Type 0 where
    pub succ : (u : ℕ) → Among u successors ↔ SUCC s t u
    pub pred : (u : ℕ) → Among u predecessors ↔ PRED s t u

  -- What finish replies, whom it names as committed, and the store that it leaves.
  abbrev pub Result : Reply → List ℕ → Store → Type 0
  Result reply named after =
      (list : List ℕ) → finish_active base s t list
      ≡ served (encode base after) (outcome reply (named ++ drop (length named) list) [])

-- ---- Table 1

-- Document 000, table 1 of section 4.2.1: transactions 4, 1, 2, 5 and 3 attempt to pseudo-commit, one after the other.
-- Its figure 6, dependency graphs at three objects, is not in our text; the dependencies 4 on 2, 2 on 1, 1 on 5, 1 on 3
-- and 3 on 4 fit the table. Each has a stack of its own here: at which object one stands makes no difference to the
-- sets. They are those that the definitions give. Where the table has others:
-- - PRED(T3) is printed as {T1}; T2 and T4 depend on T3 too, through T1.
-- - T5 is printed as pseudo-committed. It depends on nobody, and so commits at once, and is not in SUCC(T3).
-- - The second phase, in which object managers bring their sets up to date, has no counterpart: the desk keeps no sets,
--   and gathers them anew at each attempt. So gathered, they are those printed for T4 and T1 after T2's attempt.

-- The dependencies

abbrev begun : Store
begun =
    with_status 1 active
    (with_status 2 active
    (with_status 3 active (with_status 4 active (with_status 5 active (empty (1 ∷ 1 ∷ 1 ∷ 1 ∷ 1 ∷ replicate 11 0))))))

-- On a stack b pushes its number, and then a its own: the items differ, so a depends on b.
abbrev depending : ℕ → ℕ → ℕ → Store → Store
depending stack a b s = entered a stack (on_stack (push a)) (entered b stack (on_stack (push b)) s)

abbrev before : Store
before = depending 4 3 4 (depending 3 1 3 (depending 2 1 5 (depending 1 2 1 (depending 0 4 2 begun))))

-- The attempts

abbrev first : Store
first = with_status 4 (pseudo_committed 0) before

abbrev second : Store
second = with_status 1 (pseudo_committed 1) first

abbrev third : Store
third = with_status 2 (pseudo_committed 2) second

-- Transaction 5 commits.
abbrev fourth : Store
fourth = commit 5 third

-- Transaction 3 is aborted, and those that depended on it, near and far, commit.
abbrev last : Store
last = commit 4 (commit 2 (commit 1 (ended 3 fourth)))

gathered : (s : Store) (sized : length s.statuses ≡ 64) (t : ℕ) (l : t < 64)
    → Sets s t (successors_of s sized t) (predecessors_of s sized t l)
gathered s sized t l = record { succ = successors_listed s sized t; pred = predecessors_listed s sized t l }

pub table_1 : Sets before 4 [] [] × Result before 4 finished [] first
    × Sets first 1 [] [] × Result first 1 finished [] second
    × Sets second 2 (1 ∷ []) (4 ∷ []) × Result second 2 finished [] third
    × Sets third 4 (1 ∷ 2 ∷ []) [] × Sets third 1 [] (2 ∷ 4 ∷ [])
    × Sets third 5 [] (1 ∷ 2 ∷ 4 ∷ []) × Result third 5 (committed 1) (5 ∷ []) fourth
    × Sets fourth 3 (1 ∷ 2 ∷ 4 ∷ []) (1 ∷ 2 ∷ 4 ∷ []) × Result fourth 3 (circle 3) (1 ∷ 2 ∷ 4 ∷ []) last
unfolding whether_ready whether_on_cycle lowest_ready first_below decide Dec.and Dec.not ℕ_discrete
table_1 = (
  gathered before refl 4 (omega arith),
  λ list. refl,
  gathered first refl 1 (omega arith),
  λ list. refl,
  gathered second refl 2 (omega arith),
  λ list. refl,
  gathered third refl 4 (omega arith),
  gathered third refl 1 (omega arith),
  gathered third refl 5 (omega arith),
  λ list. refl,
  gathered fourth refl 3 (omega arith),
  λ list. refl,
)

-- ---- Equal entries

abbrev opened : Store
opened = with_status 0 active (with_status 1 active (empty (1 ∷ 1 ∷ 3 ∷ replicate 13 0)))

abbrev finished_first : ℕ → Store → Store
finished_first t = with_status t (pseudo_committed 0)

-- Two desks put a spare on one rack, 0 before 1,
abbrev spares : ℕ → ℕ → Store
spares x y = entered 1 0 (on_stack (push y)) (entered 0 0 (on_stack (push x)) opened)

-- or mark serial 12 as a club's.
abbrev marks : ℕ → ℕ → Store
marks v w = entered 1 2 (on_table (modify 12 w)) (entered 0 2 (on_table (modify 12 v)) opened)

-- Of one class of spare, and of one club, the second commits without the first; of two it is finished.
pub equal_entries : Result (spares 7 7) 1 (committed 1) (1 ∷ []) (commit 1 (spares 7 7))
    × Result (spares 7 9) 1 finished [] (finished_first 1 (spares 7 9))
    × Result (marks 3 3) 1 (committed 1) (1 ∷ []) (commit 1 (marks 3 3))
    × Result (marks 3 4) 1 finished [] (finished_first 1 (marks 3 4))
unfolding whether_ready whether_on_cycle lowest_ready first_below decide Dec.and Dec.not ℕ_discrete
equal_entries = (λ list. refl, λ list. refl, λ list. refl, λ list. refl)

-- Document 01's sample on two stacks: 0 pushes on the first, 1 on the first, 1 on the second, 0 on the second.
abbrev two_stacks : ℕ → ℕ → ℕ → ℕ → Store
two_stacks a b c d =
    entered 0 1 (on_stack (push d))
    (entered 1 1 (on_stack (push c)) (entered 1 0 (on_stack (push b)) (entered 0 0 (on_stack (push a)) opened)))

-- With different items 1 closes a circle; with equal ones on each stack nobody depends on the other; with equal ones on
-- one of them 1 still does.
pub two_stacks_lem : (let s = two_stacks 7 9 9 7 in
    Result s 0 finished [] (finished_first 0 s)
    × Result (finished_first 0 s) 1 (circle 1) (0 ∷ []) (commit 0 (ended 1 (finished_first 0 s))))
    × (let s = two_stacks 7 7 9 9 in
    Result s 1 (committed 1) (1 ∷ []) (commit 1 s)
    × Result (commit 1 s) 0 (committed 1) (0 ∷ []) (commit 0 (commit 1 s)))
    × (let s = two_stacks 7 9 8 8 in
    Result s 1 finished [] (finished_first 1 s)
    × Result (finished_first 1 s) 0 (committed 2) (0 ∷ 1 ∷ []) (commit 1 (commit 0 (finished_first 1 s))))
unfolding whether_ready whether_on_cycle lowest_ready first_below decide Dec.and Dec.not ℕ_discrete
two_stacks_lem = ((λ list. refl, λ list. refl), (λ list. refl, λ list. refl), (λ list. refl, λ list. refl))
