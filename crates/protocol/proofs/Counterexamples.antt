-- Wrong desks that the figure on the screen does not show, and stores at which they differ from the definitions.
use Rattle.std.specs.Prelude.{◌≡◌, refl, [], ◌∷◌, replicate}
use Rattle.operations.specs.Operations.{row, push, pop, table_insert, modify, on_stack, on_table, by_order}
use Rattle.store.specs.Store.{active, Store, object_of}
use Rattle.store.specs.Steps.{with_objects, with_status}
use Rattle.protocol.specs.Ending.{ended, commit, settled_all}
use Rattle.protocol.specs.Calls.{empty, entered}

-- ---- Cancelling by putting back a saved copy of the rows, which no edit of the code can say

-- A stack, object 0, holds item 3 as transaction 0 begins,
abbrev saved : Store
saved =
    with_status 0 active
    (commit 1 (entered 1 0 (on_stack (push 3)) (with_status 1 active (empty (1 ∷ replicate 15 0)))))

-- and transaction 1, begun again, pops it, pushes 7 and commits before 0 is cancelled.
abbrev before : Store
before = commit 1 (entered 1 0 (on_stack (push 7)) (entered 1 0 (on_stack pop) (with_status 1 active saved)))

-- The definition keeps the new row; the copy brings back the old one. There is one row either way.
pub saved_copy_differs :
    ((object_of (settled_all (ended 0 before)).store 0).rows ≡ row 7 0 ∷ [])
    × ((object_of (with_objects saved.objects (settled_all (ended 0 before)).store) 0).rows ≡ row 3 0 ∷ [])
saved_copy_differs = (refl, refl)

-- ---- A commit whose modify keeps the old value

-- A table, object 0, has value 3 at key 5 as transaction 1 puts 4 there.
abbrev modifying : Store
modifying =
    let inserted =
    commit 0 (entered 0 0 (on_table (table_insert 5 3)) (with_status 0 active (empty (3 ∷ replicate 15 0)))) in
    entered 1 0 (on_table (modify 5 4)) (with_status 1 active inserted)

-- There is one row before and after: only the row itself shows the difference.
pub modify_carried : ((object_of modifying 0).rows ≡ row 5 3 ∷ [])
    × ((object_of (commit 1 modifying) 0).rows ≡ row 5 4 ∷ [])
unfolding by_order
modify_carried = (refl, refl)
