use Rattle.std.proofs.Common.{sym}
use Rattle.std.proofs.lemmas.Bool.{not-true, not-false}
use Rattle.operations.proofs.Laws.Cases.{denied}
use Rattle.states.specs.Laws.Serving.{tests}
use Rattle.states.specs.Laws.Keyed as keyed
use Rattle.states.proofs.State.serve_keyed.Goals as goal

pub held-held-requires : goal.held-held-requires
held-held-requires c =
    let k = c.requires in (
      record { packed = k.entry.formed.packed; within = (keyed.placed k).0; ascending = keyed.ascending k },
      (keyed.placed k).1,
      k.served.sized.of_cells,
    )

pub bounds-self-object : goal.bounds-self-object
bounds-self-object c = (keyed.placed c.requires).0

pub returns-then-ne : goal.returns-then-ne
returns-then-ne c =
    keyed.refused c.requires _ c.entry_operation-operation.ensures _ c.held-held.ensures _ c.keyed_answer.ensures
    (denied (tests c.requires.entry _ c.keyed_answer.result c.entry_answer.ensures)
    (not-true _ (sym c.if-ne.ensures)))

pub count_after-requires : goal.count_after-requires
count_after-requires c =
    keyed.bounds c.requires _ c.entry_operation-operation.ensures _ c.held-held.ensures

pub bounds-self-object-2 : goal.bounds-self-object-2
bounds-self-object-2 c = (keyed.placed c.requires).0

pub returns : goal.returns
returns c =
    keyed.served c.requires _ c.entry_operation-operation.ensures _ c.held-held.ensures _ c.keyed_answer.ensures
    ((tests c.requires.entry _ c.keyed_answer.result c.entry_answer.ensures).0 (not-false _ (sym c.if-ne.ensures)))
    _ c.changed.ensures _ c.count_after.ensures
