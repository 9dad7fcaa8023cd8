use Rattle.operations.specs.Operations as model
use Rattle.answers.specs.Answers.{Requested}
use Rattle.answers.specs.Laws.Requests.{Replaying}
use Rattle.answers.proofs.answer.Given as goal

abbrev pub invariant-loop-i : goal.invariant-loop-i
invariant-loop-i l =
    (requested : model.Operation) → Requested l.book l.object l.operation requested
    → Replaying l.book l.object requested l.i l.rows l.count
