-- `dispatch::reply_call`: what is told is printed and recorded.
use Rattle.std.proofs.Common.{◌∙◌, ap, List, ℕ, ◌++◌, ◌∷◌, []}
use Rattle.dispatch.specs.Laws.{served_given, answered_call}
use Rattle.dispatch.proofs.reply_call.Goals as goal

pub put_record-requires-clause-given : goal.put_record-requires-clause-given
put_record-requires-clause-given c = served_given c.serve-told.ensures

pub returns : goal.returns
returns c =
    answered_call c.serve-told.ensures
    (c.push.ensures.items ∙ ap (λ (l : List ℕ). l ++ (10 ∷ [])) c.put_text.ensures.text) c.put_record.ensures
