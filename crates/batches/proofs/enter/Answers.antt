-- Replayed, then put last.
use Rattle.std.proofs.Common.{ℕ, ◌<◌, ap, subst, ◌∙◌}
use Rattle.store.specs.Layout.{base, decode, encode, entry_at, word}
use Rattle.store.proofs.Laws.Lists.{length_tabulate}
use Rattle.store.proofs.Laws.Reading.{kind_below}
use Rattle.answers.specs.Laws.Requests.{answer_to_lem}
use Rattle.waits.specs.Laws.Rules.{named}
use Rattle.operations.specs.Operations as model
use Rattle.entry_log.specs.Log.{logged}
use Rattle.protocol.specs.Calls.{request}
use Rattle.store.specs.Steps.{appended}
use Rattle.batches.specs.Laws.Entering.{asks}
use Rattle.batches.proofs.enter.Goals as goal

pub answer-answer-requires : goal.answer-answer-requires
answer-answer-requires c =
    let a = c.args in
    let e = c.requires in (
      e.sound.packed,
      kind_below base a.book.now a.object _ e.accepted.kind,
      e.sound.store.unsettled.room,
      (request base e.number e.key e.value, asks a.book.now a.object a.requested e),
    )

pub append-requires : goal.append-requires
append-requires c =
    let e = c.requires in
    let w = c.args.book.now in (
      e.sound.packed,
      subst (λ (n : ℕ). n < 256) (length_tabulate (word w 0) (entry_at w)) e.accepted.entries,
      (request base e.number e.key e.value, e.stored),
    )

pub returns : goal.returns
returns c o stored =
    let a = c.args in
    let given =
    c.answer-answer.ensures
    ∙ answer_to_lem a.book.now a.object (kind_below base a.book.now a.object _ c.requires.accepted.kind) a.requested o
    (named a.requested o stored) in (
      given,
      c.append.ensures o stored
          ∙ ap (λ (x : model.Answer). encode base (appended (logged a.transaction a.object o x)
          (decode base a.book.now))) given,
    )
