-- `replies::put_batched`: a batch's answers behind the word.
use Rattle.std.proofs.Common.{List, ℕ, ◌≡◌, ◌∙◌, ap, ◌++◌, length-take-le, append_assoc, arith, rules}
use Rattle.text.specs.Text.{ascii}
use Rattle.protocol.proofs.Laws.Beside.{front_numbers, filled_within}
use Rattle.replies.specs.Printed.{spaced}
use Rattle.replies.proofs.Laws.Printing.{longer, answers_word, answers_behind}
use Rattle.replies.proofs.put_batched.Goals as goal

pub put_answers-requires : goal.put_answers-requires
put_answers-requires g c =
    let b = c.args.batched in
    let word : c.put_reply.new.out.items ≡ c.args.out.now.items ++ ascii "answer" =
    c.put_reply.ensures.text ∙ ap (λ (l : List ℕ). c.args.out.now.items ++ l) (answers_word b c.in-Answers.is) in
    let within = filled_within b c.requires.filled in (
      search rules,
      (
        omega (arith, c.requires.room, longer _ _ (ascii "answer") word),
        omega (arith, length-take-le b.count b.answers within, within, c.well_formed),
      ),
    )

pub returns-in-Answers : goal.returns-in-Answers
returns-in-Answers g c =
    let b = c.args.batched in
    let out = c.args.out.now.items in
    let answers = spaced (front_numbers b.answers b.count) in
    let word : c.put_reply.new.out.items ≡ out ++ ascii "answer" =
    c.put_reply.ensures.text ∙ ap (λ (l : List ℕ). out ++ l) (answers_word b c.in-Answers.is) in
    record {
      text =
          c.put_answers.ensures.text ∙ ap (λ (l : List ℕ). l ++ answers) word
          ∙ append_assoc out (ascii "answer") answers
          ∙ ap (λ (l : List ℕ). out ++ l) (answers_behind b c.in-Answers.is);
      few = omega (arith, longer _ _ (ascii "answer") word, c.put_answers.ensures.few);
    }
