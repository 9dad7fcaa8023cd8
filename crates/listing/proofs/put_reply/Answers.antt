-- `listing::put_reply`: each case's word and numbers.
use Rattle.std.proofs.Common.{List, ℕ, sym, ap, ◌∙◌, ◌++◌, arith, rules}
use Rattle.listing.proofs.Laws.Shapes.{answers_listed, others_listed}
use Rattle.listing.proofs.put_reply.Goals as goal

-- ---- Answers

pub put_list-requires : goal.put_list-requires
put_list-requires g c =
    let says =
    answers_listed c.args.content.now c.requires.shape (search rules)
    (sym c.has_reply.ensures ∙ c.if-not-has_reply.false) c.in-1.is c.answer_count-count.ensures in
    (search rules, omega (arith, says.short, c.requires.room))

pub returns-in-1 : goal.returns-in-1
returns-in-1 g c =
    let says =
    answers_listed c.args.content.now c.requires.shape (search rules)
    (sym c.has_reply.ensures ∙ c.if-not-has_reply.false) c.in-1.is c.answer_count-count.ensures in
    let put = c.put_list.ensures in
    record {
      text = put.text ∙ ap (λ (l : List ℕ). c.args.out.now.items ++ l) (sym says.same);
      few = omega (arith, says.short, put.few);
    }

-- ---- A list

pub put_list-requires-in_default : goal.put_list-requires-in_default
put_list-requires-in_default g c =
    let says =
    others_listed c.args.content.now c.requires.shape (search rules)
    (sym c.has_reply.ensures ∙ c.if-not-has_reply.false) (λ e. omega arith) (λ e. omega arith) in
    (search rules, omega (arith, says.short, c.requires.room))

pub returns-in_default : goal.returns-in_default
returns-in_default g c =
    let says =
    others_listed c.args.content.now c.requires.shape (search rules)
    (sym c.has_reply.ensures ∙ c.if-not-has_reply.false) (λ e. omega arith) (λ e. omega arith) in
    let put = c.put_list-in_default.ensures in
    record {
      text = put.text ∙ ap (λ (l : List ℕ). c.args.out.now.items ++ l) (sym says.same);
      few = omega (arith, says.short, put.few);
    }
