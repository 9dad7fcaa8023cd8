-- `replies::put_reply`: the word, then the numbers behind it.
use Rattle.std.proofs.Common.{List, ℕ, ◌≡◌, ◌∙◌, ap, ◌++◌, append_assoc, rules}
use Rattle.protocol.specs.ReplyOf.{reply_of}
use Rattle.replies.specs.Printed.{word_of, printed_numbers, spaced, printed}
use Rattle.replies.proofs.Laws.Printing.{word_length}
use Rattle.replies.proofs.put_reply.Goals as goal

pub returns-clause-text : goal.returns-clause-text
unfolding printed
returns-clause-text g c =
    let reply = reply_of c.args.reply in
    let numbers = spaced (printed_numbers reply c.args.list.now) in
    let short = word_length reply in
    let word : c.try_extend_from_slice.new.self.items ≡ c.args.out.now.items ++ word_of reply = search rules in
    c.put_numbers.ensures.text ∙ ap (λ (l : List ℕ). l ++ numbers) word
    ∙ append_assoc c.args.out.now.items (word_of reply) numbers
