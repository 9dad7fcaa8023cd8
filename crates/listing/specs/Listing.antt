-- A record as a line of text: the script's line of its call, a tab, and its reply as the script prints it.
use Rattle.std.specs.Prelude.{ℕ, cond, List, [], ◌∷◌, ◌++◌, eqb, length}
use Prim.Native.Char.{code}
use Rattle.text.specs.Text.{ascii}
use Rattle.replies.specs.Printed.{spaced}
use Rattle.journal.specs.Records.{finished_code, committed_code, circle_code}
use Rattle.journal.specs.Records.{Reply, nothing, wait, answered, ended, Record}

-- The word of a reply that carries a list.
abbrev pub end_word : ℕ → List ℕ
end_word replyCode =
    cond (eqb replyCode finished_code) (ascii "finished")
    (cond (eqb replyCode committed_code) (ascii "committed")
    (cond (eqb replyCode circle_code) (ascii "circle") (ascii "cancelled")))

abbrev pub reply_text : Reply → List ℕ
reply_text nothing = ascii "ok"
reply_text (wait owners) = ascii "wait" ++ spaced (length owners ∷ owners)
reply_text (answered answers) = ascii "answer" ++ spaced answers
reply_text (ended replyCode list) = end_word replyCode ++ spaced list

unfoldable pub record_line : Record → List ℕ
record_line r = r.letter ∷ (spaced r.arguments ++ (code "\t" ∷ (reply_text r.reply ++ (code "\n" ∷ []))))

-- The most bytes of such a line: a batch's, its numbers a space and ten digits each.
abbrev pub most_line : ℕ
most_line = 1_076
