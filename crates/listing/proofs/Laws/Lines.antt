-- The parts of a line, put one after the other.
use Rattle.std.specs.Prelude.{ℕ, ◌≤◌, ◌≡◌, List, [], ◌∷◌, ◌++◌, length, take}
use Rattle.std.proofs.Common.{sym, ap, ap₂, ◌∙◌, append_assoc}
use Rattle.replies.specs.Printed.{spaced}
use Rattle.journal.specs.Coded.{front, argument_count, reply_of, record_of}
use Rattle.journal.specs.declared.Record.{Record}
use Rattle.journal.proofs.Laws.Fronts.{front_taken}
use Rattle.listing.specs.Listing.{reply_text, record_line}

-- The letter, the arguments, a tab, the reply and a line feed.
pub line_put : (text : List ℕ) (r : Record) {n : ℕ} {a b c d e : List ℕ} → n ≡ argument_count r.letter r.operations
    → n ≤ length r.arguments → a ≡ text ++ (r.letter ∷ []) → b ≡ a ++ spaced (take n r.arguments)
    → c ≡ b ++ (9 ∷ []) → d ≡ c ++ reply_text (reply_of r) → e ≡ d ++ (10 ∷ [])
    → e ≡ text ++ record_line (record_of r)
unfolding record_line
line_put text r {n} {b = b} counted within letter arguments tab reply feed =
    let its : List ℕ = spaced (front (argument_count r.letter r.operations) r.arguments) in
    let said = reply_text (reply_of r) in
    let first : List ℕ = text ++ (r.letter ∷ []) in
    let behind : List ℕ → List ℕ → List ℕ = λ more l. l ++ more in
    let last : List ℕ = said ++ (10 ∷ []) in
    let whole : b ≡ first ++ its =
    arguments
    ∙ ap₂ (λ (l m : List ℕ). l ++ spaced m) letter
    (sym (front_taken n r.arguments within) ∙ ap (λ (m : ℕ). front m r.arguments) counted) in
    feed ∙ ap (behind (10 ∷ [])) (reply ∙ ap (behind said) (tab ∙ ap (behind (9 ∷ [])) whole))
    ∙ append_assoc ((first ++ its) ++ (9 ∷ [])) said (10 ∷ []) ∙ append_assoc (first ++ its) (9 ∷ []) last
    ∙ append_assoc first its (9 ∷ last) ∙ append_assoc text (r.letter ∷ []) (its ++ (9 ∷ last))
