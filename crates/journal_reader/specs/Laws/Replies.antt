-- What stands behind a reply code, read into a record.
use Rattle.std.specs.Prelude.{ℕ, ◌*◌, ◌≡◌, true, List, ◌++◌, length, drop}
use Rattle.std.proofs.Common.{sym, ap, ◌∙◌, arith, eq-eqb, ne_eqb}
use Rattle.std.proofs.Math.Path.{subst}
use Rattle.journal.specs.Groups.{found, then, list, numbers}
use Rattle.journal.specs.Records.{has_reply, answered, ended}
use Rattle.journal.specs.Reading.{count, list_in, reply_of as replyBehind}
use Rattle.journal.specs.Coded.{front, answer_count, reply_of}
use Rattle.journal.specs.declared.Record.{Record}
use Rattle.journal.proofs.Laws.Fronts.{front_first}
use Rattle.journal_numbers.specs.Parts.{Finds}
use Rattle.journal_numbers.specs.Laws.Reads.{goes_on}

module _ (r : Record) (new post : List ℕ) (put : r.numbers ≡ new ++ post) (replies : has_reply r.letter ≡ true)
  where
    front_is : (n : ℕ) → n ≡ length new → front n r.numbers ≡ new
    front_is n same = ap (λ k. front k r.numbers) same ∙ ap (front (length new)) put ∙ front_first new post

    pub answers_read : {bytes : List ℕ} {at end : ℕ} (n : ℕ) → r.code ≡ 1
        → answer_count r.letter r.operations ≡ length new → n ≡ 2 * r.operations
        → Finds bytes at (numbers n (drop at bytes)) new end
        → Finds bytes at (replyBehind r.operations r.code (drop at bytes)) (reply_of r) end
    answers_read {bytes} {at} {end} n e size same read =
        let reply : reply_of r ≡ answered new =
        rw (replies, ne_eqb r.code 0 (λ z. omega arith), eq-eqb r.code 1 e)
        (ap answered (front_is (answer_count r.letter r.operations) size)) in
        let behind : replyBehind r.operations r.code (drop at bytes)
        ≡ then (numbers n (drop at bytes)) (λ answers left. found (answered answers) left) =
        rw (ne_eqb r.code 0 (λ z. omega arith), eq-eqb r.code 1 e, same) in
        record {
          said =
              ap (λ x. found x (drop end bytes)) reply
              ∙ ap (λ x. then x (λ answers left. found (answered answers) left)) read.said ∙ sym behind;
          onward = read.onward;
          within = read.within;
        }

    pub list_read : {bytes : List ℕ} {at end : ℕ} (n m : ℕ) {mid : ℕ} → (r.code ≡ 0 → ⊥) → (r.code ≡ 1 → ⊥)
        → r.listed ≡ length new → m ≡ n
        → Finds bytes at (count 64 list (drop at bytes)) n mid
        → Finds bytes mid (numbers m (drop mid bytes)) new end
        → Finds bytes at (replyBehind r.operations r.code (drop at bytes)) (reply_of r) end
    list_read {bytes} {at} {end} n m {mid} not_wait not_answer size same counted read =
        let reply : reply_of r ≡ ended r.code new =
        rw (replies, ne_eqb r.code 0 not_wait, ne_eqb r.code 1 not_answer)
        (ap (ended r.code) (front_is r.listed size)) in
        let behind : replyBehind r.operations r.code (drop at bytes)
        ≡ then (list_in (drop at bytes)) (λ listed left. found (ended r.code listed) left) =
        rw (ne_eqb r.code 0 not_wait, ne_eqb r.code 1 not_answer) in
        let words = subst (λ k. Finds bytes mid (numbers k (drop mid bytes)) new end) same read in
        let all = goes_on numbers counted words in
        record {
          said =
              ap (λ x. found x (drop end bytes)) reply
              ∙ ap (λ x. then x (λ listed left. found (ended r.code listed) left)) all.said ∙ sym behind;
          onward = all.onward;
          within = all.within;
        }
