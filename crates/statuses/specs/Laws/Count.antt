-- How many transactions are pseudo-committed.
use Rattle.std.specs.Prelude.{ℕ, zero, suc, ◌+◌, ◌≡◌, refl, List, [], ◌∷◌, map, ltb, count_by, length, cond, get_or}
use Rattle.std.specs.Prelude.{take, drop}
use Rattle.std.proofs.Common.{lt-ltb, ap, ◌∙◌, sym, arith}
use Rattle.std.proofs.lemmas.List.Recursion.{is_count_by}
use Rattle.store.specs.Store.{Status, pseudo_committed_in, pseudo_committed_count}
use Rattle.store.specs.Layout.{base, decode, BookLong, tabulate, status_at, read_status}
use Rattle.store.proofs.Laws.Lists.{tabulate_same}
use Rattle.statuses.specs.Laws.Words.{own_word, own_words, own_read}

-- Of the statuses that words are read as.
committed_words : List ℕ → ℕ
committed_words ws = pseudo_committed_in (map read_status ws)

one_word : (x : ℕ) (ws : List ℕ)
    → committed_words (x ∷ ws) ≡ cond (ltb 1 x) (1 + committed_words ws) (committed_words ws)
unfolding committed_words
one_word zero ws = refl
one_word (suc zero) ws = refl
one_word (suc (suc rank)) ws = rw (lt-ltb 1 (suc (suc rank)) (omega arith)) (omega arith)

counted_words : (ws : List ℕ) → committed_words ws ≡ count_by (λ (x : ℕ). ltb 1 x) ws
unfolding committed_words
counted_words = is_count_by committed_words (λ (x : ℕ). ltb 1 x) refl one_word

read_one_by_one : (ws : List ℕ) → tabulate (length ws) (λ t. read_status (get_or ws t 0)) ≡ map read_status ws
unfolding tabulate
read_one_by_one [] = refl
read_one_by_one (x ∷ ws) = ap (λ (l : List Status). read_status x ∷ l) (read_one_by_one ws)

pub pseudo_committed_counted : (w : List ℕ) (n : ℕ) → BookLong w
    → n ≡ count_by (λ (x : ℕ). ltb 1 x) (take 64 (drop 1 w)) → n ≡ pseudo_committed_count (decode base w)
unfolding committed_words
pseudo_committed_counted w n long e =
    let ws = take 64 (drop 1 w) in
    e ∙ sym (counted_words ws) ∙ ap pseudo_committed_in (sym (read_one_by_one ws))
    ∙ ap (λ (m : ℕ). pseudo_committed_in (tabulate m (λ t. read_status (own_word w t)))) (own_words w long)
    ∙ ap pseudo_committed_in (tabulate_same 64 (λ t. read_status (own_word w t)) (status_at w)
    (λ t l. ap read_status (own_read w t l)))
