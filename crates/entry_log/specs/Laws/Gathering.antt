-- Entries' words, and the entries of other transactions, moved to the front one after the other.
use Rattle.std.specs.Prelude.{ℕ, ◌+◌, ◌*◌, ◌≤◌, ◌≡◌, refl, true, false, List, [], ◌∷◌, ◌++◌, eqb, length}
use Rattle.std.proofs.Common.{sym, ap, ap₂, ◌∙◌, append-nil, add-one, arith, eq-eqb, ne_eqb, length-append}
use Rattle.std.proofs.lemmas.List.Edits.{sets}
use Rattle.std.proofs.Math.Seq.{length-sets}
use Rattle.operations.specs.Operations as model
use Rattle.operations.proofs.Laws.Cases.{split}
use Rattle.operations.specs.Stored.{answer_of}
use Rattle.operations.specs.declared.Operation.{Operation}
use Rattle.operations.specs.declared.Answer.{Answer}
use Rattle.store.specs.Store.{Logged}
use Rattle.store.specs.Layout.{joined, tabulate, word, entry_start, entry_words, entry_at, AsStored}
use Rattle.store.specs.Steps.{without}
use Rattle.store.proofs.Laws.Lists.{tabulate_zero, tabulate_snoc}
use Rattle.store.proofs.Laws.Words.{joined_append}
use Rattle.store.proofs.Laws.Encoding.{log_size}
use Rattle.store.proofs.Laws.Writing.{sets_past}
use Rattle.entry_log.specs.Log.{StoredAs, logged, entry_words_of, words_at, others, Compacted}
use Rattle.entry_log.specs.Laws.Sets.{sets_append}

-- ---- Words of entries

pub words_stored : (t object : ℕ) (operation : Operation) (answer : Answer) (o : model.Operation) → StoredAs operation o
    → entry_words_of t object operation answer ≡ entry_words (logged t object o (answer_of answer))
words_stored t object operation answer o (n, k, v) = rw (n, k, v)

words_at_lem : (w : List ℕ) (i : ℕ) → AsStored w i → words_at w i ≡ entry_words (entry_at w i)
words_at_lem w i (n, k, v) = rw (n, k, v)

-- ---- Entries of other transactions, moved to the front one after the other

without_append : (t : ℕ) (xs ys : List Logged) → without t (xs ++ ys) ≡ without t xs ++ without t ys
without_append t [] ys = refl
without_append t (x ∷ xs) ys =
    split (eqb x.entry.transaction t)
    (λ (e : eqb x.entry.transaction t ≡ true). simp e (without_append t xs ys))
    (λ (e : eqb x.entry.transaction t ≡ false). simp e (ap (λ (l : List Logged). x ∷ l) (without_append t xs ys)))

module _ (w : List ℕ) (t : ℕ) where
  others_next : (i : ℕ) → others w t (i + 1) ≡ others w t i ++ without t (entry_at w i ∷ [])
  others_next i =
      rw (add-one i, tabulate_snoc i (entry_at w)) (without_append t (tabulate i (entry_at w)) (entry_at w i ∷ []))

  others_own : (i : ℕ) → word w (entry_start i) ≡ t → others w t (i + 1) ≡ others w t i
  others_own i e = others_next i ∙ simp (eq-eqb (word w (entry_start i)) t e, append-nil)

  others_kept : (i : ℕ) → (word w (entry_start i) ≡ t → ⊥) → others w t (i + 1) ≡ others w t i ++ (entry_at w i ∷ [])
  others_kept i e = others_next i ∙ simp (ne_eqb (word w (entry_start i)) t e)

  pub gathered_none : Compacted w t 0 w 0
  gathered_none = record { few = omega arith; count = rw tabulate_zero; size = refl; words = rw tabulate_zero }

  module _ (i : ℕ) (book : List ℕ) (kept : ℕ) (g : Compacted w t i book kept) where
    length_gathered : length (joined entry_words (others w t i)) ≡ 7 * kept
    length_gathered = omega (arith, log_size (others w t i), g.count)

    -- Entry i is as it was.
    unmoved : (j : ℕ) → entry_start i ≤ j → word book j ≡ word w j
    unmoved j l =
        ap (λ (b : List ℕ). word b j) g.words
        ∙ sets_past w 2_145 (joined entry_words (others w t i)) j (omega (arith, g.few, length_gathered))

    transaction_unmoved : word book (entry_start i) ≡ word w (entry_start i)
    transaction_unmoved = unmoved (entry_start i) (omega arith)

    pub gathered_own : (x : ℕ) → x ≡ word book (entry_start i) → x ≡ t → Compacted w t (i + 1) book kept
    gathered_own x read e =
        let own : others w t (i + 1) ≡ others w t i = others_own i (sym transaction_unmoved ∙ sym read ∙ e) in
        record {
          few = omega (arith, g.few);
          count = g.count ∙ sym (ap length own);
          size = g.size;
          words = g.words ∙ sym (ap (λ (l : List Logged). sets w 2_145 (joined entry_words l)) own);
        }

    words_unmoved : words_at book i ≡ words_at w i
    words_unmoved =
        let at : (j : ℕ) → word book (entry_start i + j) ≡ word w (entry_start i + j) =
        λ j. unmoved (entry_start i + j) (omega arith) in
        rw (transaction_unmoved, at 1, at 2, at 3, at 4, at 5, at 6)

    pub gathered_kept : (next : List ℕ) (x : ℕ) → AsStored w i → x ≡ word book (entry_start i) → (x ≡ t → ⊥)
        → next ≡ sets book (entry_start kept) (words_at book i)
        → Compacted w t (i + 1) next (kept + 1)
    gathered_kept next x stored read other r =
        let more : others w t (i + 1) ≡ others w t i ++ (entry_at w i ∷ []) =
        others_kept i (λ e. other (read ∙ transaction_unmoved ∙ e)) in
        let before = joined entry_words (others w t i) in
        let place : entry_start kept ≡ 2_145 + length before = omega (arith, length_gathered) in
        let words : words_at book i ≡ entry_words (entry_at w i) = words_unmoved ∙ words_at_lem w i stored in
        record {
          few = omega (arith, g.few);
          count = ap (λ (n : ℕ). n + 1) g.count
              ∙ sym (length-append (others w t i) (entry_at w i ∷ [])) ∙ sym (ap length more);
          size = ap length r ∙ length-sets book (entry_start kept) (words_at book i) ∙ g.size;
          words =
              r ∙ ap₂ (λ (b ws : List ℕ). sets b (entry_start kept) ws) g.words words
              ∙ ap (λ (n : ℕ). sets (sets w 2_145 before) n (entry_words (entry_at w i))) place
              ∙ sets_append w 2_145 before (entry_words (entry_at w i))
              ∙ ap (sets w 2_145) (sym (joined_append entry_words (others w t i) (entry_at w i ∷ [])))
              ∙ sym (ap (λ (l : List Logged). sets w 2_145 (joined entry_words l)) more);
        }
