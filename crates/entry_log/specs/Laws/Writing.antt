-- The book with another log.
use Rattle.std.specs.Prelude.{ℕ, ◌+◌, ◌-◌, ◌*◌, ◌<◌, ◌≡◌, List, ◌∷◌, ◌++◌, length, set}
use Rattle.std.proofs.Common.{sym, ap, ap₂, ◌∙◌, arith}
use Rattle.std.proofs.lemmas.List.Edits.{sets}
use Rattle.store.specs.Store.{Logged}
use Rattle.store.specs.Layout.{base, encode, decode, joined, padded, word, entry_start, entry_words, Packed}
use Rattle.store.specs.Steps.{appended, dropped}
use Rattle.store.proofs.Laws.Encoding.{log_size}
use Rattle.store.proofs.Laws.Writing.{zeros, sets_before, front, log_put, log_counted, log_parts, front_size, entry_put}
use Rattle.entry_log.specs.Log.{others, Compacted}
use Rattle.entry_log.specs.Laws.Sets.{Cleared, sets_append, padded_over}

pub count_kept : (w next : List ℕ) (i : ℕ) (ws : List ℕ) → next ≡ sets w (entry_start i) ws → word next 0 ≡ word w 0
count_kept w next i ws e = ap (λ (b : List ℕ). word b 0) e ∙ sets_before w (entry_start i) ws 0 (omega arith)

module _ (w : List ℕ) (packed : Packed base w) where
  abbrev log : List Logged
  log = (decode base w).log

  -- An entry put last.
  pub appended_words : (l : Logged) (ws next : List ℕ) (n : ℕ) → word w 0 < 256 → n ≡ word w 0
      → next ≡ sets w (entry_start n) ws → ws ≡ entry_words l
      → set next 0 (word next 0 + 1) ≡ encode base (appended l (decode base w))
  appended_words l ws next n room many put e =
      let whole : next ≡ sets w (entry_start (word w 0)) (entry_words l) =
      put ∙ ap₂ (λ (m : ℕ) (v : List ℕ). sets w (entry_start m) v) many e in
      ap₂ (λ (b : List ℕ) (m : ℕ). set b 0 (m + 1)) whole (count_kept w next n ws put) ∙ entry_put w packed l room

  -- A transaction's entries left out, and the words that they leave set to 0.
  pub dropped_words : (t k n : ℕ) (gathered cleared : List ℕ) → n ≡ word w 0
      → Compacted w t (word w 0) gathered k
      → Cleared gathered (entry_start k) (entry_start n) cleared
      → set cleared 0 k ≡ encode base (dropped t (decode base w))
  dropped_words t k n gathered cleared many g zeroed =
      let p = length log ∷ front w in
      let j = joined entry_words log in
      let ws = joined entry_words (others w t (word w 0)) in
      let size : length j ≡ 7 * word w 0 = omega (arith, log_size log, log_counted w) in
      let kept : length ws ≡ 7 * k = omega (arith, log_size (others w t (word w 0)), g.count) in
      let start : entry_start k ≡ 2_145 + length ws = omega arith in
      let freed : entry_start n - entry_start k ≡ length j - length ws = omega arith in
      let place : 2_145 ≡ length p = omega (arith, front_size w packed) in
      let whole : cleared ≡ p ++ padded 1_792 ws =
      zeroed
      ∙ ap₂ (λ (b : List ℕ) (m : ℕ). sets b (entry_start k) (zeros m)) g.words freed
      ∙ ap (λ (m : ℕ). sets (sets w 2_145 ws) m (zeros (length j - length ws))) start
      ∙ sets_append w 2_145 ws (zeros (length j - length ws))
      ∙ ap₂ (λ (b : List ℕ) (m : ℕ). sets b m (ws ++ zeros (length j - length ws))) (log_parts w packed) place
      ∙ padded_over 1_792 p j ws (omega (arith, g.few)) (omega (arith, packed.log.entries))
      in
      ap₂ (λ (b : List ℕ) (m : ℕ). set b 0 m) whole g.count ∙ sym (log_put w (others w t (word w 0)))
