-- What a change writes in the book: a status one word; an entry put last its seven words and the number of entries.
use Rattle.std.specs.Prelude.{ℕ, zero, suc, ◌+◌, ◌-◌, ◌≤◌, ◌<◌, ◌≡◌, refl, ◌⊎◌, set, replicate}
use Rattle.std.proofs.Common.{sym, ap₂, ◌∙◌, ⊎_elim, not-suc-le-zero, arith, length-append, length-set, get_or-set_same}
use Rattle.std.proofs.Common.{get_or-set_other, drop_at}
use Rattle.std.proofs.Math.Path.{ap}
use mathlib.Core.List.{List, [], ◌∷◌, ◌++◌, map, append_assoc}
use Rattle.std.proofs.Math.ListN.{length}
use Rattle.std.proofs.lemmas.List.{length-map, length-replicate, replicate-append-replicate, set-append_left}
use Rattle.std.proofs.lemmas.List.Edits.{sets, sets-eq}
use Rattle.std.proofs.Math.Seq.{length-sets, take-append_seam, drop-append-add}
use Rattle.operations.proofs.Laws.Cases.{map_set}
use Rattle.store.specs.Store.{Status, Logged, Store}
use Rattle.store.specs.Layout.{base, encode, decode, joined, padded, word, status_word, read_status, entry_start}
use Rattle.store.specs.Layout.{entry_words, entry_at, Packed}
use Rattle.store.specs.Steps.{appended, with_status}
use Rattle.store.proofs.Laws.Lists.{length_tabulate}
use Rattle.store.proofs.Laws.Words.{padded_length, joined_append}
use Rattle.store.proofs.Laws.Encoding.{status_written, log_size, encoded_decoded, decoded_representable}
use Rattle.store.proofs.Laws.Objects.{base_laid}

-- ---- Words written over a list from a place on

-- As many as stood there.
pub sets_seam : {A : Type 0} (p x y z : List A) → length x ≡ length y
    → sets (p ++ (x ++ z)) (length p) y ≡ p ++ (y ++ z)
sets_seam p x y z e =
    let fits : length p + length y ≤ length (p ++ (x ++ z)) = simp length-append (omega arith) in
    sets-eq y (p ++ (x ++ z)) (length p) fits
    ∙ rw (take-append_seam, drop-append-add p (x ++ z) (length y), drop_at x z (length y) e, append_assoc)

-- Words before and after those written are as they were.
pub sets_before : (l : List ℕ) (i : ℕ) (vs : List ℕ) (j : ℕ) → j < i → word (sets l i vs) j ≡ word l j
sets_before l i [] j m = refl
sets_before l i (v ∷ vs) j m =
    sets_before (set l i v) (suc i) vs j (omega arith) ∙ get_or-set_other l i j v 0 (λ e. omega arith)

pub sets_past : (l : List ℕ) (i : ℕ) (vs : List ℕ) (j : ℕ) → i + length vs ≤ j → word (sets l i vs) j ≡ word l j
sets_past l i [] j m = refl
sets_past l i (v ∷ vs) j m =
    sets_past (set l i v) (suc i) vs j (omega arith) ∙ get_or-set_other l i j v 0 (λ e. omega arith)

-- Those written stand there.
sets_at : (l : List ℕ) (i : ℕ) (vs : List ℕ) (j : ℕ) → j < length vs → i + length vs ≤ length l
    → word (sets l i vs) (i + j) ≡ word vs j
sets_at l i [] j m h = absurd (not-suc-le-zero m)
sets_at l i (v ∷ vs) zero m h =
    let e : i + 0 ≡ i = omega arith in
    ap (word (sets (set l i v) (suc i) vs)) e ∙ sets_before (set l i v) (suc i) vs i (omega arith)
    ∙ get_or-set_same l i v 0 (omega arith)
sets_at l i (v ∷ vs) (suc j) m h =
    let e : i + suc j ≡ suc i + j = omega arith in
    ap (word (sets (set l i v) (suc i) vs)) e
    ∙ sets_at (set l i v) (suc i) vs j (omega arith) (omega (arith, length-set l i v))

abbrev pub zeros : ℕ → List ℕ
zeros n = replicate n 0

-- More words, where zeros fill up.
padded_more : (size : ℕ) (p j ws : List ℕ) → length j + length ws ≤ size
    → sets (p ++ padded size j) (length p + length j) ws ≡ p ++ padded size (j ++ ws)
padded_more size p j ws h =
    let rest = zeros (size - length (j ++ ws)) in
    let more : length ws + (size - length (j ++ ws)) ≡ size - length j = omega (arith, length-append j ws) in
    let apart : zeros (size - length j) ≡ zeros (length ws) ++ rest =
    ap zeros (sym more) ∙ sym (replicate-append-replicate (length ws) (size - length (j ++ ws)) 0) in
    let before : p ++ padded size j ≡ (p ++ j) ++ (zeros (length ws) ++ rest) =
    ap (λ (z : List ℕ). p ++ (j ++ z)) apart ∙ sym (append_assoc p j (zeros (length ws) ++ rest)) in
    ap₂ (λ (l : List ℕ) (n : ℕ). sets l n ws) before (sym (length-append p j))
    ∙ sets_seam (p ++ j) (zeros (length ws)) ws rest (length-replicate (length ws) 0)
    ∙ append_assoc p j (ws ++ rest)
    ∙ ap (λ (l : List ℕ). p ++ l) (sym (append_assoc j ws rest))

-- ---- A status

status_set : (s : Store) (t : ℕ) (status : Status) → t < length s.statuses
    → set (encode base s) (1 + t) (status_word status) ≡ encode base (with_status t status s)
unfolding encode
status_set s t status l =
    let e : 1 + t ≡ suc t = omega arith in
    let words = map status_word s.statuses in
    rw (
      e,
      set-append_left words _ t (status_word status) (rw (length-map s.statuses status_word) l),
      ← map_set status_word s.statuses t status,
    )

-- One word written is one status changed.
pub status_put : (w : List ℕ) → Packed base w → (t x : ℕ) → t < 64
    → set w (1 + t) x ≡ encode base (with_status t (read_status x) (decode base w))
status_put w packed t x l =
    ap₂ (λ (v : List ℕ) (y : ℕ). set v (1 + t) y) (sym (encoded_decoded base base_laid w packed))
    (sym (status_written x))
    ∙ status_set (decode base w) t (read_status x) (rw (decoded_representable base base_laid w packed).statuses l)

-- ---- The log

module _ (w : List ℕ) where
  -- Statuses and objects.
  abbrev pub front : List ℕ
  front = map status_word (decode base w).statuses ++ base.object_words (decode base w).objects

  abbrev log : List Logged
  log = (decode base w).log

  -- The book with another log.
  pub log_put : (new : List Logged)
      → encode base (record { statuses = (decode base w).statuses; objects = (decode base w).objects; log = new })
      ≡ length new ∷ (front ++ padded 1_792 (joined entry_words new))
  unfolding encode
  log_put new =
      ap (λ (l : List ℕ). length new ∷ l)
      (sym (append_assoc (map status_word (decode base w).statuses) (base.object_words (decode base w).objects)
      (padded 1_792 (joined entry_words new))))

  pub log_counted : length log ≡ word w 0
  log_counted = length_tabulate (word w 0) (entry_at w)

  module _ (packed : Packed base w) where
    pub log_parts : w ≡ length log ∷ (front ++ padded 1_792 (joined entry_words log))
    log_parts = sym (encoded_decoded base base_laid w packed) ∙ log_put log

    pub front_size : length front ≡ 2_144
    front_size =
        let j = joined entry_words log in
        let fits : length j ≤ 1_792 = omega (arith, log_size log, log_counted, packed.log.entries) in
        omega (
          arith,
          packed.words,
          ap length log_parts,
          length-append front (padded 1_792 j),
          padded_length 1_792 j fits,
        )

    module _ (l : Logged) (room : word w 0 < 256) where
      abbrev put : List ℕ
      put = sets w (entry_start (word w 0)) (entry_words l)

      -- An entry put last.
      pub entry_put : set put 0 (word w 0 + 1) ≡ encode base (appended l (decode base w))
      entry_put =
          let p = length log ∷ front in
          let j = joined entry_words log in
          let place : entry_start (word w 0) ≡ length p + length j =
          omega (arith, front_size, log_size log, log_counted) in
          let count : word w 0 + 1 ≡ length (log ++ (l ∷ [])) =
          omega (arith, log_counted, length-append log (l ∷ [])) in
          let whole : put ≡ p ++ padded 1_792 (j ++ entry_words l) =
          ap₂ (λ (b : List ℕ) (m : ℕ). sets b m (entry_words l)) log_parts place
          ∙ padded_more 1_792 p j (entry_words l) (omega (arith, log_size log, log_counted)) in
          ap₂ (λ (b : List ℕ) (m : ℕ). set b 0 m) whole count
          ∙ ap (λ (a : List ℕ). length (log ++ (l ∷ [])) ∷ (front ++ padded 1_792 a))
          (sym (joined_append entry_words log (l ∷ [])))
          ∙ sym (log_put (log ++ (l ∷ [])))

      -- The words of the book then: their number,
      pub put_length : length (set put 0 (word w 0 + 1)) ≡ length w
      put_length = length-set put 0 (word w 0 + 1) ∙ length-sets w (entry_start (word w 0)) (entry_words l)

      -- the number of entries,
      pub put_count : word (set put 0 (word w 0 + 1)) 0 ≡ word w 0 + 1
      put_count =
          get_or-set_same put 0 (word w 0 + 1) 0
          (omega (arith, length-sets w (entry_start (word w 0)) (entry_words l), packed.words))

      -- those of the entry,
      pub put_entry : (j : ℕ) → j < 7 → word (set put 0 (word w 0 + 1)) (entry_start (word w 0) + j)
          ≡ word (entry_words l) j
      put_entry j m =
          get_or-set_other put 0 (entry_start (word w 0) + j) (word w 0 + 1) 0 (λ e. omega arith)
          ∙ sets_at w (entry_start (word w 0)) (entry_words l) j m (omega (arith, packed.words))

      -- and the others, which are as they were.
      pub put_other : (i : ℕ) → (i ≡ 0 → ⊥) → (i < entry_start (word w 0)) ⊎ (entry_start (word w 0) + 7 ≤ i)
          → word (set put 0 (word w 0 + 1)) i ≡ word w i
      put_other i n side =
          get_or-set_other put 0 i (word w 0 + 1) 0 n
          ∙ ⊎_elim (sets_before w (entry_start (word w 0)) (entry_words l) i)
          (sets_past w (entry_start (word w 0)) (entry_words l) i) side
