-- A store as words and back: statuses and log for every format, given how its objects stand in the book.
use Rattle.std.specs.Prelude.{ℕ, zero, suc, ◌+◌, ◌-◌, ◌*◌, ◌<◌, ◌≡◌, length, get_or}
use Rattle.std.proofs.Math.Path.{refl}
use Rattle.std.proofs.Common.{sym, ap, ap₂, ◌∙◌, subst, arith, length-append, ext_get_or}
use mathlib.Core.List.{List, [], ◌∷◌, ◌++◌, map}
use Rattle.std.proofs.lemmas.List.{length-replicate, length-map}
use Rattle.std.proofs.Math.ListN.{get_or-append, get_or-map}
use Rattle.operations.specs.Operations.{answering, stored, number_of, key_of, value_of}
use Rattle.operations.proofs.Laws.Storing.{read_back}
use Rattle.store.specs.Layout.{BookLong}
use Rattle.store.specs.Store.{Status, absent, active, pseudo_committed, Object, no_object, Logged, Store}
use Rattle.store.specs.Layout.{Format, word, tabulate, joined, padded, status_word, entry_words, encode, read_status}
use Rattle.store.specs.Layout.{or_pop, operation_at, entry_at, status_at, decode, entry_start, AsStored, Packed}
use Rattle.store.specs.Layout.{Representable}
use Rattle.store.proofs.Laws.Lists.{length_tabulate, get_d_tabulate}
use Rattle.store.proofs.Laws.Words.{Rows, below, each, all_any, tabulate_list, word_after, padded_past, padded_row}
use Rattle.store.proofs.Laws.Words.{padded_same, joined_length}

-- ---- What a format says of the objects' words

-- Words 65 to 2,144 are those of the objects.
abbrev pub LaidOut : Format → List ℕ → List Object → Type 0
LaidOut format w xs = (p : ℕ) → p < 2_080 → word w (65 + p) ≡ word (format.object_words xs) p

pub record ObjectsLaid (format : Format) : Type 0 where
  pub size : (xs : List Object) → length xs ≡ 16 → format.ObjectsFit xs → length (format.object_words xs) ≡ 2_080
  -- what was written is read, and is packed
  pub read : (w : List ℕ) (xs : List Object) → length xs ≡ 16 → format.ObjectsFit xs → LaidOut format w xs
      → (o : ℕ) → o < 16 → format.object_at w o ≡ get_or xs o no_object
  pub packed : (w : List ℕ) (xs : List Object) → length xs ≡ 16 → format.ObjectsFit xs → LaidOut format w xs
      → format.ObjectsPacked w
  -- what is read fits, and is written as it stands
  pub fit : (w : List ℕ) → format.ObjectsPacked w → format.ObjectsFit (tabulate 16 (format.object_at w))
  pub written : (w : List ℕ) → format.ObjectsPacked w → LaidOut format w (tabulate 16 (format.object_at w))

-- ---- A status

pub status_written : (n : ℕ) → status_word (read_status n) ≡ n
status_written zero = refl
status_written (suc zero) = refl
status_written (suc (suc rank)) = omega arith

pub status_read : (status : Status) → read_status (status_word status) ≡ status
status_read absent = refl
status_read active = refl
status_read (pseudo_committed rank) = let e : 2 + rank ≡ suc (suc rank) = omega arith in ap read_status e

-- ---- A log entry

entries_rows : (log : List Logged) → Rows entry_words 7 log
entries_rows log = all_any (λ (l : Logged). length (entry_words l) ≡ 7) (λ l. refl) log

pub log_size : (log : List Logged) → length (joined entry_words log) ≡ 7 * length log
log_size log = joined_length entry_words 7 log (entries_rows log)

module _ (w : List ℕ) (i : ℕ) where
  entry_written : AsStored w i → (j : ℕ) → j < 7 → word (entry_words (entry_at w i)) j ≡ word w (2_145 + (7 * i + j))
  entry_written s =
      each (λ j. word (entry_words (entry_at w i)) j ≡ word w (2_145 + (7 * i + j))) 7 (
        at (omega arith),
        (
          at (omega arith),
          (
            s.0 ∙ at (omega arith),
            (s.1 ∙ at (omega arith), (s.2 ∙ at (omega arith), (at (omega arith), (at (omega arith), tt)))),
          ),
        ),
      )
    where
      at : {m n : ℕ} → m ≡ n → word w m ≡ word w n
      at e = ap (word w) e

  module _ (l : Logged) (holds : (j : ℕ) → j < 7 → word w (2_145 + (7 * i + j)) ≡ word (entry_words l) j) where
    entry_word : (j : ℕ) → j < 7 → word w (entry_start i + j) ≡ word (entry_words l) j
    entry_word j m = ap (word w) (omega arith) ∙ holds j m

    operation_read : operation_at w i ≡ l.entry.operation
    operation_read =
        let o = l.entry.operation in
        ap₂ (λ (n k : ℕ). or_pop (stored (λ q. q) n k (word w (entry_start i + 4)))) (entry_word 2 (omega arith))
        (entry_word 3 (omega arith))
        ∙ ap (λ (v : ℕ). or_pop (stored (λ q. q) (number_of o) (key_of o) v)) (entry_word 4 (omega arith))
        ∙ ap or_pop (read_back o)

    entry_stored : AsStored w i
    entry_stored = (
      ap number_of operation_read ∙ sym (entry_word 2 (omega arith)),
      ap key_of operation_read ∙ sym (entry_word 3 (omega arith)),
      ap value_of operation_read ∙ sym (entry_word 4 (omega arith)),
    )

    entry_read : entry_at w i ≡ l
    entry_read =
        let first : word w (entry_start i) ≡ l.entry.transaction = ap (word w) (omega arith) ∙ holds 0 (omega arith) in
        λ x. record {
          object = entry_word 1 (omega arith) x;
          entry = record {
            transaction = first x;
            operation = operation_read x;
            answer = answering (entry_word 5 (omega arith) x) (entry_word 6 (omega arith) x);
          };
        }

-- An entry, for places past the log's end.
abbrev no_entry : Logged
no_entry = entry_at [] 0

-- A place in a book is that of the number of entries, of a status, in the objects or in the log.
by_part : (P : ℕ → Type 0) → P 0 → ((t : ℕ) → t < 64 → P (1 + t)) → ((p : ℕ) → p < 2_080 → P (65 + p))
    → ((p : ℕ) → p < 1_792 → P (2_145 + p))
    → (i : ℕ) → i < 3_937 → P i
by_part P first status object entry i l =
    below i 1 (λ m. at 0 (omega arith) first)
    (λ m. below i 65 (λ n. at (1 + (i - 1)) (omega arith) (status (i - 1) (omega arith)))
    (λ n. below i 2_145 (λ o. at (65 + (i - 65)) (omega arith) (object (i - 65) (omega arith)))
    (λ o. at (2_145 + (i - 2_145)) (omega arith) (entry (i - 2_145) (omega arith)))))
  where
    at : (j : ℕ) → j ≡ i → P j → P i
    at j e h = subst P e h

module _ (format : Format) (laid : ObjectsLaid format) where
  -- ---- A store that a book can hold: its words, and what is read from them

  module _ (s : Store) (r : Representable format s) where
    objects_size : length (format.object_words s.objects) ≡ 2_080
    objects_size = laid.size s.objects r.objects r.fit

    statuses_size : length (map status_word s.statuses) ≡ 64
    statuses_size = length-map s.statuses status_word ∙ r.statuses

    encoded_size : BookLong (encode format s)
    unfolding encode
    encoded_size =
        simp (length-append, length-replicate) (omega (arith, statuses_size, objects_size, log_size s.log))

    first_word : word (encode format s) 0 ≡ length s.log
    unfolding encode
    first_word = refl

    status_word_lem : (t : ℕ) → t < 64 → word (encode format s) (1 + t) ≡ status_word (get_or s.statuses t absent)
    unfolding encode
    status_word_lem t l =
        let statuses = map status_word s.statuses in
        let rest = format.object_words s.objects ++ padded 1_792 (joined entry_words s.log) in
        word_after (length s.log ∷ []) (statuses ++ rest) 1 t refl
        ∙ get_or-append statuses rest 0 t (rw statuses_size l)
        ∙ get_or-map status_word s.statuses t absent

    -- from word 65 on
    rest_word : (p : ℕ) → word (encode format s) (65 + p)
        ≡ word (format.object_words s.objects ++ padded 1_792 (joined entry_words s.log)) p
    unfolding encode
    rest_word p =
        word_after (length s.log ∷ map status_word s.statuses)
        (format.object_words s.objects ++ padded 1_792 (joined entry_words s.log)) 65 p
        (omega (arith, statuses_size))

    object_word : LaidOut format (encode format s) s.objects
    object_word p l =
        rest_word p ∙ get_or-append (format.object_words s.objects)
        (padded 1_792 (joined entry_words s.log)) 0 p (rw objects_size l)

    log_word : (p : ℕ) → word (encode format s) (2_145 + p) ≡ word (padded 1_792 (joined entry_words s.log)) p
    log_word p =
        ap (word (encode format s)) (omega arith) ∙ rest_word (2_080 + p)
        ∙ word_after (format.object_words s.objects) (padded 1_792 (joined entry_words s.log)) 2_080 p objects_size

    log_entry : (i : ℕ) → i < length s.log → (j : ℕ) → j < 7
        → word (encode format s) (2_145 + (7 * i + j)) ≡ word (entry_words (get_or s.log i no_entry)) j
    log_entry i l j m =
        log_word (7 * i + j) ∙ padded_row entry_words 7 1_792 s.log (entries_rows s.log) no_entry i j l m

    pub decoded_encoded : decode format (encode format s) ≡ s
    decoded_encoded =
        let w = encode format s in
        let statuses : tabulate 64 (status_at w) ≡ s.statuses =
        tabulate_list s.statuses absent 64 (status_at w) r.statuses
        (λ t l. ap read_status (status_word_lem t l) ∙ status_read (get_or s.statuses t absent)) in
        let objects : tabulate 16 (format.object_at w) ≡ s.objects =
        tabulate_list s.objects no_object 16 (format.object_at w) r.objects
        (laid.read w s.objects r.objects r.fit object_word) in
        let log : tabulate (word w 0) (entry_at w) ≡ s.log =
        ap (λ (n : ℕ). tabulate n (entry_at w)) first_word
        ∙ tabulate_list s.log no_entry (length s.log) (entry_at w) refl
        (λ i l. entry_read w i (get_or s.log i no_entry) (log_entry i l)) in
        λ x. record { statuses = statuses x; objects = objects x; log = log x }

    pub encoded_packed : Packed format (encode format s)
    encoded_packed =
        let w = encode format s in
        record {
          words = encoded_size;
          objects = laid.packed w s.objects r.objects r.fit object_word;
          log = record {
            entries = omega (arith, first_word, r.entries);
            as_stored = λ i l. entry_stored w i (get_or s.log i no_entry) (log_entry i (rw first_word at l));
            unused = λ i l.
                let e : i ≡ 2_145 + (i - 2_145) = omega arith in
                ap (word w) e ∙ log_word (i - 2_145) ∙ padded_past 1_792 (joined entry_words s.log) (i - 2_145)
                (omega (arith, first_word, log_size s.log));
          };
        }

  -- ---- A packed book: the store that is read from it, and its words

  module _ (w : List ℕ) (packed : Packed format w) where
    pub decoded_representable : Representable format (decode format w)
    decoded_representable =
        record {
          statuses = length_tabulate 64 (status_at w);
          objects = length_tabulate 16 (format.object_at w);
          fit = laid.fit w packed.objects;
          entries = omega (arith, length_tabulate (word w 0) (entry_at w), packed.log.entries);
        }

    log_written : (p : ℕ) → p < 1_792
        → word (padded 1_792 (joined entry_words (tabulate (word w 0) (entry_at w)))) p ≡ word w (2_145 + p)
    log_written =
        padded_same entry_words 7 1_792 (word w 0) (entry_at w) (λ (p : ℕ). word w (2_145 + p)) (λ i l. refl)
        (λ i j l. entry_written w i (packed.log.as_stored i l) j)
        (λ p l m. packed.log.unused (2_145 + p) (omega arith))

    pub encoded_decoded : encode format (decode format w) ≡ w
    encoded_decoded =
        let s = decode format w in
        let r = decoded_representable in
        let size : BookLong (encode format s) = encoded_size s r in
        ext_get_or 0 (encode format s) w (size ∙ sym packed.words)
        (λ (i : ℕ) (l : i < length (encode format s)). by_part (λ (j : ℕ). word (encode format s) j ≡ word w j)
        (first_word s r ∙ length_tabulate (word w 0) (entry_at w))
        (λ t m. status_word_lem s r t m ∙ ap status_word (get_d_tabulate 64 (status_at w) t absent m)
        ∙ status_written (word w (1 + t)))
        (λ p m. object_word s r p m ∙ sym (laid.written w packed.objects p m))
        (λ p m. log_word s r p ∙ log_written p m) i (rw size at l))
