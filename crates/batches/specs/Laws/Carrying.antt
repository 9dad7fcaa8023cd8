-- A copy of an object's rows after the transaction's own entries: found by replay, and carried through its operations.
use Rattle.std.specs.Prelude.{ℕ, ◌+◌, ◌≤◌, ◌<◌, ◌≡◌, refl, Bool, true, false, cond, List, [], ◌∷◌, ◌++◌, length}
use Rattle.std.proofs.Common.{sym, ap, ◌∙◌, subst, arith, eq-eqb, ne_eqb}
use Rattle.operations.specs.Operations as model
use Rattle.operations.specs.Operations.{Operation, Answer, Row, All, adds, answer, next, kind_of, reduce_key}
use Rattle.operations.specs.Operations.{WellFormed, Stack}
use Rattle.operations.specs.declared.Operation as words
use Rattle.operations.specs.Log.{Entry, after, only, one}
use Rattle.operations.proofs.Laws.Cases.{split, same}
use Rattle.operations.proofs.Laws.ObjectTypes.{EntryFits}
use Rattle.operations.proofs.Laws.Objects.{object, valid_next}
use Rattle.operations.proofs.Laws.Recoverability.{left_out_before}
use Rattle.replay.specs.Replay.{rows_of, next_named, answer_named, next_by, answer_by}
use Rattle.store.specs.Store.{Store, object_of, on_object}
use Rattle.store.specs.Layout.{base, decode, word, entry_start, operation_at, entry_at, object_start, rows_at}
use Rattle.store.specs.Layout.{additions}
use Rattle.store.specs.Layout.{Packed}
use Rattle.store.specs.Soundness.{Room, SoundStore}
use Rattle.store.proofs.Laws.Entries.{entries_from, entries_own, entries_other, entries_end}
use Rattle.store.proofs.Laws.Capacity.{grows, additions_first}
use Rattle.store.proofs.Laws.Changes.{on_append}
use Rattle.answers.specs.Laws.Entries.{EntryOperation}
use Rattle.answers.specs.Laws.Replay.{next_named_lem, next_grows}
use Rattle.answers.specs.Laws.Counting.{all_rows}
use Rattle.answers.specs.Laws.Whole.{rows_read}
use Rattle.waits.specs.Laws.Rules.{named}
use Rattle.entry_log.specs.Log.{StoredAs}
use Rattle.protocol.specs.Calls.{LentOperation, requested, answer_to, run}
use Rattle.protocol.specs.Terms.{OperationAccepted, Passes}
use Rattle.protocol.proofs.Laws.Batches.{barring}
use Rattle.protocol.proofs.Laws.Waiting.{none_owned}
use Rattle.protocol.proofs.Laws.Commits.{after_append}
use Rattle.protocol.proofs.Laws.Ending.{entries_fit, after_grows, additions_parted}
use Rattle.protocol.proofs.Laws.Reasons.{request_reduced}
use Rattle.batches.specs.declared.OwnRows.{OwnRows}
use Rattle.batches.specs.Batches.{OwnEntry, Carried, Advanced, rows_in}

abbrev Entries : Type 0
Entries = List (Entry Operation Answer)

-- A copy is of its own object.
pub of_its_own : {s : Store} {t o : ℕ} {copy : OwnRows} → Carried s t o copy → Carried s t copy.object copy
of_its_own {s} {t} {o} {copy} c = subst (λ (n : ℕ). Carried s t n copy) (sym c.object) c

-- ---- Own entries, one after the other

module _ (w : List ℕ) (t o : ℕ) where
  abbrev own_from : ℕ → Entries
  own_from i = only (one t) (entries_from w o i)

  own_here : (i : ℕ) → i < word w 0 → OwnEntry w i t o → own_from i ≡ (entry_at w i).entry ∷ own_from (i + 1)
  own_here i l (mine, here) =
      ap (only (one t)) (entries_own w i o l here) ∙ rw (eq-eqb (word w (entry_start i)) t mine) refl

  own_past : (i : ℕ) → i < word w 0 → (OwnEntry w i t o → ⊥) → own_from i ≡ own_from (i + 1)
  own_past i l other =
      same (word w (entry_start i + 1)) o
      (λ here. ap (only (one t)) (entries_own w i o l here)
      ∙ rw (ne_eqb (word w (entry_start i)) t (λ mine. other (mine, here))) refl)
      (λ apart. ap (only (one t)) (entries_other w i o l apart))

  -- Replayed up to entry i: after the own entries from there on the rows are those after all, and there is room.
  pub record OwnReplaying (i : ℕ) (copy : OwnRows) : Type 0 where
    pub object : copy.object ≡ o
    pub within : i ≤ word w 0
    pub room : copy.count + additions (own_from i) ≤ 64
    pub left : after next (own_from i) (rows_in copy) ≡ after next (own_from 0) (rows_at w o)

  pub own_start : Packed base w → o < 16 → Room base (decode base w) → (copy : OwnRows) → copy.object ≡ o
      → copy.count ≡ word w (object_start o + 1) → rows_of copy.rows (word w (object_start o + 1)) ≡ rows_at w o
      → OwnReplaying 0 copy
  own_start packed l room copy on e holds =
      record {
        object = on;
        within = omega arith;
        room = omega (arith, all_rows w packed o l copy.count e, room o, additions_parted (one t) (entries_from w o 0));
        left = ap (after next (own_from 0)) (ap (rows_of copy.rows) e ∙ holds);
      }

  module _ (i : ℕ) (copy : OwnRows) (s : OwnReplaying i copy) where
    pub own_counted : copy.count ≤ 64
    own_counted = omega (arith, s.room)

    pub own_passed : i < word w 0 → (OwnEntry w i t o → ⊥) → OwnReplaying (i + 1) copy
    own_passed l other =
        let e = own_past i l other in
        record { object = s.object; within = omega arith; room = rw (← e) s.room; left = rw (← e) s.left }

    module _ {operation : words.Operation} (at : EntryOperation w i operation) (own : OwnEntry w i t o) where
      counted : additions (own_from i) ≡ cond (adds (operation_at w i)) 1 0 + additions (own_from (i + 1))
      counted = ap additions (own_here i at.inside own) ∙ additions_first (entry_at w i).entry (own_from (i + 1))

      pub own_room : length (next_named operation (rows_in copy)) ≤ 64
      own_room = omega (arith, s.room, counted, next_grows at copy.rows copy.count)

      pub own_replayed : (later : OwnRows) → Advanced copy operation later → OwnReplaying (i + 1) later
      own_replayed later on =
          record {
            object = on.0 ∙ s.object;
            within = omega (arith, at.inside);
            room = omega (arith, on.2, s.room, counted, next_grows at copy.rows copy.count);
            left =
                ap (after next (own_from (i + 1))) (on.1 ∙ next_named_lem at (rows_in copy))
                ∙ ap (λ (l : Entries). after next l (rows_in copy)) (sym (own_here i at.inside own)) ∙ s.left;
          }

    pub own_reached : o < 16 → word w 0 ≤ i → Carried (decode base w) t o copy
    own_reached l past =
        record {
          object = s.object;
          few = own_counted;
          reached =
              ap (λ (x : Entries). after next (only (one t) x) (rows_in copy)) (sym (entries_end w i o past))
              ∙ s.left ∙ ap (after next (own_from 0)) (sym (rows_read w o l));
        }

-- ---- Entries of others, left out

module _ (t : ℕ) (q : Operation) (key : model.StoredKey reduce_key q) where
  -- Where the request is recoverable against every entry of another, these don't matter to its answer.
  others_left_out : (l : Entries) (rs : List Row) → All (EntryFits (object reduce_key (kind_of q))) l
      → WellFormed reduce_key (kind_of q) rs → All (Passes t q) l
      → answer q (after next l rs) ≡ answer q (after next (only (one t) l) rs)
  others_left_out [] rs fits formed passes = refl
  others_left_out (e ∷ l) rs fits formed passes =
      same e.transaction t
      (λ (own : e.transaction ≡ t).
      rw (eq-eqb e.transaction t own)
      (others_left_out l (next e.operation rs) fits.1
      (valid_next reduce_key (kind_of q) e.operation rs fits.0 formed) passes.1))
      (λ (other : e.transaction ≡ t → ⊥).
      rw (ne_eqb e.transaction t other)
      (sym (left_out_before (object reduce_key (kind_of q)) q e l rs (refl, key) fits formed (passes.0 other))
      ∙ others_left_out l rs fits.1 formed passes.1))

only_append : (t : ℕ) (l m : Entries) → only (one t) (l ++ m) ≡ only (one t) l ++ only (one t) m
only_append t [] m = refl
only_append t (e ∷ l) m =
    same e.transaction t
    (λ (own : e.transaction ≡ t).
    rw (eq-eqb e.transaction t own) (ap (λ (x : Entries). e ∷ x) (only_append t l m)))
    (λ (other : e.transaction ≡ t → ⊥). rw (ne_eqb e.transaction t other) (only_append t l m))

-- ---- Carried through an operation

module _ (s : Store) (t : ℕ) (q : LentOperation) (sound : SoundStore base s) (a : OperationAccepted base s q)
    (operation : words.Operation) (stored : StoredAs operation (requested base q))
    (copy : OwnRows) (c : Carried s t q.object copy) where
  abbrev asked : Operation
  asked = requested base q

  abbrev logged : Entries
  logged = on_object q.object s.log

  -- One that adds counts one.
  abbrev counting : Bool → ℕ
  counting b = cond b 1 0

  pub carried_answer : barring t s q ≡ 0 → answer_named operation (rows_in copy) ≡ answer_to asked s q.object
  carried_answer free =
      let u = sound.unsettled in
      ap (λ x. answer_by x (rows_in copy)) (named operation asked stored) ∙ ap (answer asked) c.reached
      ∙ sym (others_left_out t asked (request_reduced q.number q.key q.value) logged
      (object_of s q.object).rows
      (entries_fit s q.object (kind_of asked) a.kind s.log u.fits u.reduced)
      (u.rows q.object (kind_of asked) a.kind) ((none_owned t asked logged).0 free))

  named_next : next_named operation (rows_in copy) ≡ next asked (rows_in copy)
  named_next = ap (λ x. next_by x (rows_in copy)) (named operation asked stored)

  pub carried_room : length (next_named operation (rows_in copy)) ≤ 64
  carried_room =
      let grown = after_grows reduce_key Stack (only (one t) logged) (object_of s q.object).rows in
      let before = ap length c.reached in
      let one_more = grows asked (rows_in copy) in
      let part = additions_parted (one t) logged in
      let whole = sound.unsettled.room q.object in
      split (adds asked)
      (λ (e : adds asked ≡ true).
      omega (arith, ap length named_next, one_more, before, grown, part, a.room e, ap counting e))
      (λ (e : adds asked ≡ false).
      omega (arith, ap length named_next, one_more, before, grown, part, whole, ap counting e))

  pub carried_next : (later : OwnRows) → Advanced copy operation later → Carried (run base t q s) t q.object later
  carried_next later on =
      let x : Entry Operation Answer = record {
        transaction = t;
        operation = asked;
        answer = answer_to asked s q.object;
      } in
      let last : on_object q.object (record { object = q.object; entry = x } ∷ []) ≡ x ∷ [] =
      rw (eq-eqb q.object q.object refl) refl in
      let own : only (one t) (x ∷ []) ≡ x ∷ [] = rw (eq-eqb t t refl) refl in
      let all : only (one t) (on_object q.object (run base t q s).log) ≡ only (one t) logged ++ (x ∷ []) =
      ap (only (one t)) (on_append q.object s.log (record { object = q.object; entry = x } ∷ [])
      ∙ ap (λ (l : Entries). logged ++ l) last)
      ∙ only_append t logged (x ∷ []) ∙ ap (λ (l : Entries). only (one t) logged ++ l) own in
      let rs = (object_of s q.object).rows in
      record {
        object = on.0 ∙ c.object;
        few = omega (arith, on.2, carried_room);
        reached =
            on.1 ∙ named_next ∙ ap (next asked) c.reached
            ∙ sym (after_append (object reduce_key Stack) (only (one t) logged) (x ∷ []) rs)
            ∙ ap (λ (l : Entries). after next l rs) (sym all);
      }
