-- Laws for reasons: the first that applies, and each test from what the code finds.
use Rattle.std.specs.Prelude.{ℕ, zero, suc, ◌+◌, ◌≤◌, ◌<◌, ◌≡◌, refl, Bool, true, false, cond, not, ◌↔◌, List}
use Rattle.std.specs.Prelude.{[], ◌∷◌, ◌++◌, map, eqb, ltb, leb, length, get_or, take, drop}
use Rattle.std.proofs.Common.{sym, ap, ◌∙◌, subst, ⊎_elim, not-suc-le-zero, add-one, arith, eq-eqb, ne_eqb}
use Rattle.std.proofs.Common.{le-leb}
use Rattle.std.proofs.Math.Bool.{and-false}
use Rattle.std.proofs.Math.Option.{Option, none, some}
use Rattle.std.proofs.lemmas.Bool.{lt-leb}
use Rattle.std.proofs.Math.ListN.{get_or-eq_default}
use Rattle.operations.specs.Operations.{Operation, numbered, reduce_key}
use Rattle.operations.proofs.Laws.Cases.{same}
use Rattle.operations.specs.Kinds.{kind_in_model, number_of_kind}
use Rattle.operations.specs.declared.Kind.{Kind as Named}
use Rattle.operations.specs.declared.Kind.TheVariants as named
use Rattle.operations.specs.Operations.{adds}
use Rattle.store.specs.Layout.{BookLong, book_words}
use Rattle.store.specs.Store.{Status, Object, Store, status_of, object_of}
use Rattle.store.specs.Layout.{base, decode, read_status, read_kind, word, object_start, entry_at, or_pop, Packed}
use Rattle.store.specs.Soundness.{Sound}
use Rattle.store.proofs.Decisions.{whether_sound}
use Rattle.store.proofs.Laws.Deciding.{decided}
use Rattle.store.proofs.Laws.Lists.{length_tabulate}
use Rattle.store.proofs.Laws.Reading.{status_by_word, object_read, object_past, kind_below}
use Rattle.store.proofs.Laws.Words.{below, each}
use Rattle.answers.specs.Answers.{rows_needed}
use Rattle.answers.specs.Laws.Entries.{needed_none, needed_few}
use Rattle.protocol.proofs.Laws.Reasons.{Silent, positive, positive_numbers, crowded, limiting, said_first, first_past}
use Rattle.protocol.proofs.Laws.Reasons.{none_applies, none_any, first_numbered, own_numbers, limit_numbers, full}
use Rattle.protocol.proofs.Laws.Reasons.{some_kind, is_sound}
use Rattle.protocol.proofs.Laws.Batches.{log_limit}
use Rattle.store.specs.Dependency.{Any}
use Rattle.protocol.proofs.Laws.Lent.{no_operation, lent_at, lent_length, lent_at_lem, from_place, none_left, needing}
use Rattle.protocol.proofs.Laws.Lent.{needed_of}
use Rattle.protocol.proofs.Laws.Lent.{needed_one_more, run_one_more, used_all}
use Rattle.protocol.specs.Calls.{LentOperation, operations_in, too_many, own_reasons, first, run, run_all, limits}
use Rattle.protocol.specs.Calls.{batch_reason}
use Rattle.protocol.specs.Calls.{wrong_length, some_above, bad_kinds, unsound, above_last, is_live, already_live}
use Rattle.protocol.specs.Calls.{is_active}
use Rattle.protocol.specs.Calls.{not_active, is_none, without_kind, log_full, no_room, request}
use Rattle.refusals.specs.Reasons.{asker_reasons, row_limits}
use Rattle.protocol.specs.Lent.{lent_operations}
use Rattle.protocol.specs.Refusals.{refusal_number}
use Rattle.protocol.specs.declared.Refusal.{Refusal}
use Rattle.protocol.specs.declared.Refusal.TheVariants.{WrongLength, ShortList, BadKinds, Unsound, NoSuchTransaction}
use Rattle.protocol.specs.declared.Refusal.TheVariants.{AlreadyLive, NotActive, NoObject, NotOfKind, LogFull, NoRoom}
use Rattle.protocol.specs.declared.Refusal.TheVariants.{TooMany}
use Rattle.std.proofs.Common.{ltb-false}
use Rattle.std.proofs.lemmas.List.{take_all}

-- ---- The code's kinds

kind_told : (kind : Named) → read_kind (number_of_kind kind) ≡ kind_in_model kind
kind_told named.None = refl
kind_told named.Stack = refl
kind_told named.Set = refl
kind_told named.Table = refl

some_named : (kind : Named) → (kind ≡ named.None → ⊥) → is_none (kind_in_model kind) ≡ false
some_named named.None n = absurd (n refl)
some_named named.Stack n = refl
some_named named.Set n = refl
some_named named.Table n = refl

-- ---- The first that applies

module _ {test : Bool} (number : ℕ) where
  pub applies : (later : ℕ) → test ≡ true → number ≡ cond test number later
  applies later e = rw e refl

  pub passed : {reason later : ℕ} → test ≡ false → reason ≡ later → reason ≡ cond test number later
  passed e rest = rw e rest

-- ---- The kinds given to set up

module _ (kinds : List ℕ) where
  pub bad_number : (length kinds ≡ 16 → ⊥) → bad_kinds kinds ≡ true
  bad_number n = rw (ne_eqb (length kinds) 16 n) refl

  pub right_number : length kinds ≡ 16 → bad_kinds kinds ≡ some_above 3 kinds
  right_number e = rw (eq-eqb (length kinds) 16 e) refl

-- ---- What is read as a status or a kind

live_word : (x : ℕ) → (x ≡ 0 → ⊥) → is_live (read_status x) ≡ true
live_word zero n = absurd (n refl)
live_word (suc zero) n = refl
live_word (suc (suc rank)) n = refl

other_word : (x : ℕ) → (x ≡ 1 → ⊥) → not (is_active (read_status x)) ≡ true
other_word zero n = refl
other_word (suc zero) n = absurd (n refl)
other_word (suc (suc rank)) n = refl

-- ---- Each test

module _ (w : List ℕ) where
  pub other_length : (BookLong w → ⊥) → wrong_length w ≡ true
  other_length n = ap not (ne_eqb (length w) book_words n)

  pub soundness : {sound : Bool} → (sound ≡ true) ↔ Sound base w → unsound whether_sound w ≡ not sound
  soundness {sound} said = ap not (decided (whether_sound w) sound said)

  module _ (t status : ℕ) (l : t ≤ 63) (found : status ≡ word w (1 + t)) where
    read : status_of (decode base w) t ≡ read_status status
    read = status_by_word base w t status (omega arith) found

    pub already_live_lem : (status ≡ 0 → ⊥) → already_live (decode base w) t ≡ true
    already_live_lem n = ap is_live read ∙ live_word status n

    pub not_live : status ≡ 0 → already_live (decode base w) t ≡ false
    not_live e = ap is_live (read ∙ ap read_status e)

    pub not_active_lem : (status ≡ 1 → ⊥) → not_active (decode base w) t ≡ true
    not_active_lem n = ap (λ (x : Status). not (is_active x)) read ∙ other_word status n

    pub is_active_lem : status ≡ 1 → not_active (decode base w) t ≡ false
    is_active_lem e = ap (λ (x : Status). not (is_active x)) (read ∙ ap read_status e)

  pub no_object_lem : (o : ℕ) → 15 < o → without_kind (decode base w) o ≡ true
  no_object_lem o l = ap (λ (x : Object). is_none x.kind) (object_past base w o (omega arith))

  module _ (o : ℕ) (kind : Named) (l : o ≤ 15) (found : number_of_kind kind ≡ word w (object_start o)) where
    pub kind_read : (object_of (decode base w) o).kind ≡ kind_in_model kind
    kind_read =
        ap (λ (x : Object). x.kind) (object_read base w o (omega arith)) ∙ ap read_kind (sym found)
        ∙ kind_told kind

    pub without_kind_lem : kind ≡ named.None → without_kind (decode base w) o ≡ true
    without_kind_lem e = ap is_none kind_read ∙ ap (λ (k : Named). is_none (kind_in_model k)) e

    pub has_kind : (kind ≡ named.None → ⊥) → without_kind (decode base w) o ≡ false
    has_kind n = ap is_none kind_read ∙ some_named kind n

  pub log_full_lem : word w 0 ≡ 256 → log_full (decode base w) ≡ true
  log_full_lem e = rw (length_tabulate (word w 0) (entry_at w)) (le-leb 256 (word w 0) (omega arith))

  pub log_room : Packed base w → (word w 0 ≡ 256 → ⊥) → log_full (decode base w) ≡ false
  log_room p n = rw (length_tabulate (word w 0) (entry_at w)) (lt-leb 256 (word w 0) (omega (arith, p.log.entries)))

-- An operation may need a row where its number is that of a push or an insert.
adds_needed : (number k v : ℕ) → adds (request base number k v) ≡ eqb (rows_needed number) 1
unfolding rows_needed
adds_needed number k v =
    below number 12 (each (λ (n : ℕ). adds (request base n k v) ≡ eqb (rows_needed n) 1) 12 search depth 20 number)
    (λ (l : 12 ≤ number). ap (λ (o : Option Operation). adds (or_pop o))
    (get_or-eq_default (none ∷ map some (numbered reduce_key k v)) none l)
    ∙ ap (λ (n : ℕ). eqb n 1)
    (needed_none number
    (⊎_elim (λ e. absurd (omega arith)) (⊎_elim (λ e. absurd (omega arith)) (λ e. absurd (omega arith))))))

-- As a number of rows.
adds_rows : (number k v : ℕ) → cond (adds (request base number k v)) 1 0 ≡ rows_needed number
adds_rows number k v =
    ap (λ (b : Bool). cond b 1 0) (adds_needed number k v)
    ∙ same (rows_needed number) 1 (λ e. rw (eq-eqb (rows_needed number) 1 e) (sym e))
    (λ n. rw (ne_eqb (rows_needed number) 1 n) (omega (arith, needed_few number, n)))

module _ (s : Store) (o number k v : ℕ) where
  pub no_room_lem : {rows used : ℕ} → rows ≡ rows_needed number → rows ≡ 1 → used ≡ base.used s o → leb 64 used ≡ true
      → no_room base s o (request base number k v) ≡ true
  no_room_lem needs one counted full = rw (adds_needed number k v, sym needs, one, sym counted, full) refl

  pub needs_none : {rows : ℕ} → rows ≡ rows_needed number → (rows ≡ 1 → ⊥)
      → no_room base s o (request base number k v) ≡ false
  needs_none {rows} needs other = rw (adds_needed number k v, sym needs, ne_eqb rows 1 other) refl

  pub has_room : {used : ℕ} → used ≡ base.used s o → leb 64 used ≡ false
      → no_room base s o (request base number k v) ≡ false
  has_room counted free = rw (sym counted, free) (and-false (adds (request base number k v)))

-- ---- One list of tests after the other

pub number_named : (r : Refusal) → refusal_number r ≡ 0 → ⊥
number_named WrongLength e = cc
number_named ShortList e = cc
number_named BadKinds e = cc
number_named Unsound e = cc
number_named NoSuchTransaction e = cc
number_named AlreadyLive e = cc
number_named NotActive e = cc
number_named NoObject e = cc
number_named NotOfKind e = cc
number_named LogFull e = cc
number_named NoRoom e = cc
number_named TooMany e = cc

silent_one : (tests : List (ℕ × Bool)) → positive tests ≡ true → 0 ≡ first tests → Silent tests
silent_one tests numbers e = (none_applies tests numbers).0 (sym e)

-- What the first of them say is said,
pub refused : (tests later : List (ℕ × Bool)) (r : Refusal) → refusal_number r ≡ first tests
    → refusal_number r ≡ first (tests ++ later)
refused tests later r e = said_first tests later (refusal_number r) e (number_named r)

-- and where they let through, the later ones decide.
pub past : (tests later : List (ℕ × Bool)) → positive tests ≡ true → 0 ≡ first tests → {n : ℕ} → n ≡ first later
    → n ≡ first (tests ++ later)
past tests later numbers e said = said ∙ sym (first_past tests later (silent_one tests numbers e))

module _ (w : List ℕ) where
  pub past_length : 0 ≡ first ((1, wrong_length w) ∷ []) → {n later : ℕ} → n ≡ later → n ≡ cond (wrong_length w) 1 later
  past_length e = passed 1 (silent_one ((1, wrong_length w) ∷ []) refl e).0

  module _ (e : 0 ≡ first ((1, wrong_length w) ∷ (4, unsound whether_sound w) ∷ [])) where
    both : Silent ((1, wrong_length w) ∷ (4, unsound whether_sound w) ∷ [])
    both = silent_one ((1, wrong_length w) ∷ (4, unsound whether_sound w) ∷ []) refl e

    pub past_soundness : {n later : ℕ} → n ≡ later
        → n ≡ cond (wrong_length w) 1 (cond (unsound whether_sound w) 4 later)
    past_soundness said = passed 1 both.0 (passed 4 both.1.0 said)

    pub found_whole : Sound base w
    found_whole = is_sound base whether_sound w both.1.0

pub past_number : (t : ℕ) → 0 ≡ first ((5, above_last t) ∷ []) → {n later : ℕ} → n ≡ later
    → n ≡ cond (above_last t) 5 later
past_number t e = passed 5 (silent_one ((5, above_last t) ∷ []) refl e).0

-- A transaction that can be.
pub can_be : (t : ℕ) → 0 ≡ first ((5, above_last t) ∷ []) → t ≤ 63
can_be t e = ltb-false 63 t (silent_one ((5, above_last t) ∷ []) refl e).0

own_positive : (s : Store) (qs : List LentOperation) → positive (own_reasons s qs) ≡ true
own_positive s qs = positive_numbers (own_reasons s qs) (own_numbers (λ n. ltb 0 n ≡ true) refl refl s qs)

-- ---- Operate and batch: reasons of who asks, the operations' own, and the limits, in this order

module _ (w : List ℕ) (t : ℕ) (operations : List ℕ) where
  abbrev asker : List (ℕ × Bool)
  asker = asker_reasons w t (too_many operations)

  abbrev own : List (ℕ × Bool)
  own = own_reasons (decode base w) (operations_in operations)

  abbrev limit : List (ℕ × Bool)
  limit = limiting base t (decode base w) (operations_in operations)

  pub asker_refuses : (r : Refusal) → refusal_number r ≡ first asker
      → refusal_number r ≡ batch_reason base whether_sound w t operations
  asker_refuses = refused asker (own ++ limit)

  module _ (asked : 0 ≡ first asker) where
    pub asker_sound : Sound base w
    asker_sound = is_sound base whether_sound w (silent_one asker refl asked).1.0

    pub own_refuses : (r : Refusal) → refusal_number r ≡ first own
        → refusal_number r ≡ batch_reason base whether_sound w t operations
    own_refuses r e = past asker (own ++ limit) refl asked (refused own limit r e)

    module _ (free : 0 ≡ first own) where
      pub own_silent : Silent own
      own_silent = silent_one own (own_positive (decode base w) (operations_in operations)) free

      pub limited : {r : ℕ} → r ≡ first limit → r ≡ batch_reason base whether_sound w t operations
      limited e =
          past asker (own ++ limit) refl asked
          (past own limit (own_positive (decode base w) (operations_in operations)) free e)

-- ---- The operations of a batch, one after the other

module _ (lent : List (List ℕ)) where
  abbrev qs : List LentOperation
  qs = lent_operations lent

  module _ (w : List ℕ) where
    abbrev own_from : ℕ → ℕ
    own_from i = first (own_reasons (decode base w) (drop i qs))

    -- What is left to test says what all of it does.
    abbrev pub OwnLeft : ℕ → Type 0
    OwnLeft i = own_from i ≡ first (own_reasons (decode base w) qs)

    module _ (i : ℕ) (within : i < length lent) (left : OwnLeft i) where
      abbrev here : List (ℕ × Bool)
      here = own_reasons (decode base w) (lent_at lent i ∷ [])

      abbrev later : List (ℕ × Bool)
      later = own_reasons (decode base w) (drop (i + 1) qs)

      unrolled : first (here ++ later) ≡ first (own_reasons (decode base w) qs)
      unrolled =
          ap (λ (l : List LentOperation). first (own_reasons (decode base w) l)) (sym (from_place lent i within)) ∙ left

      pub own_found : (r : Refusal) → refusal_number r ≡ first here
          → refusal_number r ≡ first (own_reasons (decode base w) qs)
      own_found r e = refused here later r e ∙ unrolled

      pub own_passed : 0 ≡ first here → OwnLeft (i + 1)
      own_passed e = past here later refl e refl ∙ unrolled

    pub own_none : (i : ℕ) → length lent ≤ i → OwnLeft i → 0 ≡ first (own_reasons (decode base w) qs)
    own_none i all left =
        ap (λ (l : List LentOperation). first (own_reasons (decode base w) l)) (sym (none_left lent i all)) ∙ left

  -- ---- Rows that those before need

  module _ (o : ℕ) where
    abbrev pub needed_to : ℕ → ℕ
    needed_to i = needed_of o (take i qs)

    module _ (i : ℕ) (within : i < length lent) where
      needed_next : needed_to (i + 1) ≡ needed_to i + needing (lent_at lent i) o
      needed_next =
          ap needed_to (add-one i)
          ∙ needed_one_more o qs i no_operation (omega (arith, within, lent_length lent))
          ∙ ap (λ (q : LentOperation). needed_to i + needing q o) (lent_at_lem lent i)

      -- One on the object needs a row where its number is that of a push or an insert,
      pub needed_own : (lent_at lent i).object ≡ o → (rows : ℕ) → rows ≡ rows_needed (lent_at lent i).number
          → needed_to (i + 1) ≡ needed_to i + rows
      needed_own e rows needs =
          needed_next ∙ ap (λ (n : ℕ). needed_to i + n)
          (rw (eq-eqb (lent_at lent i).object o e) (adds_rows (lent_at lent i).number _ _ ∙ sym needs))

      -- and one on another needs none.
      pub needed_other : ((lent_at lent i).object ≡ o → ⊥) → needed_to (i + 1) ≡ needed_to i
      needed_other n =
          let none : needing (lent_at lent i) o ≡ 0 = rw (ne_eqb (lent_at lent i).object o n) refl in
          omega (arith, needed_next, none)

    pub needed_all : (i : ℕ) → length lent ≤ i → needed_to i ≡ needed_of o qs
    needed_all i all = ap (needed_of o) (take_all i qs (omega (arith, all, lent_length lent)))

  -- ---- Room for each

  module _ (w : List ℕ) where
    abbrev ran : ℕ → ℕ → Store
    ran t i = run_all base t (take i qs) (decode base w)

    abbrev limits_from : ℕ → ℕ → ℕ
    limits_from t i = first (limits base 11 (crowded base t) t (ran t i) (drop i qs))

    -- What is left to test, those before having run, says what all of it does.
    abbrev pub RoomLeft : ℕ → Type 0
    RoomLeft i = (t : ℕ) → limits_from t i ≡ first (row_limits t w qs)

    -- An operation's object is one of the sixteen.
    pub lent_below : Silent (own_reasons (decode base w) qs) → (i : ℕ) → i < length lent
        → (lent_at lent i).object < 16
    lent_below own i within =
        let kind =
        some_kind (object_of (decode base w) (lent_at lent i).object).kind
        (subst (λ (q : LentOperation). without_kind (decode base w) q.object ≡ false) (lent_at_lem lent i)
        (kind_at qs i (omega (arith, within, lent_length lent)) own)) in
        kind_below base w (lent_at lent i).object kind.0 kind.1
      where
        kind_at : (l : List LentOperation) (i : ℕ) → i < length l → Silent (own_reasons (decode base w) l)
            → without_kind (decode base w) (get_or l i no_operation).object ≡ false
        kind_at [] i less own = absurd (not-suc-le-zero less)
        kind_at (q ∷ l) zero less own = own.0
        kind_at (q ∷ l) (suc i) less own = kind_at l i (omega (arith, less)) own.1.1

    module _ (i : ℕ) (within : i < length lent) (left : RoomLeft i) where
      abbrev at : LentOperation
      at = lent_at lent i

      unrolled_limits : (t : ℕ) → first (limits base 11 (crowded base t) t (ran t i) (at ∷ drop (i + 1) qs))
          ≡ first (row_limits t w qs)
      unrolled_limits t =
          ap (λ (l : List LentOperation). first (limits base 11 (crowded base t) t (ran t i) l))
          (sym (from_place lent i within))
          ∙ left t

      -- What is used once those before have run.
      used_then : (t used needed : ℕ) → used ≡ base.used (decode base w) at.object
          → needed ≡ needed_to at.object i → used + needed ≡ base.used (ran t i) at.object
      used_then t used needed counted before =
          omega (arith, counted, before, used_all t at.object (decode base w) (take i qs))

      pub room_missing : {rows used needed : ℕ} → rows ≡ rows_needed at.number → rows ≡ 1
          → used ≡ base.used (decode base w) at.object → needed ≡ needed_to at.object i
          → leb 64 (used + needed) ≡ true → (t : ℕ) → first (row_limits t w qs) ≡ 11
      room_missing {rows} {used} {needed} needs one counted before full t =
          sym (applies 11 _ (no_room_lem (ran t i) at.object at.number at.key at.value needs one
          (used_then t used needed counted before) full) ∙ unrolled_limits t)

      room_passed : ((t : ℕ) → crowded base t (ran t i) at ≡ false) → RoomLeft (i + 1)
      room_passed free t =
          let inside : i < length qs = omega (arith, within, lent_length lent) in
          let next : ran t (i + 1) ≡ run base t at (ran t i) =
          ap (ran t) (add-one i) ∙ run_one_more base t qs i no_operation inside (decode base w)
          ∙ ap (λ (q : LentOperation). run base t q (ran t i))
          (lent_at_lem lent i) in
          ap (λ (s : Store). first (limits base 11 (crowded base t) t s (drop (i + 1) qs))) next
          ∙ passed 11 (free t) refl ∙ unrolled_limits t

      pub room_found : {used needed : ℕ} → used ≡ base.used (decode base w) at.object
          → needed ≡ needed_to at.object i → leb 64 (used + needed) ≡ false → RoomLeft (i + 1)
      room_found {used} {needed} counted before free =
          room_passed (λ t. has_room (ran t i) at.object at.number at.key at.value
          (used_then t used needed counted before) free)

      pub room_unneeded : {rows : ℕ} → rows ≡ rows_needed at.number → (rows ≡ 1 → ⊥) → RoomLeft (i + 1)
      room_unneeded needs other =
          room_passed (λ t. needs_none (ran t i) at.object at.number at.key at.value needs other)

    pub room_everywhere : (i : ℕ) → length lent ≤ i → RoomLeft i
        → (t : ℕ) → first (row_limits t w qs) ≡ 0
    room_everywhere i all left t =
        sym (left t)
        ∙ ap (λ (l : List LentOperation). first (limits base 11 (crowded base t) t (ran t i) l))
        (none_left lent i all)

-- ---- The limits of a batch

module _ (w : List ℕ) (t : ℕ) (qs : List LentOperation) (packed : Packed base w) where
  abbrev counted : ℕ
  counted = word w 0 + length qs

  log_with : length (decode base w).log + length qs ≡ counted
  log_with = omega (arith, length_tabulate (word w 0) (entry_at w))

  abbrev limits_of : ℕ
  limits_of = first (limiting base t (decode base w) qs)

  abbrev entry_limits : List (ℕ × Bool)
  entry_limits = limits base 10 (full base t) t (decode base w) qs

  over_limit : Any (λ (test : ℕ × Bool). test.1 ≡ true) entry_limits
      ↔ (256 < length (decode base w).log + length qs)
  over_limit =
      log_limit t (decode base w) qs
      (omega (arith, length_tabulate (word w 0) (entry_at w), packed.log.entries))

  pub batch_full : 256 < counted → 10 ≡ limits_of
  batch_full over =
      first_numbered 10 entry_limits (row_limits t w qs)
      (limit_numbers base t (λ n. 10 ≡ n) 10 refl (full base t) (decode base w) qs)
      (over_limit.1 (omega (arith, over, log_with)))

  pub batch_within : counted ≤ 256 → {r : ℕ} → r ≡ first (row_limits t w qs) → r ≡ limits_of
  batch_within few e =
      e ∙ sym (first_past entry_limits (row_limits t w qs)
      (none_any entry_limits (λ a. omega (arith, over_limit.0 a, few, log_with))))
