-- Requests that may be entered, and the operations of a batch one after the other.
use Rattle.std.specs.Prelude.{ℕ, zero, suc, ◌+◌, ◌-◌, ◌≤◌, ◌<◌, ◌≡◌, refl, Bool, true, false, ◌||◌, List, [], ◌∷◌}
use Rattle.std.specs.Prelude.{◌++◌, map, length, get_or, set, take, drop, replicate}
use Rattle.std.proofs.Common.{sym, ap, ap₂, ◌∙◌, subst, add-one, arith, length-append, take_all, length-take-le}
use Rattle.std.proofs.Common.{Option, Some, None, IfSome}
use Rattle.std.proofs.Math.Option.{none, some, none-ne-some}
use Rattle.std.proofs.Math.ListN.{get_or-eq_default}
use Rattle.operations.specs.Operations.{Operation, Answer, answering, kind_of, stored, reduce_key}
use Rattle.operations.specs.Operations.{numbered as operations}
use Rattle.operations.specs.declared.Operation as words
use Rattle.operations.specs.declared.Answer as answers
use Rattle.operations.specs.Stored.{answer_of}
use Rattle.operations.specs.PairRules.{Numbered}
use Rattle.operations.proofs.Laws.Cases.{map_set}
use Rattle.bitset.specs.Bitset.{has, Members}
use Rattle.bitset.specs.Laws.{joined, no_member, same_members}
use Rattle.store.specs.Store.{Store, object_of, Active}
use Rattle.store.specs.Layout.{base, encode, decode, word, entry_at}
use Rattle.store.specs.Steps.{appended}
use Rattle.store.specs.Soundness.{Sound}
use Rattle.store.proofs.Theorems.{encoded, representable, decoded, packed}
use Rattle.store.proofs.Laws.Reading.{kind_below}
use Rattle.store.proofs.Laws.Words.{below}
use Rattle.answers.specs.Answers.{Requested}
use Rattle.answers.specs.Laws.Whole.{rows_read}
use Rattle.waits.specs.Waits.{Asked}
use Rattle.waits.specs.Laws.Rules.{named}
use Rattle.entry_log.specs.Log.{StoredAs, logged}
use Rattle.replay.specs.Replay.{next_named, answer_named}
use Rattle.store.proofs.Laws.Lists.{length_tabulate}
use Rattle.protocol.specs.Calls.{LentOperation, operations_in, request, requested, answer_to, run}
use Rattle.protocol.specs.Calls.{run_all, answers_to, awaited}
use Rattle.protocol.specs.Terms.{OperationAccepted, EachAccepted, BatchAccepted}
use Rattle.protocol.specs.ReplyOf.{filled}
use Rattle.protocol.proofs.Laws.Ending.{entries_fit}
use Rattle.protocol.proofs.Laws.Reasons.{request_reduced}
use Rattle.protocol.proofs.Laws.Lent.{no_operation, lent_at, lent_count, lent_length, lent_at_lem, from_place}
use Rattle.protocol.proofs.Laws.Lent.{none_left}
use Rattle.protocol.proofs.Laws.Lent.{run_one_more}
use Rattle.protocol.proofs.Laws.Lent.{answers_one_more}
use Rattle.protocol.proofs.Laws.Batches.{barring, awaited_run, free_first, Kept, run_kept, run_all_log, answers_counted}
use Rattle.protocol.proofs.Laws.Kept.{encoded_sound}
use Rattle.protocol.specs.Lent.{lent_operations}
use Rattle.batches.specs.declared.OwnRows.{OwnRows}
use Rattle.batches.specs.Batches.{Enterable, Carried, Advanced, rows_in}
use Rattle.batches.specs.Laws.Carrying.{carried_answer, carried_room, carried_next}

-- ---- A request that may be entered

-- As stored, it asks for something of the object's kind.
pub asks : (w : List ℕ) (o : ℕ) (operation : words.Operation) (e : Enterable w o operation)
    → Requested w o operation (request base e.number e.key e.value)
asks w o operation e =
    let requested = request base e.number e.key e.value in
    let kind = e.accepted.kind in
    let s = e.sound.store.unsettled in
    record {
      number = e.stored.0;
      named = named operation requested e.stored;
      key = request_reduced e.number e.key e.value;
      rows =
          rw (← rows_read w o (kind_below base w o (kind_of requested) kind)) (s.rows o (kind_of requested) kind);
      entries = entries_fit (decode base w) o (kind_of requested) kind (decode base w).log s.fits s.reduced;
    }

-- The number of an operation is from 1 to 11.
pub numbered : (number k v : ℕ) (o : Operation) → stored reduce_key number k v ≡ some o → Numbered number
numbered zero k v o e = absurd (none-ne-some o e)
numbered (suc number) k v o e =
    below (suc number) 12 (λ (l : suc number < 12). (omega arith, omega arith))
    (λ (l : 12 ≤ suc number). absurd (none-ne-some o
    (sym (get_or-eq_default (none ∷ map some (operations reduce_key k v)) none {n = suc number} l) ∙ e)))

-- ---- Answers put into the array

fill_next : (given : List Answer) (x z : Answer) (n : ℕ)
    → set (given ++ replicate (suc n) z) (length given) x ≡ (given ++ (x ∷ [])) ++ replicate n z
fill_next [] x z n = refl
fill_next (y ∷ given) x z n = ap (λ (l : List Answer). y ∷ l) (fill_next given x z n)

-- The next one takes the first place that is left.
filled_next : (given : List Answer) (x : Answer) → length given < 16
    → set (filled given) (length given) x ≡ filled (given ++ (x ∷ []))
filled_next given x few =
    let left : 16 - length given ≡ suc (16 - length (given ++ (x ∷ []))) =
    omega (arith, few, length-append given (x ∷ [])) in
    ap (λ (n : ℕ). set (given ++ replicate n (answering 0 0)) (length given) x) left
    ∙ fill_next given x (answering 0 0) (16 - length (given ++ (x ∷ [])))

-- ---- Each operation of a batch

module _ (t : ℕ) where
  -- Each is accepted once those before it have run,
  accepted_at : (s : Store) (qs : List LentOperation) (i : ℕ) (d : LentOperation) → i < length qs
      → EachAccepted base t s qs → OperationAccepted base (run_all base t (take i qs) s) (get_or qs i d)
  accepted_at s [] i d within each = absurd (omega (arith, within))
  accepted_at s (q ∷ qs) zero d within (a, later) = a
  accepted_at s (q ∷ qs) (suc i) d within (a, later) =
      accepted_at (run base t q s) qs i d (omega (arith, within)) later

  -- and waits for nobody then.
  free_at : (s : Store) (qs : List LentOperation) (i : ℕ) (d : LentOperation) → i < length qs
      → awaited base t s qs ≡ 0 → barring t (run_all base t (take i qs) s) (get_or qs i d) ≡ 0
  free_at s [] i d within free = absurd (omega (arith, within))
  free_at s (q ∷ qs) zero d within free = ((free_first t s q qs).0 free).0
  free_at s (q ∷ qs) (suc i) d within free =
      free_at (run base t q s) qs i d (omega (arith, within)) (awaited_run t s q qs ∙ ((free_first t s q qs).0 free).1)

module _ (w : List ℕ) (t : ℕ) (lent : List (List ℕ)) where
  abbrev s : Store
  s = decode base w

  abbrev qs : List LentOperation
  qs = lent_operations lent

  abbrev pub ran : ℕ → Store
  ran i = run_all base t (take i qs) s

  inside : (i : ℕ) → i < length lent → i < length qs
  inside i within = omega (arith, within, lent_length lent)

  -- ---- Whom they wait for: with whom those left wait for, a set makes the whole

  abbrev pub AwaitsLeft : ℕ → ℕ → Type 0
  AwaitsLeft i set = (h : ℕ) → has set h || has (awaited base t s (drop i qs)) h ≡ has (awaited base t s qs) h

  pub awaits_start : AwaitsLeft 0 0
  awaits_start h = rw (no_member h) refl

  regroup : (p q r : Bool) → (p || r) || q ≡ p || (q || r)
  regroup true q r = refl
  regroup false true true = refl
  regroup false true false = refl
  regroup false false true = refl
  regroup false false false = refl

  pub awaits_turn : (i : ℕ) → i < length lent → (set found after : ℕ) → found ≡ barring t s (lent_at lent i)
      → Members after (λ h. has set h || has found h) → AwaitsLeft i set → AwaitsLeft (i + 1) after
  awaits_turn i within set found after scanned both left h =
      let rest = awaited base t s (drop (i + 1) qs) in
      let q = lent_at lent i in
      let unrolled : has (awaited base t s (drop i qs)) h ≡ has rest h || has found h =
      ap (λ (x : List LentOperation). has (awaited base t s x) h) (from_place lent i within)
      ∙ joined rest (barring t s q) h
      ∙ ap (λ (x : ℕ). has rest h || has x h) (sym scanned) in
      ap (λ (b : Bool). b || has rest h) (both h) ∙ regroup (has set h) (has rest h) (has found h)
      ∙ ap (λ (b : Bool). has set h || b) (sym unrolled) ∙ left h

  pub awaits_end : (i : ℕ) → length lent ≤ i → (set : ℕ) → AwaitsLeft i set → set ≡ awaited base t s qs
  awaits_end i past set left =
      same_members set (awaited base t s qs) (λ h.
      let none : has (awaited base t s (drop i qs)) h ≡ false =
      ap (λ (x : List LentOperation). has (awaited base t s x) h) (none_left lent i past) ∙ no_member h in
      sym (or-false (has set h)) ∙ ap (λ (b : Bool). has set h || b) (sym none) ∙ left h)
    where
      or-false : (b : Bool) → b || false ≡ b
      or-false true = refl
      or-false false = refl

  -- ---- Entered so far: the book holds what the first i leave, and the array their answers

  pub record Entering (i : ℕ) (book : List ℕ) (given : List answers.Answer) : Type 0 where
    pub kept : Kept t (ran i)
    pub written : book ≡ encode base (ran i)
    pub answered : map answer_of given ≡ filled (answers_to base t (take i qs) s)

module _ (w : List ℕ) (t : ℕ) (l : List ℕ) (a : BatchAccepted base w t l) (lent : List (List ℕ))
    (are : lent_operations lent ≡ operations_in l) where
  abbrev held : Store
  held = decode base w

  abbrev lent_qs : List LentOperation
  lent_qs = lent_operations lent

  -- At most sixteen are lent.
  pub few_lent : length lent ≤ 16
  few_lent = omega (arith, lent_length lent, ap length are, lent_count l, a.few)

  module _ (i : ℕ) (within : i < length lent) where
    accepted_here : OperationAccepted base (ran w t lent i) (lent_at lent i)
    accepted_here = subst (OperationAccepted base (ran w t lent i)) (lent_at_lem lent i)
        (accepted_at t held lent_qs i no_operation (inside w t lent i within)
        (subst (EachAccepted base t held) (sym are) a.each))

    -- It names an operation.
    pub numbered_here : Numbered (lent_at lent i).number
    numbered_here = let q = lent_at lent i in numbered q.number q.key q.value _ accepted_here.named

    kind_here : (object_of held (lent_at lent i).object).kind ≡ some (kind_of (requested base (lent_at lent i)))
    kind_here =
        sym (ap (λ (x : Store). (object_of x (lent_at lent i).object).kind) (run_all_log t held (take i lent_qs)))
        ∙ accepted_here.kind

    -- What the scan of the log asks for.
    pub scanned_here : (operation : words.Operation) → StoredAs operation (requested base (lent_at lent i))
        → Asked w (lent_at lent i).object operation
    scanned_here operation stored =
        let q = lent_at lent i in
        record {
          packed = a.sound.packed;
          live = a.sound.store.unsettled.live;
          fits = a.sound.store.unsettled.fits;
          below = kind_below base w q.object _ kind_here;
          kinded = (requested base q, stored, kind_here);
        }

  pub entering_start : (given : List answers.Answer) → map answer_of given ≡ filled [] → Entering w t lent 0 w given
  entering_start given zeros =
      record {
        kept = (a.sound.store, representable w a.sound.packed);
        written = sym (encoded w a.sound.packed);
        answered = zeros;
      }

  module _ (i : ℕ) (book : List ℕ) (given : List answers.Answer) (e : Entering w t lent i book given) where
    pub entering_long : length book ≡ length w
    entering_long = ap length e.written ∙ (packed (ran w t lent i) e.kept.1).words ∙ sym a.words

    few : i ≤ length lent → length (answers_to base t (take i lent_qs) held) ≡ i
    few within =
        answers_counted t held (take i lent_qs) ∙ length-take-le i lent_qs (omega (arith, within, lent_length lent))

    pub entering_sound : Sound base book
    entering_sound = subst (Sound base) (sym e.written) (encoded_sound (ran w t lent i) e.kept.1 e.kept.0)

    read_back : decode base book ≡ ran w t lent i
    read_back = ap (decode base) e.written ∙ decoded (ran w t lent i) e.kept.1

    -- What is said of a carried copy is said of the book that is written.
    pub carried_held : (carried : Option OwnRows)
        → IfSome carried (λ copy. Carried (ran w t lent i) t copy.object copy)
        → IfSome carried (λ copy. Carried (decode base book) t copy.object copy)
    carried_held None nothing = tt
    carried_held (Some copy) held = subst (λ (x : Store). Carried x t copy.object copy) (sym read_back) held

    module _ (within : i < length lent) where
      abbrev q : LentOperation
      q = lent_at lent i

      pub entering_below : q.object < 16
      entering_below = kind_below base w q.object _ (kind_here i within)

      pub entering_short : word book 0 < 256
      entering_short =
          let entries = ap (λ (x : Store). length x.log) read_back in
          omega (arith, length_tabulate (word book 0) (entry_at book), entries, (accepted_here i within).entries)

      -- A copy made anew from the book.
      pub carried_anew : (copy : OwnRows) → Carried (decode base book) t q.object copy
          → Carried (ran w t lent i) t q.object copy
      carried_anew copy = subst (λ (x : Store). Carried x t q.object copy) read_back

      next : ran w t lent (i + 1) ≡ run base t q (ran w t lent i)
      next =
          ap (ran w t lent) (add-one i) ∙ run_one_more base t lent_qs i no_operation (inside w t lent i within) held
          ∙ ap (λ (x : LentOperation). run base t x (ran w t lent i)) (lent_at_lem lent i)

      module _ (operation : words.Operation) (stored : StoredAs operation (requested base q))
          (copy : OwnRows) (c : Carried (ran w t lent i) t q.object copy) where
        pub room_here : length (next_named operation (rows_in copy)) ≤ 64
        room_here = carried_room (ran w t lent i) t q e.kept.0 (accepted_here i within) operation stored copy c

        pub carried_on : (later : OwnRows) → Advanced copy operation later
            → Carried (ran w t lent (i + 1)) t q.object later
        carried_on later on =
            subst (λ (x : Store). Carried x t q.object later) (sym next)
            (carried_next (ran w t lent i) t q e.kept.0 (accepted_here i within) operation stored copy c later on)

        pub entering_turn : awaited base t held (operations_in l) ≡ 0 → (given_now : answers.Answer)
            → answer_of given_now ≡ answer_named operation (rows_in copy) → (after : List ℕ)
            → after ≡ encode base (appended (logged t q.object (requested base q) (answer_of given_now))
            (decode base book))
            → Entering w t lent (i + 1) after (set given i given_now)
        entering_turn free given_now found after put =
            let first = answers_to base t (take i lent_qs) held in
            let answer = answer_to (requested base q) (ran w t lent i) q.object in
            let is_active_lem : Active (ran w t lent i) t =
            subst (λ (x : Store). Active x t) (sym (run_all_log t held (take i lent_qs))) a.active in
            let unbarred : barring t (ran w t lent i) q ≡ 0 =
            subst (λ (x : LentOperation). barring t (ran w t lent i) x ≡ 0) (lent_at_lem lent i)
            (free_at t held lent_qs i no_operation (inside w t lent i within) (ap (awaited base t held) are ∙ free)) in
            let replayed : answer_of given_now ≡ answer =
            found
            ∙ carried_answer (ran w t lent i) t q e.kept.0 (accepted_here i within) operation stored copy c
            unbarred in
            let many : length first ≡ i = few (omega (arith, within)) in
            let answers_next : answers_to base t (take (i + 1) lent_qs) held ≡ first ++ (answer ∷ []) =
            ap (λ (n : ℕ). answers_to base t (take n lent_qs) held) (add-one i)
            ∙ answers_one_more base t lent_qs i no_operation (inside w t lent i within) held
            ∙ ap (λ (x : LentOperation). first ++ (answer_to (requested base x) (ran w t lent i) x.object ∷ []))
            (lent_at_lem lent i) in
            record {
              kept =
                  subst (Kept t) (sym next)
                  (run_kept t (ran w t lent i) q e.kept is_active_lem (accepted_here i within) unbarred);
              written =
                  put
                  ∙ ap₂ (λ (x : Answer) (y : Store).
                  encode base (appended (logged t q.object (requested base q) x) y)) replayed read_back
                  ∙ ap (encode base) (sym next);
              answered =
                  map_set answer_of given i given_now
                  ∙ ap₂ (λ (x : List Answer) (y : Answer). set x i y) e.answered replayed
                  ∙ ap (λ (n : ℕ). set (filled first) n answer) (sym many)
                  ∙ filled_next first answer (omega (arith, many, few_lent, within))
                  ∙ ap filled (sym answers_next);
            }

    pub entering_end : length lent ≤ i → (book ≡ encode base (run_all base t (operations_in l) held))
        × (map answer_of given ≡ filled (answers_to base t (operations_in l) held))
    entering_end all =
        let whole : take i lent_qs ≡ operations_in l =
        take_all i lent_qs (omega (arith, all, lent_length lent)) ∙ are in (
          e.written ∙ ap (λ (x : List LentOperation). encode base (run_all base t x held)) whole,
          e.answered ∙ ap (λ (x : List LentOperation). filled (answers_to base t x held)) whole,
        )
