-- What is known where no reason for saying no applies, for each call.
use Rattle.std.specs.Prelude.{ℕ, zero, suc, ◌+◌, ◌-◌, ◌%◌, ◌≤◌, ◌<◌, ◌≡◌, refl, Bool, true, false, cond, not, ◌&&◌, ◌↔◌}
use Rattle.std.specs.Prelude.{◌⊎◌, List, [], ◌∷◌, ◌++◌, map, eqb, ltb, leb, length}
use Rattle.std.proofs.Common.{sym, ap, ◌∙◌, subst, true≢false, inl, inr, ⊎_elim, append-nil, arith, eq-eqb, ne_eqb}
use Rattle.std.proofs.Common.{lt-ltb, le-ltb, eqb-true, ltb-true, ltb-false, leb-true, leb-false}
use Rattle.std.proofs.Math.Bool.{decide_iff, and-eq-true_iff}
use Rattle.std.proofs.lemmas.Bool.{false≢true, lt-leb, eqb-false, not-true, not-false}
use mathlib.Mathlib.Data.Bool.Basic.{or-eq-false-eq-eq-false-and-eq-false}
use Rattle.std.proofs.Math.Option.{Option, none, some, none-ne-some}
use Rattle.std.proofs.Math.ListN.{get_or-eq_default}
use Rattle.operations.specs.Operations.{Kind, Stack, Set, Table, Operation, kind_of, numbered, stored, reduce_key, All}
use Rattle.operations.specs.Operations.{StoredKey}
use Rattle.operations.specs.PairRules.{first_number, last_number}
use Rattle.operations.proofs.Laws.Cases.{split, all_append, all_parts}
use Rattle.operations.proofs.Laws.Storing.{stored_reduced, reduced_once}
use Rattle.operations.specs.Operations.{adds}
use Rattle.bitset.specs.Laws.{either}
use Rattle.store.specs.Layout.{BookLong, book_words}
use Rattle.store.specs.Store.{transaction_count, Status, absent, active, pseudo_committed, Store, status_of}
use Rattle.store.specs.Store.{object_of}
use Rattle.store.specs.Dependency.{Any}
use Rattle.store.specs.Layout.{Format, decode, or_pop, base}
use Rattle.store.specs.Soundness.{Sound}
use Rattle.store.proofs.Laws.Words.{below, each}
use Rattle.protocol.specs.Replies.{refused, outcome, Served, served}
use Rattle.protocol.specs.Calls.{wrong_length, list_too_short, some_above, bad_kinds, unsound, above_last, is_live}
use Rattle.protocol.specs.Calls.{already_live, is_active, not_active, is_none, without_kind, is_of, not_of_kind}
use Rattle.protocol.specs.Calls.{log_full}
use Rattle.protocol.specs.Calls.{LentOperation, operations_in, no_room, too_many, own_reasons, first, unless, request}
use Rattle.protocol.specs.Calls.{requested, run, limits, set_up_reason, begin_reason, batch_reason, operate_reason}
use Rattle.protocol.specs.Calls.{end_reason, contents_reason}
use Rattle.protocol.specs.Terms.{BeginAccepted, ContentsAccepted, EndAccepted, OperateAccepted, SetUpAccepted}
use Rattle.protocol.specs.Terms.{OperationAccepted, EachAccepted, BatchPremises, BatchAccepted}
use Rattle.protocol.specs.Terms.{Has8, Has9, HasNeither, FirstOwn}
use mathlib.Core.Logic.Iff

-- ---- The first reason that applies

-- None of these reasons applies.
abbrev pub Silent : List (ℕ × Bool) → Type 0
Silent tests = All (λ (test : ℕ × Bool). test.1 ≡ false) tests

-- None has the number 0.
abbrev pub positive : List (ℕ × Bool) → Bool
positive [] = true
positive ((number, applies) ∷ tests) = ltb 0 number && positive tests

-- The result is 0 exactly where none applies.
pub none_applies : (tests : List (ℕ × Bool)) → positive tests ≡ true → (first tests ≡ 0) ↔ Silent tests
none_applies [] numbers = (λ e. tt, λ a. refl)
none_applies ((number, true) ∷ tests) numbers =
    let above = ltb-true 0 number ((and-eq-true_iff (ltb 0 number) (positive tests)).0 numbers).0 in
    (λ e. absurd (omega (arith, above)), λ a. absurd (true≢false a.0))
none_applies ((number, false) ∷ tests) numbers =
    let rest = none_applies tests ((and-eq-true_iff (ltb 0 number) (positive tests)).0 numbers).1 in
    (λ e. (refl, rest.0 e), λ a. rest.1 a.1)

-- All have such numbers.
abbrev pub Numbers : (ℕ → Type 0) → List (ℕ × Bool) → Type 0
Numbers P tests = All (λ (test : ℕ × Bool). P test.0) tests

pub positive_numbers : (tests : List (ℕ × Bool)) → Numbers (λ n. ltb 0 n ≡ true) tests → positive tests ≡ true
positive_numbers [] numbers = refl
positive_numbers ((number, applies) ∷ tests) numbers = rw numbers.0 (positive_numbers tests numbers.1)

-- The first of other numbers than n has another.
pub first_other : (n : ℕ) (tests : List (ℕ × Bool)) → Numbers (λ number. eqb number n ≡ false) tests → eqb 0 n ≡ false
    → eqb (first tests) n ≡ false
first_other n [] numbers e = e
first_other n ((number, true) ∷ tests) numbers e = numbers.0
first_other n ((number, false) ∷ tests) numbers e = first_other n tests numbers.1 e

-- Where the first that applies has such a number, none of other numbers before it applies.
first_later : (such : ℕ → Bool) (tests later : List (ℕ × Bool)) → Numbers (λ number. such number ≡ false) tests
    → such (first (tests ++ later)) ≡ true → Silent tests × (such (first later) ≡ true)
first_later such [] later numbers e = (tt, e)
first_later such ((number, true) ∷ tests) later numbers e = absurd (true≢false (sym e ∙ numbers.0))
first_later such ((number, false) ∷ tests) later numbers e =
    let rest = first_later such tests later numbers.1 e in ((refl, rest.0), rest.1)

-- Those that do not apply may be left out.
pub first_past : (tests later : List (ℕ × Bool)) → Silent tests → first (tests ++ later) ≡ first later
first_past [] later silent = refl
first_past ((number, applies) ∷ tests) later silent = rw silent.0 (first_past tests later silent.1)

-- Where one applies, the first has a number such as all have.
pub first_such : (P : ℕ → Type 0) (tests : List (ℕ × Bool)) → Numbers P tests → (first tests ≡ 0 → ⊥)
    → P (first tests)
first_such P [] numbers applies = absurd (applies refl)
first_such P ((number, true) ∷ tests) numbers applies = numbers.0
first_such P ((number, false) ∷ tests) numbers applies = first_such P tests numbers.1 applies

first_silent : (tests : List (ℕ × Bool)) → Silent tests → first tests ≡ 0
first_silent tests silent = ap first (sym (append-nil tests)) ∙ first_past tests [] silent

-- The first has number n: where those before have others, exactly where none of them applies and the first of the later
-- ones has it;
past_others : (n : ℕ) (tests later : List (ℕ × Bool)) → Numbers (λ number. eqb number n ≡ false) tests
    → (first (tests ++ later) ≡ n) ↔ (Silent tests × (first later ≡ n))
past_others n tests later numbers = (
  λ e. let (silent, said) = first_later (λ number. eqb number n) tests later numbers (eq-eqb _ n e) in
      (silent, eqb-true (first later) n said),
  λ p. first_past tests later p.0 ∙ p.1,
)

-- where later ones have others, exactly where the first of those before has it;
before_others : (n : ℕ) (tests later : List (ℕ × Bool)) → eqb 0 n ≡ false
    → Numbers (λ number. eqb number n ≡ false) later → (first (tests ++ later) ≡ n) ↔ (first tests ≡ n)
before_others n [] later applies numbers = (
  λ e. absurd (eqb-false (first later) n (first_other n later numbers applies) e),
  λ e. absurd (eqb-false 0 n applies e),
)
before_others n ((number, true) ∷ tests) later applies numbers = Iff.rfl
before_others n ((number, false) ∷ tests) later applies numbers = before_others n tests later applies numbers

-- where all have it, exactly where one applies.
numbered_exactly : (n : ℕ) (tests : List (ℕ × Bool)) → eqb 0 n ≡ false → Numbers (λ number. number ≡ n) tests
    → (first tests ≡ n) ↔ Any (λ (test : ℕ × Bool). test.1 ≡ true) tests
numbered_exactly n [] applies numbers = (λ e. absurd (eqb-false 0 n applies e), λ a. absurd a)
numbered_exactly n ((number, true) ∷ tests) applies numbers = (λ e. inl refl, λ a. numbers.0)
numbered_exactly n ((number, false) ∷ tests) applies numbers =
    let rest = numbered_exactly n tests applies numbers.1 in
    (λ e. inr (rest.0 e), ⊎_elim (λ e. absurd (false≢true e)) rest.1)

-- Either one applies, or none does; and where all have one number, it is that.
silent_any : (tests : List (ℕ × Bool)) → Silent tests → Any (λ (test : ℕ × Bool). test.1 ≡ true) tests → ⊥
silent_any [] silent a = a
silent_any (test ∷ tests) silent (inl e) = true≢false (sym e ∙ silent.0)
silent_any (test ∷ tests) silent (inr a) = silent_any tests silent.1 a

pub none_any : (tests : List (ℕ × Bool)) → (Any (λ (test : ℕ × Bool). test.1 ≡ true) tests → ⊥) → Silent tests
none_any [] refuted = tt
none_any ((number, true) ∷ tests) refuted = absurd (refuted (inl refl))
none_any ((number, false) ∷ tests) refuted = (refl, none_any tests (λ a. refuted (inr a)))

pub first_numbered : (n : ℕ) (tests later : List (ℕ × Bool)) → Numbers (λ number. n ≡ number) tests
    → Any (λ (test : ℕ × Bool). test.1 ≡ true) tests → n ≡ first (tests ++ later)
first_numbered n [] later numbers a = absurd a
first_numbered n ((number, true) ∷ tests) later numbers a = numbers.0
first_numbered n ((number, false) ∷ tests) later numbers a =
    first_numbered n tests later numbers.1 (⊎_elim (λ e. absurd (false≢true e)) (λ b. b) a)

-- What the first of two lists says is said.
pub said_first : (tests later : List (ℕ × Bool)) (n : ℕ) → n ≡ first tests → (n ≡ 0 → ⊥) → n ≡ first (tests ++ later)
said_first [] later n e applies = absurd (applies e)
said_first ((number, true) ∷ tests) later n e applies = e
said_first ((number, false) ∷ tests) later n e applies = said_first tests later n e applies

pub unless_refused : (n : ℕ) (w list : List ℕ) (s : Served) → (n ≡ 0 → ⊥)
    → unless n w list s ≡ served w (outcome (refused n) list [])
unless_refused zero w list s applies = absurd (applies refl)
unless_refused (suc n) w list s applies = refl

-- Likewise by a reason that was found.
pub said_no : (n reason : ℕ) → reason ≡ n → (w list : List ℕ) (s : Served) → (reason ≡ 0 → ⊥)
    → served w (outcome (refused reason) list []) ≡ unless n w list s
said_no n reason found w list s applies =
    ap (λ (m : ℕ). served w (outcome (refused m) list [])) found
    ∙ sym (unless_refused n w list s (λ (e : n ≡ 0). applies (found ∙ e)))

pub unless_accepted : (n : ℕ) (w list : List ℕ) (s : Served) → n ≡ 0 → unless n w list s ≡ s
unless_accepted n w list s e = ap (λ (m : ℕ). unless m w list s) e

-- ---- What each says where it does not apply

module _ (format : Format) (whether_sound : (w : List ℕ) → Dec (Sound format w)) (w : List ℕ) where
  pub found_sound : Sound format w → unsound whether_sound w ≡ false
  found_sound h = ap not ((decide_iff (whether_sound w)).1 h)

  pub is_sound : unsound whether_sound w ≡ false → Sound format w
  is_sound e = (decide_iff (whether_sound w)).0 (not-false _ e)

pub of_length : (w : List ℕ) → BookLong w → wrong_length w ≡ false
of_length w e = ap not (eq-eqb (length w) book_words e)

right_length : (w : List ℕ) → wrong_length w ≡ false → BookLong w
right_length w e = eqb-true (length w) book_words (not-false _ e)

pub none_above : (n : ℕ) (kinds : List ℕ) → some_above n kinds ≡ false → All (λ k. k ≤ n) kinds
none_above n [] e = tt
none_above n (k ∷ kinds) e =
    split (ltb n k) (λ (b : ltb n k ≡ true). absurd (true≢false (rw b at e)))
    (λ (b : ltb n k ≡ false). (ltb-false n k b, none_above n kinds (rw b at e)))

good_kinds : (kinds : List ℕ) → bad_kinds kinds ≡ false → (length kinds ≡ 16) × All (λ k. k ≤ 3) kinds
good_kinds kinds e =
    split (eqb (length kinds) 16)
    (λ (b : eqb (length kinds) 16 ≡ true). (eqb-true (length kinds) 16 b, none_above 3 kinds (rw b at e)))
    (λ (b : eqb (length kinds) 16 ≡ false). absurd (true≢false (rw b at e)))

pub too_many_lem : (operations : List ℕ)
    → (too_many operations ≡ true) ↔ ((64 < length operations) ⊎ (length operations % 4 ≡ 0 → ⊥))
too_many_lem operations =
    let part = eqb (length operations % 4) 0 in
    let tests = either (ltb 64 (length operations)) (not part) in (
      λ e. ⊎_elim (λ many. inl (ltb-true 64 (length operations) many))
          (λ rest. inr (eqb-false (length operations % 4) 0 (not-true part rest))) (tests.0 e),
      λ p. tests.1 (⊎_elim (λ many. inl (lt-ltb 64 (length operations) many))
          (λ rest. inr (ap not (ne_eqb (length operations % 4) 0 rest))) p),
    )

not_too_many : (operations : List ℕ)
    → (too_many operations ≡ false) ↔ ((length operations ≤ 64) × (length operations % 4 ≡ 0))
not_too_many operations =
    let part = eqb (length operations % 4) 0 in
    let tests = or-eq-false-eq-eq-false-and-eq-false (ltb 64 (length operations)) (not part) in (
      λ e. let (few, whole) = tests.0 e in
          (ltb-false 64 (length operations) few, eqb-true (length operations % 4) 0 (not-false part whole)),
      λ p. tests.1 (le-ltb 64 (length operations) p.0, ap not (eq-eqb (length operations % 4) 0 p.1)),
    )

absent_status : (status : Status) → is_live status ≡ false → status ≡ absent
absent_status absent e = refl
absent_status active e = absurd (true≢false e)
absent_status (pseudo_committed rank) e = absurd (true≢false e)

active_status : (status : Status) → not (is_active status) ≡ false → status ≡ active
active_status absent e = absurd (true≢false e)
active_status active e = refl
active_status (pseudo_committed rank) e = absurd (true≢false e)

pub some_kind : (kind : Option Kind) → is_none kind ≡ false → (k : Kind) × (kind ≡ some k)
some_kind none e = absurd (true≢false e)
some_kind (some k) e = (k, refl)

module _ (format : Format) (k v : ℕ) where
  -- The number names the request, which is of the kind.
  abbrev NamesCount : Kind → ℕ → Type 0
  NamesCount kind number =
      (stored format.reduce number k v ≡ some (request format number k v))
      × (kind_of (request format number k v) ≡ kind)

  named_by : (kind : Kind) (number : ℕ) → first_number kind ≤ number → number ≤ last_number kind
      → NamesCount kind number
  named_by Stack number l m =
      let e : 1 + (number - 1) ≡ number = omega arith in
      subst (NamesCount Stack) e (each (λ i. NamesCount Stack (1 + i)) 3
      ((refl, refl), ((refl, refl), ((refl, refl), tt))) (number - 1) (omega arith))
  named_by Set number l m =
      let e : 4 + (number - 4) ≡ number = omega arith in
      subst (NamesCount Set) e (each (λ i. NamesCount Set (4 + i)) 3 ((refl, refl), ((refl, refl), ((refl, refl), tt)))
      (number - 4) (omega arith))
  named_by Table number l m =
      let e : 7 + (number - 7) ≡ number = omega arith in
      subst (NamesCount Table) e
      (each (λ i. NamesCount Table (7 + i)) 5 (
        (refl, refl),
        ((refl, refl), ((refl, refl), ((refl, refl), ((refl, refl), tt)))),
      ) (number - 7) (omega arith))

  named : (kind : Option Kind) (number : ℕ) → not (is_of kind number) ≡ false
      → (stored format.reduce number k v ≡ some (request format number k v))
      × (kind ≡ some (kind_of (request format number k v)))
  named none number e = absurd (true≢false e)
  named (some kind) number e =
      let both = (and-eq-true_iff (leb (first_number kind) number) (leb number (last_number kind))).0 (not-false _ e) in
      let names =
      named_by kind number (leb-true (first_number kind) number both.0)
      (leb-true number (last_number kind) both.1) in
      (names.0, ap (λ (j : Kind). some j) (sym names.1))

has_room : (format : Format) (s : Store) (o : ℕ) (requested : Operation) → no_room format s o requested ≡ false
    → adds requested ≡ true
    → format.used s o < format.limit
has_room format s o requested e adding = leb-false format.limit (format.used s o) (rw adding at e)

-- A request's key is reduced, whatever the number.
pub request_reduced : (number k v : ℕ) → StoredKey reduce_key (request base number k v)
unfolding reduce_key
request_reduced number k v = reduced (stored reduce_key number k v) refl
  where
    reduced : (named : Option Operation) → stored reduce_key number k v ≡ named → StoredKey reduce_key (or_pop named)
    reduced none e = tt
    reduced (some o) e = stored_reduced reduce_key reduced_once refl number k v o e

-- ---- Several operations

module _ (format : Format) (t : ℕ) where
  -- The objects that 8 and 9 speak of stay.
  own_run : (s : Store) (q : LentOperation) (qs : List LentOperation)
      → own_reasons (run format t q s) qs ≡ own_reasons s qs
  own_run s q [] = refl
  own_run s q (x ∷ qs) =
      ap (λ (l : List (ℕ × Bool)). (8, without_kind s x.object) ∷ (9, not_of_kind s x.object x.number) ∷ l)
      (own_run s q qs)

  abbrev pub full : Store → LentOperation → Bool
  full s q = log_full s

  abbrev pub crowded : Store → LentOperation → Bool
  crowded s q = no_room format s q.object (requested format q)

  abbrev pub limiting : Store → List LentOperation → List (ℕ × Bool)
  limiting s qs = limits format 10 full t s qs ++ limits format 11 crowded t s qs

  module _ (s : Store) (q : LentOperation) where
    operation_accepted : without_kind s q.object ≡ false → not_of_kind s q.object q.number ≡ false
        → log_full s ≡ false → crowded s q ≡ false → OperationAccepted format s q
    operation_accepted kinded of_kind_lem entries room =
        let is-named = named format q.key q.value (object_of s q.object).kind q.number of_kind_lem in
        record {
          named = is-named.0;
          kind = is-named.1;
          entries = leb-false 256 (length s.log) entries;
          room = has_room format s q.object (requested format q) room;
        }

  each_accepted : (s : Store) (qs : List LentOperation) → Silent (own_reasons s qs)
      → Silent (limits format 10 full t s qs) → Silent (limits format 11 crowded t s qs) → EachAccepted format t s qs
  each_accepted s [] own full room = tt
  each_accepted s (q ∷ qs) own full room = (
    operation_accepted s q own.0 own.1.0 full.0 room.0,
    each_accepted (run format t q s) qs (subst Silent (sym (own_run s q qs)) own.1.1) full.1 room.1,
  )

-- 8 and 9 of each apply to none exactly where none has one of its own;
pub own_none : (s : Store) (qs : List LentOperation) → Silent (own_reasons s qs) ↔ All (HasNeither s) qs
own_none s [] = (λ a. tt, λ a. tt)
own_none s (q ∷ qs) =
    let rest = own_none s qs in
    (λ a. ((a.0, a.1.0), rest.0 a.1.1), λ a. (a.0.0, (a.0.1, rest.1 a.1)))

-- the first that applies is that of the first that has one.
module _ (s : Store) (n : ℕ) (Such : LentOperation → Type 0) (applies : eqb 0 n ≡ false)
    (own : (q : LentOperation) (later : ℕ)
    → (cond (without_kind s q.object) 8 (cond (not_of_kind s q.object q.number) 9 later) ≡ n)
    ↔ (Such q ⊎ (HasNeither s q × (later ≡ n)))) where
  own_found : (qs : List LentOperation) → first (own_reasons s qs) ≡ n → FirstOwn s Such qs
  own_found [] e = absurd (eqb-false 0 n applies e)
  own_found (q ∷ qs) e =
      ⊎_elim (λ such. (0, omega arith, such, tt))
      (λ p. let (i, within, such, before) = own_found qs p.1 in
      (suc i, omega (arith, within), such, (p.0, before))) ((own q (first (own_reasons s qs))).0 e)

  own_said : (qs : List LentOperation) → FirstOwn s Such qs → first (own_reasons s qs) ≡ n
  own_said [] p = absurd (omega (arith, p.1))
  own_said (q ∷ qs) (zero, within, such, before) = (own q (first (own_reasons s qs))).1 (inl such)
  own_said (q ∷ qs) (suc i, within, such, before) =
      (own q (first (own_reasons s qs))).1 (inr (before.0, own_said qs (i, omega (arith, within), such, before.1)))

  own_exactly : (qs : List LentOperation) → (first (own_reasons s qs) ≡ n) ↔ FirstOwn s Such qs
  own_exactly qs = (own_found qs, own_said qs)

own_8_tested : (none other : Bool) (later : ℕ)
    → (cond none 8 (cond other 9 later) ≡ 8) ↔ ((none ≡ true) ⊎ (((none ≡ false) × (other ≡ false)) × (later ≡ 8)))
own_8_tested true other later = (λ e. inl refl, λ p. refl)
own_8_tested false true later =
    (λ e. absurd (omega (arith, e)), ⊎_elim (λ e. absurd (false≢true e)) (λ p. absurd (true≢false p.0.1)))
own_8_tested false false later = (λ e. inr ((refl, refl), e), ⊎_elim (λ e. absurd (false≢true e)) (λ p. p.1))

own_9_tested : (none other : Bool) (later : ℕ)
    → (cond none 8 (cond other 9 later) ≡ 9)
    ↔ (((none ≡ false) × (other ≡ true)) ⊎ (((none ≡ false) × (other ≡ false)) × (later ≡ 9)))
own_9_tested true other later =
    (λ e. absurd (omega (arith, e)), ⊎_elim (λ p. absurd (true≢false p.0)) (λ p. absurd (true≢false p.0.0)))
own_9_tested false true later = (λ e. inl (refl, refl), λ p. refl)
own_9_tested false false later =
    (λ e. inr ((refl, refl), e), ⊎_elim (λ p. absurd (false≢true p.1)) (λ p. p.1))

module _ (s : Store) where
  pub own_8 : (qs : List LentOperation) → (first (own_reasons s qs) ≡ 8) ↔ FirstOwn s (Has8 s) qs
  own_8 =
      own_exactly s 8 (Has8 s) refl
      (λ q. own_8_tested (without_kind s q.object) (not_of_kind s q.object q.number))

  pub own_9 : (qs : List LentOperation) → (first (own_reasons s qs) ≡ 9) ↔ FirstOwn s (Has9 s) qs
  own_9 =
      own_exactly s 9 (Has9 s) refl
      (λ q. own_9_tested (without_kind s q.object) (not_of_kind s q.object q.number))

-- Their numbers.
pub own_numbers : (P : ℕ → Type 0) → P 8 → P 9 → (s : Store) (qs : List LentOperation) → Numbers P (own_reasons s qs)
own_numbers P p8 p9 s [] = tt
own_numbers P p8 p9 s (q ∷ qs) = (p8, (p9, own_numbers P p8 p9 s qs))

module _ (format : Format) (t : ℕ) where
  pub limit_numbers : (P : ℕ → Type 0) (number : ℕ) → P number → (meets : Store → LentOperation → Bool) (s : Store)
      (qs : List LentOperation) → Numbers P (limits format number meets t s qs)
  limit_numbers P number p meets s [] = tt
  limit_numbers P number p meets s (q ∷ qs) = (p, limit_numbers P number p meets (run format t q s) qs)

  limiting_numbers : (P : ℕ → Type 0) → P 10 → P 11 → (s : Store) (qs : List LentOperation)
      → Numbers P (limiting format t s qs)
  limiting_numbers P p10 p11 s qs =
      all_append _ (limits format 10 (full format t) t s qs) (limits format 11 (crowded format t) t s qs)
      (limit_numbers P 10 p10 (full format t) s qs) (limit_numbers P 11 p11 (crowded format t) s qs)

  pub each_numbers : (P : ℕ → Type 0) → P 8 → P 9 → P 10 → P 11 → (s : Store) (qs : List LentOperation)
      → Numbers P (own_reasons s qs ++ limiting format t s qs)
  each_numbers P p8 p9 p10 p11 s qs =
      all_append _ (own_reasons s qs) (limiting format t s qs) (own_numbers P p8 p9 s qs)
      (limiting_numbers P p10 p11 s qs)

  positive_each : (s : Store) (qs : List LentOperation) → positive (own_reasons s qs ++ limiting format t s qs) ≡ true
  positive_each s qs =
      positive_numbers (own_reasons s qs ++ limiting format t s qs)
      (each_numbers (λ n. ltb 0 n ≡ true) refl refl refl refl s qs)

-- The numbers that an operation of a batch may give.
abbrev pub of_operation : ℕ → Bool
of_operation number = leb 8 number && leb number 11

apart : (number n : ℕ) → of_operation number ≡ false → of_operation n ≡ true → eqb number n ≡ false
apart number n other given = ne_eqb number n (λ e. true≢false (sym given ∙ ap of_operation (sym e) ∙ other))

-- ---- The calls

module _ (format : Format) where
  pub set_up_accepted : (w kinds : List ℕ) → set_up_reason format w kinds ≡ 0 → SetUpAccepted w kinds
  set_up_accepted w kinds e =
      let none = (none_applies ((1, wrong_length w) ∷ (3, bad_kinds kinds) ∷ []) refl).0 e in
      let good = good_kinds kinds none.1.0 in
      record { words = right_length w none.0; sixteen = good.0; known = good.1 }

  module _ (whether_sound : (w : List ℕ) → Dec (Sound format w)) (w : List ℕ) where
    abbrev s : Store
    s = decode format w

    pub begin_accepted : (t : ℕ) → begin_reason format whether_sound w t ≡ 0 → BeginAccepted format w t
    begin_accepted t e =
        let none =
        (none_applies ((1, wrong_length w) ∷ (4, unsound whether_sound w) ∷ (5, above_last t) ∷ (6, already_live s t)
        ∷ [])
        refl).0 e in
        record {
          words = right_length w none.0;
          sound = is_sound format whether_sound w none.1.0;
          below = omega (arith, ltb-false 63 t none.1.1.0);
          new = absent_status (status_of s t) none.1.1.1.0;
        }

    -- 12 is the number exactly where it applies and 1, 4 and 5 do not.
    pub too_many_exactly : (t : ℕ) (operations : List ℕ)
        → (batch_reason format whether_sound w t operations ≡ 12)
        ↔ (Sound format w × (t < transaction_count) × (too_many operations ≡ true))
    too_many_exactly t operations =
        let before : List (ℕ × Bool) = (1, wrong_length w) ∷ (4, unsound whether_sound w) ∷ (5, above_last t) ∷ [] in
        let this : List (ℕ × Bool) = (12, too_many operations) ∷ [] in
        let qs = operations_in operations in
        let behind : List (ℕ × Bool) = (7, not_active s t) ∷ (own_reasons s qs ++ limiting format t s qs) in
        let whole = past_others 12 before (this ++ behind) (refl, (refl, (refl, tt))) in
        let said =
        before_others 12 this behind refl
        (refl, each_numbers format t (λ number. eqb number 12 ≡ false) refl refl refl refl s qs) in
        let applies = numbered_exactly 12 this refl (refl, tt) in (
          λ e. let (silent, later) = whole.0 e in (
            is_sound format whether_sound w silent.1.0,
            omega (arith, ltb-false 63 t silent.1.1.0),
            ⊎_elim (λ many. many) (λ a. absurd a) (applies.0 (said.0 later)),
          ),
          λ p. whole.1 (
            (
              of_length w p.0.packed.words,
              (found_sound format whether_sound w p.0, (le-ltb 63 t (omega (arith, p.1)), tt)),
            ),
            said.1 (applies.1 (inl p.2)),
          ),
        )

    -- Those of a batch that do not speak of its operations one by one.
    abbrev preliminary : ℕ → List ℕ → List (ℕ × Bool)
    preliminary t operations =
        (1, wrong_length w) ∷ (4, unsound whether_sound w) ∷ (5, above_last t) ∷ (12, too_many operations)
        ∷ (7, not_active s t) ∷ []

    premises : (t : ℕ) (operations : List ℕ)
        → Silent (preliminary t operations) ↔ BatchPremises format w t operations
    premises t operations = (
      λ silent. let (few, whole) = (not_too_many operations).0 silent.1.1.1.0 in
          record {
            stands = record {
              sound = is_sound format whether_sound w silent.1.0;
              below = omega (arith, ltb-false 63 t silent.1.1.0);
              active = active_status (status_of s t) silent.1.1.1.1.0;
            };
            few = few;
            whole = whole;
          },
      λ p. (
        of_length w p.stands.sound.packed.words,
        (
          found_sound format whether_sound w p.stands.sound,
          (
            le-ltb 63 t (omega (arith, p.stands.below)),
            (
              (not_too_many operations).1 (p.few, p.whole),
              (ap (λ (x : Status). not (is_active x)) p.stands.active, tt),
            ),
          ),
        ),
      ),
    )

    module _ (t : ℕ) (operations : List ℕ) where
      abbrev qs : List LentOperation
      qs = operations_in operations

      -- A number that an operation may give is that of the operations' first reason.
      pub past_premises : (n : ℕ) → of_operation n ≡ true
          → (batch_reason format whether_sound w t operations ≡ n)
          ↔ (BatchPremises format w t operations × (first (own_reasons s qs ++ limiting format t s qs) ≡ n))
      past_premises n given =
          Iff.trans (past_others n (preliminary t operations) (own_reasons s qs ++ limiting format t s qs) (
            apart 1 n refl given,
            (
              apart 4 n refl given,
              (apart 5 n refl given, (apart 12 n refl given, (apart 7 n refl given, tt))),
            ),
          ))
          (Iff.and (premises t operations) Iff.rfl)

      -- An own reason is the number exactly where the first of them is.
      pub own_reason : (n : ℕ) → of_operation n ≡ true → eqb 10 n ≡ false → eqb 11 n ≡ false
          → (batch_reason format whether_sound w t operations ≡ n)
          ↔ (BatchPremises format w t operations × (first (own_reasons s qs) ≡ n))
      own_reason n given n10 n11 =
          Iff.trans (past_premises n given)
          (Iff.and Iff.rfl (before_others n (own_reasons s qs) (limiting format t s qs) (apart 0 n refl given)
          (limiting_numbers format t (λ number. eqb number n ≡ false) n10 n11 s qs)))

      abbrev log_limits : List (ℕ × Bool)
      log_limits = limits format 10 (full format t) t s qs

      abbrev row_limits : List (ℕ × Bool)
      row_limits = limits format 11 (crowded format t) t s qs

      -- Another number is that of the first limit met.
      past_own : (n : ℕ) → of_operation n ≡ true → eqb 8 n ≡ false → eqb 9 n ≡ false
          → (batch_reason format whether_sound w t operations ≡ n)
          ↔ (BatchPremises format w t operations × (All (HasNeither s) qs × (first (log_limits ++ row_limits) ≡ n)))
      past_own n given n8 n9 =
          Iff.trans (past_premises n given)
          (Iff.and Iff.rfl (Iff.trans (past_others n (own_reasons s qs) (limiting format t s qs)
          (own_numbers (λ number. eqb number n ≡ false) n8 n9 s qs)) (Iff.and (own_none s qs) Iff.rfl)))

      -- The limit on the log is met;
      pub log_reason : (batch_reason format whether_sound w t operations ≡ 10)
          ↔ (BatchPremises format w t operations
          × (All (HasNeither s) qs × Any (λ (reason : ℕ × Bool). reason.1 ≡ true) log_limits))
      log_reason =
          Iff.trans (past_own 10 refl refl refl)
          (Iff.and Iff.rfl (Iff.and Iff.rfl
          (Iff.trans (before_others 10 log_limits row_limits refl
          (limit_numbers format t (λ number. eqb number 10 ≡ false) 11 refl (crowded format t) s qs))
          (numbered_exactly 10 log_limits refl
          (limit_numbers format t (λ number. number ≡ 10) 10 refl (full format t) s qs)))))

      -- that on rows, and not that on the log.
      pub row_reason : (batch_reason format whether_sound w t operations ≡ 11)
          ↔ (BatchPremises format w t operations × (All (HasNeither s) qs
          × ((Any (λ (reason : ℕ × Bool). reason.1 ≡ true) log_limits → ⊥)
          × Any (λ (reason : ℕ × Bool). reason.1 ≡ true) row_limits)))
      row_reason =
          Iff.trans (past_own 11 refl refl refl)
          (Iff.and Iff.rfl (Iff.and Iff.rfl
          (Iff.trans (past_others 11 log_limits row_limits
          (limit_numbers format t (λ number. eqb number 11 ≡ false) 10 refl (full format t) s qs))
          (Iff.and (silent_any log_limits, none_any log_limits) (numbered_exactly 11 row_limits refl
          (limit_numbers format t (λ number. number ≡ 11) 11 refl (crowded format t) s qs))))))

    pub batch_accepted : (t : ℕ) (operations : List ℕ) → batch_reason format whether_sound w t operations ≡ 0
        → BatchAccepted format w t operations
    batch_accepted t operations e =
        let qs = operations_in operations in
        let each = own_reasons s qs ++ limiting format t s qs in
        let (early, late) = all_parts _ (preliminary t operations) each
        ((none_applies (preliminary t operations ++ each) (positive_each format t s qs)).0 e) in
        let p = (premises t operations).0 early in
        let own = all_parts _ (own_reasons s qs) (limiting format t s qs) late in
        let limited = all_parts _ (limits format 10 (full format t) t s qs) _ own.1 in
        record {
          words = right_length w early.0;
          sound = p.stands.sound;
          below = p.stands.below;
          few = p.few;
          whole = p.whole;
          active = p.stands.active;
          each = each_accepted format t s qs own.0 limited.0 limited.1;
        }

    pub operate_accepted : (t o number k v : ℕ) → operate_reason format whether_sound w t o number k v ≡ 0
        → OperateAccepted format w t o number k v
    operate_accepted t o number k v e =
        let a = batch_accepted t (o ∷ number ∷ k ∷ v ∷ []) e in
        record {
          words = a.words;
          sound = a.sound;
          below = a.below;
          active = a.active;
          named = a.each.0.named;
          kind = a.each.0.kind;
          entries = a.each.0.entries;
          room = a.each.0.room;
        }

    pub end_accepted : (t : ℕ) (list : List ℕ) → end_reason format whether_sound w t list ≡ 0
        → EndAccepted format w t list
    end_accepted t list e =
        let none =
        (none_applies (
        (1, wrong_length w) ∷ (2, list_too_short list) ∷ (4, unsound whether_sound w) ∷ (5, above_last t)
        ∷ (7, not_active s t) ∷ []
        ) refl).0 e in
        record {
          words = right_length w none.0;
          fits = ltb-false (length list) 64 none.1.0;
          sound = is_sound format whether_sound w none.1.1.0;
          below = omega (arith, ltb-false 63 t none.1.1.1.0);
          active = active_status (status_of s t) none.1.1.1.1.0;
        }

    pub contents_accepted : (o : ℕ) → contents_reason format whether_sound w o ≡ 0 → ContentsAccepted format w o
    contents_accepted o e =
        let none =
        (none_applies ((1, wrong_length w) ∷ (4, unsound whether_sound w) ∷ (8, without_kind s o) ∷ []) refl).0 e in
        record {
          words = right_length w none.0;
          sound = is_sound format whether_sound w none.1.0;
          kind = some_kind (object_of s o).kind none.1.1.0;
        }

-- ---- Where no reason applies

at_most : (n : ℕ) (kinds : List ℕ) → All (λ k. k ≤ n) kinds → some_above n kinds ≡ false
at_most n [] a = refl
at_most n (k ∷ kinds) a = rw (le-ltb n k a.0) (at_most n kinds a.1)

-- A number that names the request is one of its kind's.
of_its_kind : (format : Format) (number k v : ℕ) → stored format.reduce number k v ≡ some (request format number k v)
    → not (is_of (some (kind_of (request format number k v))) number) ≡ false
of_its_kind format number k v e =
    below number 12
    (each (λ i. stored format.reduce i k v ≡ some (request format i k v)
    → not (is_of (some (kind_of (request format i k v))) i) ≡ false) 12
    ((λ f. absurd (none-ne-some _ f)), search depth 20) number)
    (λ (past : 12 ≤ number) f. absurd (none-ne-some _
    (sym (get_or-eq_default (none ∷ map some (numbered format.reduce k v)) none past) ∙ f))) e

room_left : (format : Format) (s : Store) (o : ℕ) (requested : Operation)
    → (adds requested ≡ true → format.used s o < format.limit)
    → no_room format s o requested ≡ false
room_left format s o requested room =
    split (adds requested) (λ (e : adds requested ≡ true). rw e (lt-leb format.limit (format.used s o) (room e)))
    (λ (e : adds requested ≡ false). rw e refl)

-- Of several operations.
each_silent : (format : Format) (t : ℕ) (s : Store) (qs : List LentOperation) → EachAccepted format t s qs
    → Silent (own_reasons s qs) × Silent (limits format 10 (full format t) t s qs)
    × Silent (limits format 11 (crowded format t) t s qs)
each_silent format t s [] a = (tt, tt, tt)
each_silent format t s (q ∷ qs) (a, later) =
    let (own, entries, room) = each_silent format t (run format t q s) qs later in (
      (
        ap is_none a.kind,
        (
          ap (λ (x : Option Kind). not (is_of x q.number)) a.kind
              ∙ of_its_kind format q.number q.key q.value a.named,
          subst Silent (own_run format t s q qs) own,
        ),
      ),
      (lt-leb 256 (length s.log) a.entries, entries),
      (room_left format s q.object (requested format q) a.room, room),
    )

module _ (format : Format) where
  pub set_up_accepts : (w kinds : List ℕ) → SetUpAccepted w kinds → set_up_reason format w kinds ≡ 0
  set_up_accepts w kinds a =
      (none_applies ((1, wrong_length w) ∷ (3, bad_kinds kinds) ∷ []) refl).1
      (of_length w a.words, (rw (eq-eqb (length kinds) 16 a.sixteen) (at_most 3 kinds a.known), tt))

  module _ (whether_sound : (w : List ℕ) → Dec (Sound format w)) (w : List ℕ) where
    pub begin_accepts : (t : ℕ) → BeginAccepted format w t → begin_reason format whether_sound w t ≡ 0
    begin_accepts t a =
        (none_applies ((1, wrong_length w) ∷ (4, unsound whether_sound w) ∷ (5, above_last t)
        ∷ (6, already_live (decode format w) t) ∷ []) refl).1 (
          of_length w a.words,
          (
            found_sound format whether_sound w a.sound,
            (le-ltb 63 t (omega (arith, a.below)), (ap is_live a.new, tt)),
          ),
        )

    -- Only reasons of the operations can be in the way.
    pub batch_reason_lem : (t : ℕ) (operations : List ℕ) → BatchPremises format w t operations
        → let s = decode format w in
        let qs = operations_in operations in
        batch_reason format whether_sound w t operations ≡ first (own_reasons s qs ++ limiting format t s qs)
    batch_reason_lem t operations p =
        let s = decode format w in
        let qs = operations_in operations in
        first_past (preliminary format whether_sound w t operations) (own_reasons s qs ++ limiting format t s qs)
        ((premises format whether_sound w t operations).1 p)

    pub premises_accept : (t : ℕ) (operations : List ℕ) → BatchPremises format w t operations
        → EachAccepted format t (decode format w) (operations_in operations)
        → batch_reason format whether_sound w t operations ≡ 0
    premises_accept t operations p each =
        let s = decode format w in
        let qs = operations_in operations in
        let (own, entries, room) = each_silent format t s qs each in
        batch_reason_lem t operations p
        ∙ first_silent (own_reasons s qs ++ limiting format t s qs) (all_append _ (own_reasons s qs) _ own
        (all_append _ (limits format 10 (full format t) t s qs) _ entries room))

    pub batch_accepts : (t : ℕ) (operations : List ℕ) → BatchAccepted format w t operations
        → batch_reason format whether_sound w t operations ≡ 0
    batch_accepts t operations a =
        premises_accept t operations
        (record {
          stands = record { sound = a.sound; below = a.below; active = a.active };
          few = a.few;
          whole = a.whole;
        }) a.each

    pub operate_accepts : (t o number k v : ℕ) → OperateAccepted format w t o number k v
        → operate_reason format whether_sound w t o number k v ≡ 0
    operate_accepts t o number k v a =
        batch_accepts t (o ∷ number ∷ k ∷ v ∷ [])
        (record {
          words = a.words;
          sound = a.sound;
          below = a.below;
          few = omega arith;
          whole = refl;
          active = a.active;
          each = (record { named = a.named; kind = a.kind; entries = a.entries; room = a.room }, tt);
        })

    pub end_accepts : (t : ℕ) (list : List ℕ) → EndAccepted format w t list → end_reason format whether_sound w t list
        ≡ 0
    end_accepts t list a =
        (none_applies (
        (1, wrong_length w) ∷ (2, list_too_short list) ∷ (4, unsound whether_sound w) ∷ (5, above_last t)
        ∷ (7, not_active (decode format w) t) ∷ []
        ) refl).1 (
          of_length w a.words,
          (
            le-ltb (length list) 64 a.fits,
            (
              found_sound format whether_sound w a.sound,
              (
                le-ltb 63 t (omega (arith, a.below)),
                (ap (λ (x : Status). not (is_active x)) a.active, tt),
              ),
            ),
          ),
        )

    pub contents_accepts : (o : ℕ) → ContentsAccepted format w o → contents_reason format whether_sound w o ≡ 0
    contents_accepts o a =
        (none_applies ((1, wrong_length w) ∷ (4, unsound whether_sound w) ∷ (8, without_kind (decode format w) o) ∷ [])
        refl).1
        (of_length w a.words, (found_sound format whether_sound w a.sound, (ap is_none a.kind.1, tt)))
