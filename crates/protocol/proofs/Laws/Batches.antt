-- Several operations of a transaction, run in order: whom they wait for, what they log, and that they keep a store
-- sound.
use Rattle.std.specs.Prelude.{ℕ, zero, suc, ◌+◌, ◌≤◌, ◌<◌, ◌≡◌, refl, Bool, true, false, ◌↔◌, ◌⊎◌, List, [], ◌∷◌, ◌++◌}
use Rattle.std.specs.Prelude.{length, get_or, take}
use Rattle.std.proofs.Common.{sym, ap, ap₂, ◌∙◌, subst, true≢false, inl, inr, ⊎_elim, append-nil, arith, leb-true}
use Rattle.std.proofs.Common.{leb-false, length-append}
use Rattle.std.proofs.Math.Seq.{append_snoc}
use Rattle.operations.specs.Operations.{Operation, Answer, All, answer, next, reduce_key, answering}
use Rattle.operations.specs.Log.{Entry, after}
use Rattle.operations.proofs.Laws.Cases.{split}
use Rattle.bitset.specs.Bitset.{Holds, union}
use Rattle.bitset.specs.Laws.{holds_none, holds_join, holds_same, holds_empty, joined}
use Rattle.store.specs.Store.{Logged, Store, Active, on_object, object_of}
use Rattle.store.specs.Dependency.{Any, DependsOn}
use Rattle.store.specs.Layout.{decode, encode, Representable, base}
use Rattle.store.specs.Soundness.{SoundStore, Sound}
use Rattle.store.proofs.Decisions.{whether_sound}
use Rattle.store.specs.Steps.{with_log}
use Rattle.store.proofs.Theorems.{representable, decoded}
use Rattle.store.proofs.Laws.Any.{any_some, any_append}
use Rattle.store.proofs.Laws.Changes.{representable_appended}
use Rattle.protocol.specs.Replies.{answered, Served}
use Rattle.protocol.specs.Calls.{LentOperation, lent_operation, operations_in, owners, answer_to, requested, run}
use Rattle.protocol.specs.Calls.{run_all, answers_to, awaited, log_full, limits, respond, batch_reason, batch}
use Rattle.protocol.specs.Call.{answered_operations}
use Rattle.protocol.specs.Terms.{OperationAccepted, EachAccepted, Owner, Passes}
use Rattle.protocol.proofs.Laws.Waiting as waiting
use Rattle.protocol.proofs.Laws.Waiting.{owned, own_last, none_owned}
use Rattle.protocol.proofs.Laws.Reasons.{request_reduced, batch_accepted}
use Rattle.protocol.proofs.Laws.Keeping.{on_last, entered_sound}
use Rattle.protocol.proofs.Laws.Protocol.{Behind, ordered_last, answered_none, batch_responded}
use mathlib.Core.Logic.Iff

module _ (t : ℕ) where
  -- Whom one of them waits for.
  abbrev pub barring : Store → LentOperation → ℕ
  barring s q = owners t (requested base q) (on_object q.object s.log)

  -- The joined set's members are the owners that some of them waits for.
  pub awaits_each : (s : Store) (qs : List LentOperation)
      → Holds (awaited base t s qs)
      (λ u. Any (λ (q : LentOperation). Owner t (requested base q) (on_object q.object s.log) u) qs)
  awaits_each s [] = holds_none _ (λ u p. p)
  awaits_each s (q ∷ qs) =
      let OfFirst : ℕ → Type 0 = Owner t (requested base q) (on_object q.object s.log) in
      let OfRest : ℕ → Type 0 =
      λ u. Any (λ (x : LentOperation). Owner t (requested base x) (on_object x.object s.log) u) qs in
      holds_same (λ u. OfRest u ⊎ OfFirst u) (λ u. OfFirst u ⊎ OfRest u) (awaited base t s (q ∷ qs))
      (holds_join OfRest OfFirst (awaited base t s qs) (barring s q) (awaited base t s (q ∷ qs)) (awaits_each s qs)
      (owned t (requested base q) (on_object q.object s.log)) (joined (awaited base t s qs) (barring s q)))
      (λ u. (⊎_elim inr inl, ⊎_elim inr inl))

  pub owner_below : (w : List ℕ) → Sound base w → (qs : List LentOperation) (u : ℕ)
      → Any (λ (q : LentOperation). Owner t (requested base q) (on_object q.object (decode base w).log) u) qs
      → u < 64
  owner_below w sound qs u p =
      let (q, owner) = any_some _ qs p in
      waiting.owner_below t (requested base q) q.object w sound u owner

  -- Those before it in the batch make it wait for nobody.
  barring_run : (s : Store) (q x : LentOperation) → barring (run base t q s) x ≡ barring s x
  barring_run s q x =
      on_last (λ (l : List (Entry Operation Answer)). owners t (requested base x) l ≡ barring s x) x.object s.log
      (record {
        object = q.object;
        entry = record {
          transaction = t;
          operation = requested base q;
          answer = answer_to (requested base q) s q.object;
        };
      })
      (λ e. own_last t (requested base x) (on_object x.object s.log) _ refl) refl

  pub awaited_run : (s : Store) (q : LentOperation) (qs : List LentOperation)
      → awaited base t (run base t q s) qs ≡ awaited base t s qs
  awaited_run s q [] = refl
  awaited_run s q (x ∷ qs) = ap₂ union (awaited_run s q qs) (barring_run s q x)

  -- Nobody is waited for exactly where nobody is for the first, and nobody for the others.
  pub free_first : (s : Store) (q : LentOperation) (qs : List LentOperation)
      → (awaited base t s (q ∷ qs) ≡ 0) ↔ ((barring s q ≡ 0) × (awaited base t s qs ≡ 0))
  free_first s q qs =
      let whole = holds_empty _ (awaited base t s (q ∷ qs)) (awaits_each s (q ∷ qs)) in
      let first = holds_empty _ (barring s q) (owned t (requested base q) (on_object q.object s.log)) in
      let rest = holds_empty _ (awaited base t s qs) (awaits_each s qs) in (
        λ e. (first.1 (λ u p. whole.0 e u (inl p)), rest.1 (λ u p. whole.0 e u (inr p))),
        λ e. whole.1 (λ u. ⊎_elim (first.0 e.0 u) (rest.0 e.1 u)),
      )

  -- That is where each is recoverable against every entry of another on its object.
  pub free_each : (s : Store) (qs : List LentOperation)
      → (awaited base t s qs ≡ 0)
      ↔ All (λ (q : LentOperation). All (Passes t (requested base q)) (on_object q.object s.log)) qs
  free_each s [] = (λ e. tt, λ a. refl)
  free_each s (q ∷ qs) =
      Iff.trans (free_first s q qs)
      (Iff.and (none_owned t (requested base q) (on_object q.object s.log)) (free_each s qs))

  -- ---- Kept

  abbrev pub Kept : Store → Type 0
  Kept s = SoundStore base s × Representable base s

  pub run_kept : (s : Store) (q : LentOperation) → Kept s → Active s t → OperationAccepted base s q → barring s q ≡ 0
      → Kept (run base t q s)
  run_kept s q (sound, fits) is_active_lem a free = (
    entered_sound s t q.object (requested base q) sound is_active_lem a.kind
        (request_reduced q.number q.key q.value) a.room free,
    representable_appended s fits _ a.entries,
  )

  pub run_all_kept : (s : Store) (qs : List LentOperation) → Kept s → Active s t → EachAccepted base t s qs
      → awaited base t s qs ≡ 0 → Kept (run_all base t qs s)
  run_all_kept s [] kept is_active_lem each free = kept
  run_all_kept s (q ∷ qs) kept is_active_lem (a, later) free =
      let (first, rest) = (free_first s q qs).0 free in
      run_all_kept (run base t q s) qs (run_kept s q kept is_active_lem a first) is_active_lem later (awaited_run s q qs
      ∙ rest)

  -- ---- What they log

  -- Their entries, with the answers that replay gives.
  abbrev pub entries : Store → List LentOperation → List Logged
  entries s qs = answered_operations reduce_key t qs (answers_to base t qs s)

  -- They leave the log as it was, and their entries behind it, in order; objects and statuses stay.
  pub run_all_log : (s : Store) (qs : List LentOperation) → run_all base t qs s ≡ with_log (s.log ++ entries s qs) s
  run_all_log s [] = ap (λ (log : List Logged). with_log log s) (sym (append-nil s.log))
  run_all_log s (q ∷ qs) =
      run_all_log (run base t q s) qs
      ∙ ap (λ (log : List Logged). with_log log s) (append_snoc s.log _ (entries (run base t q s) qs))

  -- So many entries more.
  run_counted : (s : Store) (q : LentOperation) → length (run base t q s).log ≡ length s.log + 1
  run_counted s q = length-append s.log _

  pub run_all_counted : (s : Store) (qs : List LentOperation)
      → length (run_all base t qs s).log ≡ length s.log + length qs
  run_all_counted s [] = omega arith
  run_all_counted s (q ∷ qs) = omega (arith, run_all_counted (run base t q s) qs, run_counted s q)

  -- They order their transaction behind the owners of entries that one of them, on the same object, does not commute
  -- with, and no other behind anyone: their own entries never count.
  module _ (x b : ℕ) where
    abbrev pub BehindSome : List Logged → List LentOperation → Type 0
    BehindSome log qs = Any (λ (q : LentOperation). Any (Behind q.object (requested base q) b) log) qs

    not_behind_own : (log : List Logged) (last : Logged) → (last.entry.transaction ≡ b → ⊥)
        → (qs : List LentOperation) → BehindSome (log ++ (last ∷ [])) qs ↔ BehindSome log qs
    not_behind_own log last own [] = Iff.rfl
    not_behind_own log last own (q ∷ qs) =
        let here = any_append (Behind q.object (requested base q) b) log (last ∷ []) in
        let rest = not_behind_own log last own qs in (
          ⊎_elim (λ p. inl (⊎_elim (λ h. h) (⊎_elim (λ h. absurd (own h.0)) (λ h. absurd h)) (here.0 p)))
              (λ p. inr (rest.0 p)),
          ⊎_elim (λ p. inl (here.1 (inl p))) (λ p. inr (rest.1 p)),
        )

    run_all_ordered : (s : Store) (qs : List LentOperation)
        → DependsOn (run_all base t qs s).log x b
        ↔ (DependsOn s.log x b ⊎ ((x ≡ t) × (x ≡ b → ⊥) × BehindSome s.log qs))
    run_all_ordered s [] = (inl, ⊎_elim (λ d. d) (λ p. absurd p.2))
    run_all_ordered s (q ∷ qs) =
        let later = run_all_ordered (run base t q s) qs in
        let first = ordered_last x b _ s.log in
        let others : (x ≡ t) → (x ≡ b → ⊥) → BehindSome (run base t q s).log qs ↔ BehindSome s.log qs =
        λ own other. not_behind_own s.log _ (λ e. other (own ∙ e)) qs in (
          λ d. ⊎_elim (λ h. ⊎_elim inl (λ p. inr (p.0, p.1, inl p.2)) (first.0 h))
              (λ p. inr (p.0, p.1, inr ((others p.0 p.1).0 p.2))) (later.0 d),
          ⊎_elim (λ d. later.1 (inl (first.1 (inl d)))) (λ p. later.1
              (⊎_elim (λ h. inl (first.1 (inr (p.0, p.1, h))))
              (λ h. inr (p.0, p.1, (others p.0 p.1).1 h)) p.2)),
        )

  -- The log has no room for one of them exactly where it has none for them together.
  pub log_limit : (s : Store) (qs : List LentOperation) → length s.log ≤ 256
      → Any (λ (reason : ℕ × Bool). reason.1 ≡ true) (limits base 10 (λ s q. log_full s) t s qs)
      ↔ (256 < length s.log + length qs)
  log_limit s [] few = (λ a. absurd a, λ over. absurd (omega arith))
  log_limit s (q ∷ qs) few =
      split (log_full s)
      (λ (full : log_full s ≡ true). let over = leb-true 256 (length s.log) full in (λ a. omega arith, λ l. inl full))
      (λ (room : log_full s ≡ false).
      let under = leb-false 256 (length s.log) room in
      let more = run_counted s q in
      let rest = log_limit (run base t q s) qs (omega (arith, more, under)) in (
        ⊎_elim (λ full. absurd (true≢false (sym full ∙ room))) (λ a. omega (arith, rest.0 a, more)),
        λ over. inr (rest.1 (omega (arith, over, more))),
      ))

  pub log_limit_sound : (w : List ℕ) (qs : List LentOperation) → Sound base w
      → Any (λ (reason : ℕ × Bool). reason.1 ≡ true) (limits base 10 (λ s q. log_full s) t (decode base w) qs)
      ↔ (256 < length (decode base w).log + length qs)
  log_limit_sound w qs sound = log_limit (decode base w) qs (representable w sound.packed).entries

  -- One answer for each.
  pub answers_counted : (s : Store) (qs : List LentOperation) → length (answers_to base t qs s) ≡ length qs
  answers_counted s [] = refl
  answers_counted s (q ∷ qs) = ap suc (answers_counted (run base t q s) qs)

  -- The answer that replay gives after the log's entries on its object.
  abbrev seeing : Store → LentOperation → List Logged → Answer
  seeing s q log = answer (requested base q) (after next (on_object q.object log) (object_of s q.object).rows)

  -- Each sees those before it.
  pub answer_at : (s : Store) (qs : List LentOperation) (i : ℕ) → i < length qs
      → let q = get_or qs i (lent_operation 0 0 0 0) in
      get_or (answers_to base t qs s) i (answering 0 0) ≡ seeing s q (s.log ++ take i (entries s qs))
  answer_at s [] i below = absurd (omega arith)
  answer_at s (q ∷ qs) zero below = ap (seeing s q) (sym (append-nil s.log))
  answer_at s (q ∷ qs) (suc i) below =
      answer_at (run base t q s) qs i (omega arith)
      ∙ ap (seeing s (get_or qs i (lent_operation 0 0 0 0))) (append_snoc s.log _ _)

-- ---- An accepted batch that is answered

module _ (w : List ℕ) (t : ℕ) (operations : List ℕ) (accepted : batch_reason base whether_sound w t operations ≡ 0)
    (given : List Answer) (said : (batch base whether_sound w t operations).outcome.reply ≡ answered given) where
  abbrev s : Store
  s = decode base w

  abbrev qs : List LentOperation
  qs = operations_in operations

  pub free : awaited base t s qs ≡ 0
  free =
      (answered_none w t qs (awaited base t s qs)).0
      (given, ap (λ (r : Served). r.outcome.reply) (sym (batch_responded w t operations accepted)) ∙ said)

  carried_through_lem : batch base whether_sound w t operations ≡ respond base w t qs 0
  carried_through_lem = batch_responded w t operations accepted ∙ ap (respond base w t qs) free

  pub replayed : given ≡ answers_to base t qs s
  replayed =
      let e : answered (answers_to base t qs s) ≡ answered given =
      ap (λ (r : Served). r.outcome.reply) (sym carried_through_lem) ∙ said in
      cc

  -- The book holds what they leave.
  pub written : (batch base whether_sound w t operations).book ≡ encode base (run_all base t qs s)
  written = ap (λ (r : Served). r.book) carried_through_lem

  pub left : decode base (batch base whether_sound w t operations).book ≡ run_all base t qs s
  left =
      let a = batch_accepted base whether_sound w t operations accepted in
      let kept = run_all_kept t s qs (a.sound.store, representable w a.sound.packed) a.active a.each free in
      ap (decode base) written ∙ decoded (run_all base t qs s) kept.1

  pub logged : decode base (batch base whether_sound w t operations).book
      ≡ with_log (s.log ++ answered_operations reduce_key t qs given) s
  logged =
      left ∙ run_all_log t s qs
      ∙ ap (λ (answers : List Answer). with_log (s.log ++ answered_operations reduce_key t qs answers) s) (sym replayed)

  pub ordered : (x b : ℕ)
      → DependsOn (decode base (batch base whether_sound w t operations).book).log x b
      ↔ (DependsOn s.log x b ⊎ ((x ≡ t) × (x ≡ b → ⊥) × BehindSome t x b s.log qs))
  ordered x b =
      subst (λ (r : Store). DependsOn r.log x b
      ↔ (DependsOn s.log x b ⊎ ((x ≡ t) × (x ≡ b → ⊥) × BehindSome t x b s.log qs))) (sym left)
      (run_all_ordered t x b s qs)
