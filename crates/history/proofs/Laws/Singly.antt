-- A batch's operations, each asked for by a call of its own.
use Rattle.std.specs.Prelude.{ℕ, ◌≡◌, refl, true, false, ◌↔◌, ◌⊎◌, List, [], ◌∷◌, ◌++◌, map, eqb}
use Rattle.std.proofs.Common.{sym, ap, ap₂, ◌∙◌, subst, inl, inr, ⊎_elim, append-nil, arith}
use Rattle.std.proofs.lemmas.Bool.{eqb-false}
use Rattle.std.proofs.Math.Seq.{append_snoc}
use Rattle.operations.specs.Operations.{Answer, reduce_key}
use Rattle.operations.proofs.Laws.Cases.{same}
use Rattle.store.specs.Store.{Logged, Store, Active}
use Rattle.store.specs.Layout.{decode, encode, base}
use Rattle.store.specs.Soundness.{Sound}
use Rattle.store.proofs.Decisions.{whether_sound}
use Rattle.store.proofs.Theorems.{encoded}
use Rattle.store.proofs.Laws.Reading.{live_below}
use Rattle.store.proofs.Laws.Statuses.{active_live}
use Rattle.protocol.specs.Replies.{Reply, answered, wait, refused, Served}
use Rattle.protocol.specs.Calls.{LentOperation, operations_in, own_reasons, first, answer_to, requested, run, run_all}
use Rattle.protocol.specs.Calls.{answers_to, awaited, respond}
use Rattle.protocol.specs.Call.{Call, operate, batch, answered_operations, desk, reason_of}
use Rattle.protocol.specs.Terms.{OperationAccepted, EachAccepted, Standing, BatchAccepted}
use Rattle.protocol.proofs.Theorems.{refused_exactly, sound_kept}
use Rattle.protocol.proofs.Laws.Reasons.{first_such, limiting, each_numbers, of_operation, past_premises}
use Rattle.protocol.proofs.Laws.Reasons.{batch_reason_lem, premises_accept, batch_accepted, operate_accepts}
use Rattle.protocol.proofs.Laws.Batches as batches
use Rattle.protocol.proofs.Laws.Batches.{barring, awaited_run, free_first}
use Rattle.protocol.proofs.Laws.Leaving.{refused_as, no_reason}
use Rattle.protocol.proofs.Laws.Protocol as protocol
use Rattle.protocol.proofs.Laws.Protocol.{clash}
use Rattle.history.specs.History.{trace, book_after, History, put_last, noted, noted_all, singly, replies_of}
use Rattle.history.specs.History.{Waits, OperationRefused, ComesTo}

pub put_none : (h : History) → put_last [] h ≡ h
put_none h =
    ap (λ (l : List Logged). record { committed = h.committed; live = h.live; answered = l })
    (append-nil h.answered)

module _ (t : ℕ) where
  abbrev single : LentOperation → Call
  single q = operate t q.object q.number q.key q.value

  abbrev replies : List LentOperation → List ℕ → List Reply
  replies qs w = replies_of (trace desk (singly t qs) w)

  -- ---- One of them

  module _ (w : List ℕ) (stands : Standing base w t) (q : LentOperation) where
    abbrev s : Store
    s = decode base w

    module _ (a : OperationAccepted base s q) where
      accepted : reason_of (single q) w ≡ 0
      accepted =
          operate_accepts base whether_sound w t q.object q.number q.key q.value
          (record {
            words = stands.sound.packed.words;
            sound = stands.sound;
            below = stands.below;
            active = stands.active;
            named = a.named;
            kind = a.kind;
            entries = a.entries;
            room = a.room;
          })

      responds : desk (single q) w ≡ respond base w t (q ∷ []) (barring t s q)
      responds = protocol.responded w t q.object q.number q.key q.value accepted

      waits : (barring t s q ≡ 0 → ⊥) → Waits (desk (single q) w).outcome.reply
      waits some =
          let (set, count, said) = protocol.told_to_wait w t (q ∷ []) (barring t s q) some in
          (set, count, ap (λ (r : Served). r.outcome.reply) responds ∙ said)

      module _ (free : barring t s q ≡ 0) where
        answers : (desk (single q) w).outcome.reply ≡ answered (answer_to (requested base q) s q.object ∷ [])
        answers = ap (λ (r : Served). r.outcome.reply) (responds ∙ ap (respond base w t (q ∷ [])) free)

        leaves : decode base (desk (single q) w).book ≡ run base t q s
        leaves = protocol.entered_last w t q.object q.number q.key q.value accepted _ answers

        stands_still : Standing base (desk (single q) w).book t
        stands_still =
            record {
              sound = sound_kept (single q) w stands.sound;
              below = stands.below;
              active = subst (λ (x : Store). Active x t) (sym leaves) stands.active;
            }

  -- ---- All of them

  all_answered : (qs : List LentOperation) (w : List ℕ) → Standing base w t → EachAccepted base t (decode base w) qs
      → awaited base t (decode base w) qs ≡ 0
      → (replies qs w ≡ map (λ (a : Answer). answered (a ∷ [])) (answers_to base t qs (decode base w)))
      × (book_after desk (singly t qs) w ≡ encode base (run_all base t qs (decode base w)))
  all_answered [] w stands each free = (refl, sym (encoded w stands.sound.packed))
  all_answered (q ∷ qs) w stands (a, later) free =
      let s = decode base w in
      let (first, rest) = (free_first t s q qs).0 free in
      let left = leaves w stands q a first in
      let (said, book) =
      all_answered qs (desk (single q) w).book (stands_still w stands q a first)
      (subst (λ (x : Store). EachAccepted base t x qs) (sym left) later)
      (ap (λ (x : Store). awaited base t x qs) left ∙ awaited_run t s q qs ∙ rest) in (
        ap₂ ◌∷◌ (answers w stands q a first)
            (said ∙ ap (λ (x : Store). map (λ (a : Answer). answered (a ∷ [])) (answers_to base t qs x)) left),
        book ∙ ap (λ (x : Store). encode base (run_all base t qs x)) left,
      )

  -- The history notes of their answers, one by one, what it notes of them together.
  noted_singly : (qs : List LentOperation) (w : List ℕ) (given : List Answer)
      → replies qs w ≡ map (λ (a : Answer). answered (a ∷ [])) given → (h : History)
      → put_last (answered_operations reduce_key t qs given) h ≡ noted_all reduce_key (trace desk (singly t qs) w) h
  noted_singly [] w given e h = put_none h
  noted_singly (q ∷ qs) w [] e h = clash cc
  noted_singly (q ∷ qs) w (a ∷ given) e h =
      let r = desk (single q) w in
      let said : r.outcome.reply ≡ answered (a ∷ []) = cc in
      let later : replies qs r.book ≡ map (λ (a : Answer). answered (a ∷ [])) given = cc in
      let first : History = put_last (answered_operations reduce_key t (q ∷ []) (a ∷ [])) h in
      let together : put_last (answered_operations reduce_key t (q ∷ qs) (a ∷ given)) h
      ≡ put_last (answered_operations reduce_key t qs given) first =
      ap (λ (l : List Logged). record { committed = h.committed; live = h.live; answered = l })
      (sym (append_snoc h.answered _ (answered_operations reduce_key t qs given))) in
      together ∙ noted_singly qs r.book given later first
      ∙ ap (λ (x : Reply). noted_all reduce_key (trace desk (singly t qs) r.book)
      (noted reduce_key (single q) x r.outcome.list h)) (sym said)

  -- Where a reason applies to one of them or somebody is waited for, they come to a wait or, in the first case, to a
  -- refusal.
  module _ (Such : Reply → Type 0) (waiting : (set count : ℕ) → Such (wait set count)) where
    record Halts (s : Store) (qs : List LentOperation) : Type 0 where
      refuses : (EachAccepted base t s qs → ⊥)
          → Such (refused 8) × Such (refused 9) × Such (refused 10) × Such (refused 11)
      halts : awaited base t s qs ≡ 0 → EachAccepted base t s qs → ⊥

    -- The first is answered, so it is not what they come to.
    halts_later : (s : Store) (q : LentOperation) (qs : List LentOperation) → Halts s (q ∷ qs)
        → OperationAccepted base s q → barring t s q ≡ 0 → Halts (run base t q s) qs
    halts_later s q qs h a free =
        record {
          refuses = λ some. h.refuses (λ each. some each.1);
          halts = λ none each. h.halts ((free_first t s q qs).1 (free, sym (awaited_run t s q qs) ∙ none)) (a, each);
        }

    comes_to : (qs : List LentOperation) (w : List ℕ) → Standing base w t → Halts (decode base w) qs
        → ComesTo Such (replies qs w)
    comes_to [] w stands h = h.halts refl tt
    comes_to (q ∷ qs) w stands h =
        let s = decode base w in
        let words = q.object ∷ q.number ∷ q.key ∷ q.value ∷ [] in
        let call = single q in
        same (reason_of call w) 0
        (λ (none : reason_of call w ≡ 0).
        let a = (batch_accepted base whether_sound w t words none).each.0 in
        same (barring t s q) 0
        (λ (free : barring t s q ≡ 0).
        inr (
          (_, answers w stands q a free),
          comes_to qs (desk call w).book (stands_still w stands q a free)
              (subst (λ (x : Store). Halts x qs) (sym (leaves w stands q a free)) (halts_later s q qs h a free)),
        ))
        (λ (some : barring t s q ≡ 0 → ⊥).
        let (set, count, said) = waits w stands q a some in inl (subst Such (sym said) (waiting set count))))
        (λ (applies : reason_of call w ≡ 0 → ⊥).
        let (p8, p9, p10, p11) = h.refuses (λ each. applies (accepted w stands q each.0)) in
        let reason = batch_reason_lem base whether_sound w t words
        (record { stands = stands; few = omega arith; whole = refl }) in
        let tests = own_reasons s (q ∷ []) ++ limiting base t s (q ∷ []) in
        let such : Such (refused (first tests)) =
        first_such (λ n. Such (refused n)) tests
        (each_numbers base t (λ n. Such (refused n)) p8 p9 p10 p11 s (q ∷ [])) (λ z. applies (reason ∙ z)) in
        inl (subst Such (ap refused (sym reason) ∙ sym ((refused_exactly call w (reason_of call w)).1 (refl, applies)))
        such))

-- ---- A batch

module _ (w : List ℕ) (t : ℕ) (operations : List ℕ) where
  abbrev qs : List LentOperation
  qs = operations_in operations

  abbrev batched : Served
  batched = desk (batch t operations) w

  batch_stands : BatchAccepted base w t operations → Standing base w t
  batch_stands a = record { sound = a.sound; below = a.below; active = a.active }

  -- One that is not refused is accepted.
  module _ (serves : (n : ℕ) → batched.outcome.reply ≡ refused n → ⊥) where
    no_reason_applies : reason_of (batch t operations) w ≡ 0
    no_reason_applies = no_reason (batch t operations) w serves

    is_accepted : BatchAccepted base w t operations
    is_accepted = batch_accepted base whether_sound w t operations no_reason_applies

  pub answered_singly : (given : List Answer) → batched.outcome.reply ≡ answered given
      → (replies t qs w ≡ map (λ (a : Answer). answered (a ∷ [])) given)
      × (book_after desk (singly t qs) w ≡ batched.book)
  answered_singly given said =
      let serves : (n : ℕ) → batched.outcome.reply ≡ refused n → ⊥ = λ n e. clash cc in
      let accepted = no_reason_applies serves in
      let a = is_accepted serves in
      let (singles, book) =
      all_answered t qs w (batch_stands a) a.each (batches.free w t operations accepted given said) in (
        singles ∙ ap (map (λ (a : Answer). answered (a ∷ [])))
            (sym (batches.replayed w t operations accepted given said)),
        book ∙ sym (batches.written w t operations accepted given said),
      )

  pub shown_singly : (given : List Answer) → batched.outcome.reply ≡ answered given → (h : History)
      → put_last (answered_operations reduce_key t qs given) h ≡ noted_all reduce_key (trace desk (singly t qs) w) h
  shown_singly given said = noted_singly t qs w given (answered_singly given said).0

  pub waits_singly : (set count : ℕ) → batched.outcome.reply ≡ wait set count
      → ComesTo Waits (replies t qs w)
  waits_singly set count said =
      let serves : (n : ℕ) → batched.outcome.reply ≡ refused n → ⊥ = λ n e. clash cc in
      let a = is_accepted serves in
      let waited = (protocol.waits_some w t qs set count (awaited base t (decode base w) qs)).0
      (ap (λ (r : Served). r.outcome.reply) (sym (protocol.batch_responded w t operations (no_reason_applies serves)))
      ∙ said) in
      comes_to t _ (λ x n. (x, n, refl)) qs w (batch_stands a)
      (record {
        refuses = λ some. absurd (some a.each);
        halts = λ none each. waited.1 (waited.0 ∙ none);
      })

  refused_so : (n : ℕ) → of_operation n ≡ true → eqb n 0 ≡ false
      → batched.outcome.reply ≡ refused n
      → Standing base w t × (EachAccepted base t (decode base w) qs → ⊥)
  refused_so n given positive said =
      let reason = (refused_as (batch t operations) w n positive).0 said in
      let p = ((past_premises base whether_sound w t operations n given).0 reason).0 in (
        p.stands,
        λ each. eqb-false n 0 positive (sym reason ∙ premises_accept base whether_sound w t operations p each),
      )

  pub refused_singly : OperationRefused batched.outcome.reply
      → ComesTo (λ (r : Reply). Waits r ⊎ OperationRefused r) (replies t qs w)
  refused_singly said =
      let (stands, some) =
      ⊎_elim (refused_so 8 refl refl)
      (⊎_elim (refused_so 9 refl refl) (⊎_elim (refused_so 10 refl refl) (refused_so 11 refl refl))) said in
      comes_to t _ (λ x n. inl (x, n, refl)) qs w stands
      (record {
        refuses = λ each. (
          inr (inl refl),
          inr (inr (inl refl)),
          inr (inr (inr (inl refl))),
          inr (inr (inr (inr refl))),
        );
        halts = λ none. some;
      })

-- ---- An empty batch

module _ (w : List ℕ) (t : ℕ) where
  abbrev empty : Served
  empty = desk (batch t []) w

  pub empty_exactly : (empty.outcome.reply ≡ answered []) ↔ (Sound base w × Active (decode base w) t)
  empty_exactly = (
    λ said. let a = is_accepted w t [] (λ n e. clash cc) in (a.sound, a.active),
    λ p. let stands : Standing base w t = record {
      sound = p.0;
      below = live_below base w t (active_live (decode base w) t p.1);
      active = p.1;
    } in
        ap (λ (r : Served). r.outcome.reply)
        (protocol.batch_responded w t []
        (premises_accept base whether_sound w t [] (record { stands = stands; few = omega arith; whole = refl }) tt)),
  )

  pub empty_leaves : empty.outcome.reply ≡ answered [] → empty.book ≡ w
  empty_leaves said =
      let serves : (n : ℕ) → empty.outcome.reply ≡ refused n → ⊥ = λ n e. clash cc in
      ap (λ (r : Served). r.book) (protocol.batch_responded w t [] (no_reason_applies w t [] serves))
      ∙ encoded w (is_accepted w t [] serves).sound.packed
