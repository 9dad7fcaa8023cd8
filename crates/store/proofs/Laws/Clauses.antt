-- Decisions of the clauses of soundness: of a store, and of the words that it is read from.
use Rattle.std.specs.Prelude.{ℕ, ◌≤◌, ◌<◌, ◌+◌, ◌*◌, ◌≡◌, refl, true, List, [], ◌∷◌, length}
use Rattle.std.proofs.Common.{ap, arith}
use Rattle.std.proofs.Math.Bool.{Bool-discrete}
use Rattle.std.proofs.Math.Option.{Option, none, some, none-ne-some, some-injective}
use Rattle.std.proofs.Math.Decide.{ℕ_discrete, dec_le, dec_lt}
use Rattle.std.proofs.Math.ListN.{get_or-eq_default}
use Rattle.operations.specs.Operations.{Kind, Stack, Set, Table, Row, Answer, answering, Operation, on_stack, on_set}
use Rattle.operations.specs.Operations.{on_table, kind_of, Ascending, WellFormed, number_of, key_of, value_of}
use Rattle.operations.specs.Operations.{StoredKey}
use Rattle.operations.specs.Log.{Entry, Recoverable, Answered}
use Rattle.operations.proofs.Laws.ObjectTypes.{ObjectType}
use Rattle.operations.proofs.Laws.Objects.{object}
use Rattle.store.specs.Layout.{book_words}
use Rattle.store.specs.Store.{Status, absent, pseudo_committed, Logged, Store, status_of, object_of, Live}
use Rattle.store.specs.Store.{PseudoCommitted, on_object}
use Rattle.store.specs.Dependency.{DependsOn, OnCycle}
use Rattle.store.specs.Layout.{Format, word, status_word, read_status, kind_word, read_kind, entry_start, operation_at}
use Rattle.store.specs.Layout.{AsStored, LogPacked, object_start, ObjectPacked, decode, base}
use Rattle.store.specs.Soundness.{EachObject, EntriesFit, Room, OnceEach, WithoutGaps, Acyclic, Dependent}
use Rattle.store.specs.Soundness.{Unsettled, SoundStore, Sound}
use Rattle.store.proofs.Laws.Encoding.{status_read}
use Rattle.store.proofs.Laws.Objects.{kind_read}
use Rattle.store.proofs.Laws.Statuses.{same_rank, live_within, pseudo_committed_within, kind_within}
use Rattle.store.proofs.Laws.Capacity.{past_room}
use Rattle.store.proofs.Laws.Deciding.{alike, implies, and_then, all_three, all_four, by_number, all, made_of}
use Rattle.store.proofs.Laws.Deciding.{all_below, every, some_below}
use Rattle.store.proofs.Laws.Graph.{depends_on, pseudo_committed_lem, cycle}
use mathlib.Core.Logic.Dec

-- ---- Rows, operations and answers

same_answer : (r q : Answer) → Dec (r ≡ q)
same_answer r q =
    alike (λ h i. answering (h.0 i) (h.1 i), λ e. (ap (λ (x : Answer). x.code) e, ap (λ (x : Answer). x.value) e))
    (Dec.and (ℕ_discrete r.code q.code) (ℕ_discrete r.value q.value))

ascending : (rs : List Row) → Dec (Ascending rs)
ascending [] = yes tt
ascending (r ∷ rs) = Dec.and (all (λ (q : Row). dec_lt r.key q.key) rs) (ascending rs)

module _ (reduce : ℕ → ℕ) where
  reduced : (k : ℕ) → Dec (reduce k ≡ k)
  reduced k = ℕ_discrete (reduce k) k

  well_formed : (kind : Kind) (rs : List Row) → Dec (WellFormed reduce kind rs)
  well_formed Stack rs = all (λ (r : Row). ℕ_discrete r.value 0) rs
  well_formed Set rs =
      all_three (all (λ (r : Row). ℕ_discrete r.value 0) rs) (all (λ (r : Row). reduced r.key) rs) (ascending rs)
  well_formed Table rs = Dec.and (all (λ (r : Row). reduced r.key) rs) (ascending rs)

  stored_key : (o : Operation) → Dec (StoredKey reduce o)
  stored_key (on_stack o) = yes tt
  stored_key (on_set o) = reduced (key_of (on_set o))
  stored_key (on_table o) = reduced (key_of (on_table o))

-- ---- One object's log

module _ (X : ObjectType) where
  open X use {State, Operation, Answer, next, answer, recoverable}

  all_recoverable : (l : List (Entry Operation Answer)) → Dec (Recoverable X.recoverable l)
  all_recoverable [] = yes tt
  all_recoverable (e ∷ l) =
      Dec.and
      (all
      (λ (x : Entry Operation Answer).
      implies (Dec.not (ℕ_discrete x.transaction e.transaction))
      (Bool-discrete (recoverable x.operation e.operation) true)) l)
      (all_recoverable l)

  all_answered : ((r q : Answer) → Dec (r ≡ q))
      → (l : List (Entry Operation Answer)) (s : State) → Dec (Answered X.next X.answer l s)
  all_answered alike [] s = yes tt
  all_answered alike (e ∷ l) s =
      Dec.and (alike (answer e.operation s) e.answer) (all_answered alike l (next e.operation s))

-- ---- A store

same_status : (a b : Status) → Dec (a ≡ b)
same_status = by_number status_word read_status status_read

kinded : (kind : Option Kind) → Dec ((k : Kind) × (kind ≡ some k))
kinded none = no (λ h. none-ne-some h.0 h.1)
kinded (some k) = yes (k, refl)

module _ (s : Store) where
  of_kind_lem : (P : ℕ → Kind → Type 0) → ((o : ℕ) (kind : Kind) → Dec (P o kind)) → Dec (EachObject P s)
  of_kind_lem P d =
      every (length s.objects) (λ o. (kind : Kind) → (object_of s o).kind ≡ some kind → P o kind)
      (λ o. made_of (P o) some (λ a b. some-injective a b) (object_of s o).kind
      (kinded (object_of s o).kind) (d o))
      (λ o past kind e. absurd (omega (arith, kind_within s o kind e)))

  base_room : EntriesFit s → Dec (Room base s)
  base_room fits =
      every (length s.objects) (λ o. base.used s o ≤ 64) (λ o. dec_le (base.used s o) 64) (past_room s fits)

  -- Such it is with each transaction that has a rank.
  of_rank : (P : ℕ → ℕ → Type 0) → ((t rank : ℕ) → Dec (P t rank))
      → Dec ((t rank : ℕ) → status_of s t ≡ pseudo_committed rank → P t rank)
  of_rank P d =
      every (length s.statuses) (λ t. (rank : ℕ) → status_of s t ≡ pseudo_committed rank → P t rank)
      (λ t. made_of (P t) pseudo_committed same_rank (status_of s t) (pseudo_committed_lem s t) (d t))
      (λ t past rank e. absurd (omega (arith, pseudo_committed_within s t (rank, e))))

  once : Dec (OnceEach s)
  once =
      alike (λ h t u rank e f. h t rank e u f, λ h t rank e u f. h t u rank e f)
      (of_rank (λ t rank. (u : ℕ) → status_of s u ≡ pseudo_committed rank → t ≡ u)
      (λ t rank.
      every (length s.statuses) (λ u. status_of s u ≡ pseudo_committed rank → t ≡ u)
      (λ u. implies (same_status (status_of s u) (pseudo_committed rank)) (ℕ_discrete t u))
      (λ u past e. absurd (omega (arith, pseudo_committed_within s u (rank, e))))))

  ranked : (rank : ℕ) → Dec ((u : ℕ) × (status_of s u ≡ pseudo_committed rank))
  ranked rank =
      alike (λ h. (h.0, h.2), λ h. (h.0, pseudo_committed_within s h.0 (rank, h.1), h.1))
      (some_below (length s.statuses) (λ u. status_of s u ≡ pseudo_committed rank)
      (λ u. same_status (status_of s u) (pseudo_committed rank)))

  gapless : Dec (WithoutGaps s)
  gapless =
      alike (λ h t rank lower e. h t rank e lower, λ h t rank e lower. h t rank lower e)
      (of_rank (λ t rank. (lower : ℕ) → lower < rank → (u : ℕ) × (status_of s u ≡ pseudo_committed lower))
      (λ t rank. all_below rank (λ lower. (u : ℕ) × (status_of s u ≡ pseudo_committed lower)) ranked))

  of_pseudo_committed : (P : ℕ → Type 0) → ((t : ℕ) → Dec (P t)) → Dec ((t : ℕ) → PseudoCommitted s t → P t)
  of_pseudo_committed P d =
      every (length s.statuses) (λ t. PseudoCommitted s t → P t) (λ t. implies (pseudo_committed_lem s t) (d t))
      (λ t past p. absurd (omega (arith, pseudo_committed_within s t p)))

  acyclic : Dec (Acyclic s)
  acyclic = of_pseudo_committed (λ t. OnCycle s t → ⊥) (λ t. Dec.not (cycle s t))

  on_live : (t : ℕ) → Dec ((u : ℕ) × Live s u × DependsOn s.log t u)
  on_live t =
      alike (λ h. (h.0, h.2.0, h.2.1), λ h. (h.0, live_within s h.0 h.1, (h.1, h.2)))
      (some_below (length s.statuses) (λ u. Live s u × DependsOn s.log t u)
      (λ u. Dec.and (Dec.not (same_status (status_of s u) absent)) (depends_on s.log t u)))

  dependent : Dec (Dependent s)
  dependent = of_pseudo_committed (λ t. (u : ℕ) × Live s u × DependsOn s.log t u) on_live

  module _ (format : Format) (room : EntriesFit s → Dec (Room format s)) where
    unsettled : Dec (Unsettled format s)
    unsettled =
        alike (
          λ h. record {
            rows = h.0.0;
            live = h.0.1;
            fits = h.0.2;
            reduced = h.0.3;
            recoverable = h.1.0.0;
            answered = h.1.0.1;
            room = h.1.0.2;
            once = h.1.1.0;
            gapless = h.1.1.1;
            acyclic = h.1.1.2;
          },
          λ p. (
            (p.rows, p.live, p.fits, p.reduced),
            ((p.recoverable, p.answered, p.room), (p.once, p.gapless, p.acyclic)),
          ),
        )
        (and_then
        (all_four (of_kind_lem _ (λ o kind. well_formed format.reduce kind (object_of s o).rows))
        (all (λ (l : Logged). Dec.not (same_status (status_of s l.entry.transaction) absent)) s.log)
        (all (λ (l : Logged). by_number kind_word read_kind kind_read (object_of s l.object).kind
        (some (kind_of l.entry.operation))) s.log)
        (all (λ (l : Logged). stored_key format.reduce l.entry.operation) s.log))
        (λ h.
        Dec.and
        (all_three (of_kind_lem _ (λ o kind. all_recoverable (object format.reduce kind) (on_object o s.log)))
        (of_kind_lem _
        (λ o kind. all_answered (object format.reduce kind) same_answer (on_object o s.log) (object_of s o).rows))
        (room h.2))
        (all_three once gapless acyclic)))

    sound_store : Dec (SoundStore format s)
    sound_store =
        alike (λ h. record { unsettled = h.0; dependent = h.1 }, λ p. (p.unsettled, p.dependent))
        (Dec.and unsettled dependent)

-- ---- A book's words

module _ (w : List ℕ) where
  log_packed : Dec (LogPacked w)
  log_packed =
      alike (λ h. record { entries = h.0; as_stored = h.1; unused = h.2 }, λ p. (p.entries, p.as_stored, p.unused))
      (all_three (dec_le (word w 0) 256)
      (all_below (word w 0) (AsStored w)
      (λ i.
      let start = entry_start i in
      let o = operation_at w i in
      all_three (ℕ_discrete (number_of o) (word w (start + 2))) (ℕ_discrete (key_of o) (word w (start + 3)))
      (ℕ_discrete (value_of o) (word w (start + 4)))))
      (every (length w) (λ i. entry_start (word w 0) ≤ i → word w i ≡ 0)
      (λ i. implies (dec_le (entry_start (word w 0)) i) (ℕ_discrete (word w i) 0))
      (λ i past l. get_or-eq_default w 0 past)))

  object_packed : (o : ℕ) → Dec (ObjectPacked w o)
  object_packed o =
      let start = object_start o in
      alike (
        λ h. record { kind = h.0; rows = h.1; none = h.2; unused = λ i l m. h.3 i m l },
        λ p. (p.kind, p.rows, p.none, λ i m l. p.unused i l m),
      )
      (all_four (dec_le (word w start) 3) (dec_le (word w (start + 1)) 64)
      (implies (ℕ_discrete (word w start) 0) (ℕ_discrete (word w (start + 1)) 0))
      (all_below 128 (λ i. 2 * word w (start + 1) ≤ i → word w (start + 2 + i) ≡ 0)
      (λ i. implies (dec_le (2 * word w (start + 1)) i) (ℕ_discrete (word w (start + 2 + i)) 0))))

  module _ (format : Format) (objects : Dec (format.ObjectsPacked w))
      (room : EntriesFit (decode format w) → Dec (Room format (decode format w))) where
    sound : Dec (Sound format w)
    sound =
        alike (
          λ h. record { packed = record { words = h.0; objects = h.1; log = h.2 }; store = h.3 },
          λ p. (p.packed.words, p.packed.objects, p.packed.log, p.store),
        )
        (all_four (ℕ_discrete (length w) book_words) objects log_packed (sound_store (decode format w) format room))

  pub base_sound : Dec (Sound base w)
  base_sound = sound base (all_below 16 (ObjectPacked w) object_packed) (base_room (decode base w))
