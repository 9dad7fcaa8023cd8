-- What a refused call leaves, and what set up, begin and contents leave where no reason applies.
use Rattle.std.specs.Prelude.{ℕ, zero, suc, ◌+◌, ◌-◌, ◌*◌, ◌<◌, ◌≡◌, refl, false, ◌↔◌, ◌⊎◌, eqb, length, set, take}
use Rattle.std.specs.Prelude.{drop}
use Rattle.std.proofs.Common.{sym, ap, ◌∙◌, subst, inl, inr, ⊎_elim, arith}
use mathlib.Core.List.{List, [], ◌∷◌}
use Rattle.std.proofs.lemmas.Bool.{eqb-false}
use Rattle.operations.specs.Operations.{Row}
use Rattle.operations.proofs.Laws.Cases.{same}
use Rattle.store.specs.Store.{active, Store, object_of}
use Rattle.store.specs.Layout.{encode, decode, object_start, joined, row_words, Representable, base}
use Rattle.store.proofs.Decisions.{whether_sound}
use Rattle.store.specs.Steps.{with_status}
use Rattle.store.proofs.Theorems.{decoded}
use Rattle.store.proofs.Laws.Reading.{kind_below}
use Rattle.store.proofs.Laws.Rows.{rows_counted, rows_part}
use Rattle.store.proofs.Laws.Writing.{status_put}
use Rattle.protocol.specs.Replies.{Reply, ok, counted, refused, outcome, Served, served}
use Rattle.protocol.specs.Calls.{LentOperation, operations_in, unless, empty, awaited, respond, finish_active}
use Rattle.protocol.specs.Calls.{set_up_reason, set_up, begin_reason, begin, batch_reason, batch, operate, finish}
use Rattle.protocol.specs.Calls.{cancel, contents_reason, contents}
use Rattle.protocol.specs.Call as calling
use Rattle.protocol.specs.Call.{Call, desk, reason_of, list_of}
use Rattle.protocol.proofs.Laws.Reasons.{unless_refused, unless_accepted, begin_accepted, contents_accepted}
use Rattle.protocol.proofs.Laws.Protocol.{clash, finish_by}

-- ---- Refused

-- A reply that refuses nothing.
abbrev Serves : Reply → Type 0
Serves r = (n : ℕ) → r ≡ refused n → ⊥

-- A call is served unless its reason applies.
pub record Guarded (reason : ℕ) (w list : List ℕ) (r : Served) : Type 0 where
  otherwise : Served
  guarded : r ≡ unless reason w list otherwise
  serves : Serves otherwise.outcome.reply

responds : (w : List ℕ) (t : ℕ) (qs : List LentOperation) (awaited : ℕ)
    → Serves (respond base w t qs awaited).outcome.reply
responds w t qs zero n e = clash cc
responds w t qs (suc awaited) n e = clash cc

batch_guarded : (w : List ℕ) (t : ℕ) (operations : List ℕ)
    → Guarded (batch_reason base whether_sound w t operations) w [] (batch base whether_sound w t operations)
unfolding batch
batch_guarded w t operations =
    let qs = operations_in operations in
    record { otherwise = _; guarded = refl; serves = responds w t qs (awaited base t (decode base w) qs) }

finishes : (s : Store) (t : ℕ) (list : List ℕ) → Serves (finish_active base s t list).outcome.reply
finishes s t list =
    finish_by s t list (λ (r : Served). Serves r.outcome.reply)
    (λ c n e. clash cc) (λ c n e. clash cc) (λ c n e. clash cc)

pub guard : (call : Call) (w : List ℕ) → Guarded (reason_of call w) w (list_of call) (desk call w)
unfolding set_up begin operate finish cancel contents
guard (calling.set_up kinds) w = record { otherwise = _; guarded = refl; serves = λ n e. clash cc }
guard (calling.begin t) w = record { otherwise = _; guarded = refl; serves = λ n e. clash cc }
guard (calling.operate t o number k v) w = batch_guarded w t (o ∷ number ∷ k ∷ v ∷ [])
guard (calling.batch t operations) w = batch_guarded w t operations
guard (calling.finish t list) w = record { otherwise = _; guarded = refl; serves = finishes (decode base w) t list }
guard (calling.cancel t list) w = record { otherwise = _; guarded = refl; serves = λ n e. clash cc }
guard (calling.contents o) w = record { otherwise = _; guarded = refl; serves = λ n e. clash cc }

module _ (n : ℕ) (w list : List ℕ) (s : Served) (serves : Serves s.outcome.reply) where
  refuses : (m : ℕ) → ((unless n w list s).outcome.reply ≡ refused m) ↔ ((n ≡ m) × (m ≡ 0 → ⊥))
  refuses m = by n
    where
      by : (n : ℕ) → ((unless n w list s).outcome.reply ≡ refused m) ↔ ((n ≡ m) × (m ≡ 0 → ⊥))
      by zero = (λ e. absurd (serves m e), λ h. absurd (h.1 (sym h.0)))
      by (suc k) = (λ e. let f : suc k ≡ m = cc in (f, λ z. omega (arith, f, z)), λ h. ap refused h.0)

module _ (reason : ℕ) (w list : List ℕ) (r : Served) (g : Guarded reason w list r) (n : ℕ) where
  -- It is refused with the number of the reason that applies,
  pub refused_by : (r.outcome.reply ≡ refused n) ↔ ((reason ≡ n) × (n ≡ 0 → ⊥))
  refused_by =
      subst (λ (x : Served). (x.outcome.reply ≡ refused n) ↔ ((reason ≡ n) × (n ≡ 0 → ⊥))) (sym g.guarded)
      (refuses reason w list g.otherwise g.serves n)

  -- and book and list stay.
  pub untouched_by : r.outcome.reply ≡ refused n → (r.book ≡ w) × (r.outcome.list ≡ list) × (r.outcome.rows ≡ [])
  untouched_by e =
      let h = refused_by.0 e in
      let so = g.guarded ∙ unless_refused reason w list g.otherwise (λ z. h.1 (sym h.0 ∙ z)) in (
        ap (λ (x : Served). x.book) so,
        ap (λ (x : Served). x.outcome.list) so,
        ap (λ (x : Served). x.outcome.rows) so,
      )

pub refused_as : (call : Call) (w : List ℕ) (n : ℕ) → eqb n 0 ≡ false
    → ((desk call w).outcome.reply ≡ refused n) ↔ (reason_of call w ≡ n)
refused_as call w n positive =
    let said = refused_by (reason_of call w) w (list_of call) (desk call w) (guard call w) n in
    (λ e. (said.0 e).0, λ e. said.1 (e, eqb-false n 0 positive))

pub refused_or_accepted : (call : Call) (w : List ℕ)
    → ((n : ℕ) × ((desk call w).outcome.reply ≡ refused n)) ⊎ (reason_of call w ≡ 0)
refused_or_accepted call w =
    same (reason_of call w) 0 inr
    (λ applies. inl (
      reason_of call w,
      (refused_by (reason_of call w) w (list_of call) (desk call w) (guard call w)
          (reason_of call w)).1 (refl, applies),
    ))

-- No reason applies to a call that is not refused.
pub no_reason : (call : Call) (w : List ℕ)
    → ((n : ℕ) → (desk call w).outcome.reply ≡ refused n → ⊥) → reason_of call w ≡ 0
no_reason call w serves = ⊎_elim (λ r. absurd (serves r.0 r.1)) (λ e. e) (refused_or_accepted call w)

-- ---- Set up, begin and contents, where no reason applies

pub set_up_served : (w kinds : List ℕ) → set_up_reason base w kinds ≡ 0
    → set_up base w kinds ≡ served (encode base (empty kinds)) (outcome ok [] [])
unfolding set_up
set_up_served w kinds =
    unless_accepted (set_up_reason base w kinds) w [] (served (encode base (empty kinds)) (outcome ok [] []))

pub begin_served : (w : List ℕ) (t : ℕ) → begin_reason base whether_sound w t ≡ 0
    → begin base whether_sound w t ≡ served (encode base (with_status t active (decode base w))) (outcome ok [] [])
unfolding begin
begin_served w t =
    unless_accepted (begin_reason base whether_sound w t) w []
    (served (encode base (with_status t active (decode base w))) (outcome ok [] []))

-- Begin writes one word.
pub begin_written : (w : List ℕ) (t : ℕ) → begin_reason base whether_sound w t ≡ 0
    → ((begin base whether_sound w t).book ≡ set w (1 + t) 1) × (1 + t < length w)
begin_written w t accepted =
    let h = begin_accepted base whether_sound w t accepted in (
      ap (λ (r : Served). r.book) (begin_served w t accepted) ∙ sym (status_put w h.sound.packed t 1 h.below),
      omega (arith, h.words, h.below),
    )

-- What they write is read back.
pub read_back : (r : Served) (s : Store) → Representable base s → r ≡ served (encode base s) (outcome ok [] [])
    → (r.outcome.reply ≡ ok) × (decode base r.book ≡ s)
read_back r s fits e =
    (ap (λ (x : Served). x.outcome.reply) e, ap (λ (x : Served). decode base x.book) e ∙ decoded s fits)

module _ (w : List ℕ) (o : ℕ) where
  abbrev rows : List Row
  rows = (object_of (decode base w) o).rows

  module _ (accepted : contents_reason base whether_sound w o ≡ 0) where
    pub contents_served : contents base whether_sound w o
        ≡ served w (outcome (counted (length rows)) [] (joined row_words rows))
    unfolding contents
    contents_served =
        unless_accepted (contents_reason base whether_sound w o) w []
        (served w (outcome (counted (length rows)) [] (joined row_words rows))) accepted

    -- They are that part of the book.
    pub contents_part : joined row_words rows ≡ take (2 * length rows) (drop (object_start o + 2) w)
    contents_part =
        let h = contents_accepted base whether_sound w o accepted in
        let l = kind_below base w o h.kind.0 h.kind.1 in
        let n : object_start o + 2 + 2 * length rows - (object_start o + 2) ≡ 2 * length rows = omega arith in
        sym (ap (λ (m : ℕ). take m (drop (object_start o + 2) w)) (sym n)
        ∙ rows_part w o l h.sound.packed (length rows) (rows_counted w o l))

-- Whatever the reason: where the reply counts n rows, 2 * n words from the object's first row on are handed back.
pub counted_part : (w : List ℕ) (o n : ℕ) → (contents base whether_sound w o).outcome.reply ≡ counted n
    → (contents base whether_sound w o).outcome.rows ≡ take (2 * n) (drop (object_start o + 2) w)
counted_part w o n said =
    same (contents_reason base whether_sound w o) 0
    (λ accepted.
    let so = contents_served w o accepted in
    let e : counted (length (rows w o)) ≡ counted n = sym (ap (λ (r : Served). r.outcome.reply) so) ∙ said in
    let many : length (rows w o) ≡ n = cc in
    ap (λ (r : Served). r.outcome.rows) so ∙ contents_part w o accepted
    ∙ ap (λ (m : ℕ). take (2 * m) (drop (object_start o + 2) w)) many)
    (λ applies.
    let g = guard (calling.contents o) w in
    let e = (refused_by _ w [] _ g _).1 (refl, applies) in
    clash cc)
