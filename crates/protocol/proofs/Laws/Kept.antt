-- Every call leaves a sound book, where it was sound before.
use Rattle.std.specs.Prelude.{ℕ, zero, suc, ◌≡◌, length}
use Rattle.std.proofs.Math.Path.{refl}
use Rattle.std.proofs.Common.{sym, subst}
use mathlib.Core.List.{List, [], ◌∷◌}
use Rattle.store.specs.Store.{active, pseudo_committed, Store, object_of, Active, pseudo_committed_count}
use Rattle.store.specs.Layout.{encode, decode, joined, row_words, Representable, base}
use Rattle.store.specs.Soundness.{Unsettled, SoundStore, Sound}
use Rattle.store.specs.Steps.{with_status}
use Rattle.store.proofs.Theorems.{representable, decoded, packed}
use Rattle.store.proofs.Laws.Changes.{representable_status}
use Rattle.protocol.specs.Replies.{ok, counted, cancelled, outcome, Served, served}
use Rattle.protocol.specs.Ending.{ended, commit, settled_all}
use Rattle.protocol.specs.Calls.{LentOperation, operations_in, unless, empty, run_all, awaited, respond, concluded}
use Rattle.protocol.specs.Calls.{finish_active, set_up_reason, set_up, begin_reason, begin, batch_reason, batch}
use Rattle.protocol.specs.Calls.{operate, end_reason, finish, cancel, contents_reason, contents}
use Rattle.protocol.specs.Call as calling
use Rattle.protocol.specs.Terms.{BatchAccepted}
use Rattle.protocol.proofs.Laws.Ending.{ended_representable, ended_unsettled, commit_representable}
use Rattle.protocol.proofs.Laws.Ending.{commit_unsettled}
use Rattle.protocol.proofs.Laws.Settling.{settled_kept}
use Rattle.protocol.proofs.Laws.Keeping.{emptied_sound, begun_sound, pseudo_committed_sound}
use Rattle.protocol.proofs.Laws.Batches.{run_all_kept}
use Rattle.protocol.proofs.Laws.Protocol.{finish_by}
use Rattle.protocol.proofs.Laws.Reasons.{set_up_accepted, begin_accepted, batch_accepted}
use Rattle.protocol.proofs.Laws.Reasons.{end_accepted}

-- A sound store, written as words.
pub encoded_sound : (s : Store) → Representable base s → SoundStore base s → Sound base (encode base s)
encoded_sound s r h = record { packed = packed s r; store = subst (SoundStore base) (sym (decoded s r)) h }

-- What holds of the book holds still, if it does where no reason applies.
unless_kept : (P : List ℕ → Type 0) (n : ℕ) (w list : List ℕ) (s : Served) → P w → (n ≡ 0 → P s.book)
    → P (unless n w list s).book
unless_kept P zero w list s p accepted = accepted refl
unless_kept P (suc n) w list s p accepted = p

-- What set up writes, whatever was there before.
pub empty_encoded : (w kinds : List ℕ) → set_up_reason base w kinds ≡ 0 → Sound base (encode base (empty kinds))
empty_encoded w kinds e =
    let sound = emptied_sound kinds (set_up_accepted base w kinds e).sixteen in
    encoded_sound (empty kinds) sound.1 sound.0

module _ (w : List ℕ) (h : Sound base w) where
  abbrev s : Store
  s = decode base w

  fits : Representable base s
  fits = representable w h.packed

  set_up_kept : (kinds : List ℕ) → Sound base (set_up base w kinds).book
  unfolding set_up
  set_up_kept kinds =
      unless_kept (Sound base) (set_up_reason base w kinds) w [] (served (encode base (empty kinds))
      (outcome ok [] [])) h
      (empty_encoded w kinds)

  module _ (whether_sound : (w : List ℕ) → Dec (Sound base w)) where
    begin_kept : (t : ℕ) → Sound base (begin base whether_sound w t).book
    unfolding begin
    begin_kept t =
        unless_kept (Sound base) (begin_reason base whether_sound w t) w []
        (served (encode base (with_status t active s)) (outcome ok [] [])) h
        (λ e.
        encoded_sound (with_status t active s) (representable_status s fits t active)
        (begun_sound s t h.store (begin_accepted base whether_sound w t e).new))

    module _ (t : ℕ) (operations : List ℕ) where
      abbrev qs : List LentOperation
      qs = operations_in operations

      responded : (n : ℕ) → awaited base t s qs ≡ n → BatchAccepted base w t operations
          → Sound base (respond base w t qs n).book
      responded (suc n) e a = h
      responded zero e a =
          let (sound, fit) = run_all_kept t s qs (h.store, fits) a.active a.each e in
          encoded_sound (run_all base t qs s) fit sound

      batch_kept : Sound base (batch base whether_sound w t operations).book
      unfolding batch
      batch_kept =
          unless_kept (Sound base) (batch_reason base whether_sound w t operations) w []
          (respond base w t qs (awaited base t s qs)) h
          (λ e. responded (awaited base t s qs) refl (batch_accepted base whether_sound w t operations e))

    operate_kept : (t o number k v : ℕ) → Sound base (operate base whether_sound w t o number k v).book
    unfolding operate
    operate_kept t o number k v = batch_kept t (o ∷ number ∷ k ∷ v ∷ [])

    contents_kept : (o : ℕ) → Sound base (contents base whether_sound w o).book
    unfolding contents
    contents_kept o =
        unless_kept (Sound base) (contents_reason base whether_sound w o) w []
        (served w (outcome (counted (length (object_of s o).rows)) [] (joined row_words (object_of s o).rows))) h
        (λ e. h)

-- ---- Finish and cancel

settled_encoded : (s : Store) → Representable base s → Unsettled base s → Sound base (encode base (settled_all s).store)
settled_encoded s r u = let k = settled_kept s r u in encoded_sound (settled_all s).store k.1 k.0

module _ (s : Store) (t : ℕ) (r : Representable base s) (h : SoundStore base s) where
  ended_encoded : Sound base (encode base (settled_all (ended t s)).store)
  ended_encoded = settled_encoded (ended t s) (ended_representable s t r) (ended_unsettled s t h.unsettled)

  finished_sound : Active s t → (list : List ℕ) → Sound base (finish_active base s t list).book
  finished_sound is_active_lem list =
      finish_by s t list (λ (r : Served). Sound base r.book) (λ c. ended_encoded)
      (λ c. settled_encoded (commit t s) (commit_representable s t r h.unsettled)
      (commit_unsettled s t h.unsettled c.1))
      (λ c.
      encoded_sound (with_status t (pseudo_committed (pseudo_committed_count s)) s)
      (representable_status s r t (pseudo_committed (pseudo_committed_count s)))
      (pseudo_committed_sound s t r h is_active_lem c.0 c.1))

module _ (w : List ℕ) (h : Sound base w) (whether_sound : (w : List ℕ) → Dec (Sound base w)) where
  finish_kept : (t : ℕ) (list : List ℕ) → Sound base (finish base whether_sound w t list).book
  unfolding finish
  finish_kept t list =
      unless_kept (Sound base) (end_reason base whether_sound w t list) w list (finish_active base
      (decode base w) t list)
      h
      (λ e. finished_sound (decode base w) t (fits w h) h.store (end_accepted base whether_sound w t list e).active
      list)

  cancel_kept : (t : ℕ) (list : List ℕ) → Sound base (cancel base whether_sound w t list).book
  unfolding cancel
  cancel_kept t list =
      unless_kept (Sound base) (end_reason base whether_sound w t list) w list
      (concluded base cancelled list (settled_all (ended t (decode base w)))) h
      (λ e. ended_encoded (decode base w) t (fits w h) h.store)

pub sound_kept : (whether_sound : (w : List ℕ) → Dec (Sound base w)) (call : calling.Call) (w : List ℕ) → Sound base w
    → Sound base (calling.step base whether_sound call w).book
sound_kept whether_sound (calling.set_up kinds) w h = set_up_kept w h kinds
sound_kept whether_sound (calling.begin t) w h = begin_kept w h whether_sound t
sound_kept whether_sound (calling.operate t o number k v) w h = operate_kept w h whether_sound t o number k v
sound_kept whether_sound (calling.batch t operations) w h = batch_kept w h whether_sound t operations
sound_kept whether_sound (calling.finish t list) w h = finish_kept w h whether_sound t list
sound_kept whether_sound (calling.cancel t list) w h = cancel_kept w h whether_sound t list
sound_kept whether_sound (calling.contents o) w h = contents_kept w h whether_sound o
