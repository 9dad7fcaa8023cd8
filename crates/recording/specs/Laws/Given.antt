-- The desk gives a call no other replies than those of its letter.
use Rattle.std.specs.Prelude.{ℕ, zero, suc, ◌-◌, ◌%◌, ◌≤◌, ◌≡◌, refl, true, not, ◌&&◌, List, [], ◌∷◌, length}
use Rattle.std.proofs.Common.{ap, ◌∙◌, arith, eq-eqb, le-leb}
use Rattle.std.proofs.Math.Bool.{and-true, and-eq-true_iff}
use Rattle.std.proofs.Math.Dec.{eqb-suc-zero}
use Rattle.store.specs.Layout.{base, decode}
use Rattle.store.proofs.Decisions.{whether_sound}
use Rattle.protocol.specs.Replies.{Served}
use Rattle.protocol.specs.Call as model
use Rattle.protocol.specs.Call.{Call, desk}
use Rattle.protocol.specs.Calls as calls
use Rattle.protocol.specs.Calls.{operations_in, unless, awaited, respond}
use Rattle.protocol.specs.Calls.{set_up_reason, begin_reason, batch_reason, end_reason, contents_reason}
use Rattle.protocol.proofs.Laws.Reasons.{set_up_accepted, batch_accepted}
use Rattle.protocol.proofs.Laws.Protocol.{finish_by}
use Rattle.protocol.proofs.Laws.Batches.{answers_counted}
use Rattle.protocol.proofs.Laws.Lent.{lent_count}
use Rattle.journal.specs.Records.{operations_of}
use Rattle.recording.specs.Recording.{whole, given_to}

-- A reason for saying no, or what the call gives where none applies.
or_refused : (call : Call) (n : ℕ) (w list : List ℕ) (s : Served)
    → (n ≡ 0 → given_to call s.outcome.reply ≡ true) → given_to call (unless n w list s).outcome.reply ≡ true
or_refused call zero w list s given = given refl
or_refused call (suc n) w list s given = ap not (eqb-suc-zero n)

sixteen_kinds : (kinds : List ℕ) → length kinds ≡ 16 → whole (model.set_up kinds) ≡ true
sixteen_kinds kinds e = rw e

whole_batch : (t : ℕ) (operations : List ℕ) → length operations ≤ 64 → length operations % 4 ≡ 0
    → whole (model.batch t operations) ≡ true
whole_batch t operations few whole =
    let n : suc (length operations) - 1 ≡ length operations = omega arith in
    rw (
      n,
      le-leb 1 (suc (length operations)) (omega arith),
      eq-eqb (length operations % 4) 0 whole,
      le-leb (length operations) 64 few,
    )

responds : (w : List ℕ) (t : ℕ) (operations : List ℕ) → whole (model.batch t operations) ≡ true → (waited : ℕ)
    → given_to (model.batch t operations) (respond base w t (operations_in operations) waited).outcome.reply ≡ true
responds w t operations e zero =
    let qs = operations_in operations in
    let asked = operations_of 71 (t ∷ operations) in
    (and-eq-true_iff (whole (model.batch t operations) && true) _).1 (
      and-true (whole (model.batch t operations)) ∙ e,
      eq-eqb _ asked (answers_counted t (decode base w) qs ∙ lent_count operations ∙ omega arith),
    )
responds w t operations e (suc n) = and-true (whole (model.batch t operations)) ∙ e

responds_to_one : (w : List ℕ) (t o number k v waited : ℕ)
    → given_to (model.operate t o number k v)
    (respond base w t (operations_in (o ∷ number ∷ k ∷ v ∷ [])) waited).outcome.reply ≡ true
responds_to_one w t o number k v zero = refl
responds_to_one w t o number k v (suc n) = refl

pub desk_gives : (call : Call) (w : List ℕ) → given_to call (desk call w).outcome.reply ≡ true
unfolding calls.set_up calls.begin calls.operate calls.batch calls.finish calls.cancel calls.contents
desk_gives (model.set_up kinds) w =
    or_refused (model.set_up kinds) (set_up_reason base w kinds) w [] _
    (λ accepted.
    and-true (whole (model.set_up kinds)) ∙ sixteen_kinds kinds (set_up_accepted base w kinds accepted).sixteen)
desk_gives (model.begin t) w =
    or_refused (model.begin t) (begin_reason base whether_sound w t) w [] _ (λ accepted. refl)
desk_gives (model.operate t o number k v) w =
    or_refused (model.operate t o number k v) (batch_reason base whether_sound w t (o ∷ number ∷ k ∷ v ∷ [])) w [] _
    (λ accepted. responds_to_one w t o number k v
    (awaited base t (decode base w) (operations_in (o ∷ number ∷ k ∷ v ∷ []))))
desk_gives (model.batch t operations) w =
    or_refused (model.batch t operations) (batch_reason base whether_sound w t operations) w [] _
    (λ accepted.
    let so = batch_accepted base whether_sound w t operations accepted in
    responds w t operations (whole_batch t operations so.few so.whole)
    (awaited base t (decode base w) (operations_in operations)))
desk_gives (model.finish t list) w =
    or_refused (model.finish t list) (end_reason base whether_sound w t list) w list _
    (λ accepted. finish_by (decode base w) t list
    (λ (r : Served). given_to (model.finish t list) r.outcome.reply ≡ true) (λ c. refl) (λ c. refl) (λ c. refl))
desk_gives (model.cancel t list) w =
    or_refused (model.cancel t list) (end_reason base whether_sound w t list) w list _ (λ accepted. refl)
desk_gives (model.contents o) w =
    or_refused (model.contents o) (contents_reason base whether_sound w o) w [] _ (λ accepted. refl)
