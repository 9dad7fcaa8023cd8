-- The desk without its check of soundness, which computes; on a sound book it is the desk.
use Rattle.std.specs.Prelude.{ℕ, ◌≡◌, refl, false, List, [], ◌∷◌, length}
use Rattle.std.proofs.Common.{ap, ◌∙◌, eq-eqb}
use Rattle.std.proofs.Math.Bool.{decide}
use Rattle.std.proofs.Math.Decide.{ℕ_discrete}
use Rattle.operations.specs.Operations.{reduce_key, by_order}
use Rattle.store.specs.Layout.{BookLong, book_words}
use Rattle.store.specs.Layout.{tabulate, encode, base}
use Rattle.store.specs.Soundness.{Sound}
use Rattle.store.proofs.Decisions.{whether_ready, whether_on_cycle, whether_sound}
use Rattle.protocol.specs.Replies.{ok, Served}
use Rattle.protocol.specs.Ending.{first_below, lowest_ready}
use Rattle.protocol.specs.Calls as calls
use Rattle.protocol.specs.Calls.{bad_kinds, unsound, empty, set_up_reason}
use Rattle.protocol.specs.Call.{Call, set_up, begin, operate, batch, finish, cancel, contents, desk}
use Rattle.protocol.proofs.Theorems.{set_up_sound, sound_kept}
use Rattle.protocol.proofs.Laws.Reasons.{found_sound}
use Rattle.protocol.proofs.Laws.Leaving.{set_up_served}
use Rattle.history.specs.History.{Event, trace}
use mathlib.Core.Logic.Dec

-- What a call leaves where reason 4 does not apply. `rw` finds it; r, the call itself, keeps `rw` to one side.
passed : (call : Call) (w : List ℕ)
    → (s : Served) × (unsound whether_sound w ≡ false → (r : Served) → r ≡ desk call w → r ≡ s)
unfolding calls.set_up calls.begin calls.operate calls.batch calls.finish calls.cancel calls.contents
passed (set_up kinds) w = (_, λ e r p. p)
passed (begin t) w = (_, λ e r p. rw e at p)
passed (operate t o number k v) w = (_, λ e r p. rw e at p)
passed (batch t operations) w = (_, λ e r p. rw e at p)
passed (finish t list) w = (_, λ e r p. rw e at p)
passed (cancel t list) w = (_, λ e r p. rw e at p)
passed (contents o) w = (_, λ e r p. rw e at p)

-- Where it unfolds, all that it goes by does, so that it computes.
unfoldable pub unchecked : Call → List ℕ → Served
unfolding passed decide ℕ_discrete Dec.and Dec.not whether_ready whether_on_cycle lowest_ready
    first_below reduce_key by_order tabulate encode
unchecked call w = (passed call w).0

desk_unchecked : (call : Call) (w : List ℕ) → Sound base w → desk call w ≡ unchecked call w
unfolding unchecked
desk_unchecked call w h = (passed call w).1 (found_sound base whether_sound w h) (desk call w) refl

trace_unchecked : (calls : List Call) (w : List ℕ) → Sound base w → trace desk calls w ≡ trace unchecked calls w
trace_unchecked [] w h = refl
trace_unchecked (call ∷ calls) w h =
    ap (λ (l : List Event). record { call = call; outcome = (desk call w).outcome } ∷ l)
    (trace_unchecked calls (desk call w).book (sound_kept call w h))
    ∙ ap (λ (r : Served). record { call = call; outcome = r.outcome } ∷ trace unchecked calls r.book)
    (desk_unchecked call w h)

-- The events after an accepted set up.
pub trace_computed : (kinds : List ℕ) → bad_kinds kinds ≡ false → (calls : List Call) (w : List ℕ) → BookLong w
    → ((desk (set_up kinds) w).outcome.reply ≡ ok)
    × (trace desk calls (desk (set_up kinds) w).book ≡ trace unchecked calls (encode base (empty kinds)))
trace_computed kinds good calls w l =
    let e : set_up_reason base w kinds ≡ 0 = rw (eq-eqb (length w) book_words l, good) refl in
    let so = set_up_served w kinds e in (
      ap (λ (r : Served). r.outcome.reply) so,
      trace_unchecked calls (desk (set_up kinds) w).book (set_up_sound w kinds e)
          ∙ ap (λ (r : Served). trace unchecked calls r.book) so,
    )
