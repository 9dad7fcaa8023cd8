-- Finish and cancel: what is known of a call that may be served, what it asks of `ending`, and that what it leaves and
-- replies is its definition.
use Rattle.std.specs.Prelude.{ℕ, ◌≤◌, ◌<◌, ◌≡◌, Bool, true, ◌&&◌, ◌↔◌, List, [], length}
use Rattle.std.proofs.Common.{sym, ap, ap₂, ◌∙◌, arith}
use Rattle.bitset.specs.Bitset.{has, In, Holds, Members}
use Rattle.store.specs.Store.{Store, Active}
use Rattle.store.specs.Layout.{base, encode, decode}
use Rattle.store.specs.Dependency.{Ready, OnCycle, Predecessor, Successor}
use Rattle.store.proofs.Decisions.{whether_sound}
use Rattle.store.proofs.Theorems.{representable}
use Rattle.graph.specs.Edges.{EdgeIn}
use Rattle.sound.specs.Examined.{Examined}
use Rattle.ending.specs.Ending.{Tracked, Concluded, pseudo_commit}
use Rattle.ending.specs.Laws.Ready.{ready_tested}
use Rattle.protocol.specs.Replies.{Reply, refused, outcome, served}
use Rattle.protocol.specs.Replies as replies
use Rattle.protocol.specs.Ending.{Settlement, ended, commit, committed_first, settled_all}
use Rattle.protocol.specs.Calls.{end_reason, finish, cancel, concluded}
use Rattle.protocol.specs.Terms.{EndAccepted}
use Rattle.protocol.proofs.Laws.Ranks.{ended_count}
use Rattle.protocol.proofs.Laws.Settling.{commit_count, settled_few}
use Rattle.protocol.proofs.Laws.Reasons.{said_no, end_accepts, end_accepted}
use Rattle.protocol.proofs.Laws.Protocol.{finishing, cancelling, on_circle, on_nobody, on_others}
use Rattle.protocol.specs.Refusals.{refusal_number}
use Rattle.protocol.specs.declared.Refusal.{Refusal}
use Rattle.refusals.specs.Laws.{number_named}
use Rattle.finishing.specs.Laws.Circles.{circle_found}

-- ---- Refused

module _ (w : List ℕ) (t : ℕ) (list : List ℕ) (reason : Refusal)
    (found : refusal_number reason ≡ end_reason base whether_sound w t list) where
  pub finish_refused : served w (outcome (refused (refusal_number reason)) list []) ≡ finish base whether_sound w t list
  unfolding finish
  finish_refused = said_no _ (refusal_number reason) found w list _ (number_named reason)

  pub cancel_refused : served w (outcome (refused (refusal_number reason)) list []) ≡ cancel base whether_sound w t list
  unfolding cancel
  cancel_refused = said_no _ (refusal_number reason) found w list _ (number_named reason)

-- ---- Served

pub accepts : (w : List ℕ) (t : ℕ) (list : List ℕ) → 0 ≡ end_reason base whether_sound w t list
    → EndAccepted base w t list
accepts w t list none = end_accepted base whether_sound w t list (sym none)

module _ {w : List ℕ} {t : ℕ} {list : List ℕ} (accepted : EndAccepted base w t list) where
  abbrev s : Store
  s = decode base w

  none : end_reason base whether_sound w t list ≡ 0
  none = end_accepts base whether_sound w t list accepted

  statuses : length s.statuses ≡ 64
  statuses = (representable w accepted.sound.packed).statuses

  -- The sets that were found while the book was examined.
  module _ {finished : ℕ} {sets : List ℕ} (found : Examined w finished sets) where
    tracked : Tracked w sets finished
    tracked =
        record {
          packed = accepted.sound.packed;
          unsettled = accepted.sound.store.unsettled;
          whole = found.whole;
          edges = found.represented;
          members = found.members;
        }

    pub may_abort : Tracked w sets finished × Active s t × (64 ≤ length list)
    may_abort = (tracked, accepted.active, accepted.fits)

    pub may_commit : Ready s.log t → Tracked w sets finished × Active s t × Ready s.log t × (64 ≤ length list)
    may_commit ready = (tracked, accepted.active, ready, accepted.fits)

    -- Predecessors and successors meet exactly where there is a circle.
    pub circle_tested : (before behind both : ℕ)
        → Holds before (Predecessor (EdgeIn sets) (In finished) t)
        → Holds behind (Successor (EdgeIn sets) (In finished) t)
        → Members both (λ u. has before u && has behind u)
        → (both ≡ 0 → ⊥) ↔ OnCycle s t
    circle_tested before behind both =
        circle_found s sets finished found.represented found.members statuses t before behind both
        accepted.below

    pub readiness_tested : (b : Bool) → (b ≡ true) ↔ ((u : ℕ) → EdgeIn sets t u → ⊥) → (b ≡ true) ↔ Ready s.log t
    readiness_tested = ready_tested sets s t found.represented

  -- Counts that fit a reply.
  module _ {book after : List ℕ} {count : ℕ} where
    pub aborted_few : Concluded (settled_all (ended t s)) list book after count → count < 64
    aborted_few c = omega (arith, c.2, settled_few (ended t s) (ended_count s t statuses accepted.active))

    pub committed_few : Concluded (committed_first t (settled_all (commit t s))) list book after count → count ≤ 64
    committed_few c = omega (arith, c.2, settled_few (commit t s) (commit_count s t statuses accepted.active))

  -- ---- The replies

  module _ {book : List ℕ} where
    -- The book holds what is left once transactions have ended, and list and count name those that committed.
    concludes : (said : ℕ → Reply) (r : Settlement) {after : List ℕ} {count : ℕ} → Concluded r list book after count
        → served book (outcome (said count) after []) ≡ concluded base said list r
    concludes said r c =
        ap₂ (λ (x : List ℕ × List ℕ) (n : ℕ). served x.0 (outcome (said n) x.1 [])) (λ i. (c.0 i, c.1 i)) c.2

    module _ {after : List ℕ} {count : ℕ} where
      pub cancelled : Concluded (settled_all (ended t s)) list book after count
          → served book (outcome (replies.cancelled count) after []) ≡ cancel base whether_sound w t list
      cancelled c = concludes replies.cancelled (settled_all (ended t s)) c ∙ sym (cancelling w t list none)

      pub circle : OnCycle s t → Concluded (settled_all (ended t s)) list book after count
          → served book (outcome (replies.circle count) after []) ≡ finish base whether_sound w t list
      circle on c =
          concludes replies.circle (settled_all (ended t s)) c
          ∙ sym (on_circle s t list on) ∙ sym (finishing w t list none)

      pub committed : (OnCycle s t → ⊥) → Ready s.log t
          → Concluded (committed_first t (settled_all (commit t s))) list book after count
          → served book (outcome (replies.committed count) after []) ≡ finish base whether_sound w t list
      committed off ready c =
          concludes replies.committed (committed_first t (settled_all (commit t s))) c
          ∙ sym (on_nobody s t list (off, ready)) ∙ sym (finishing w t list none)

    pub finished : (OnCycle s t → ⊥) → (Ready s.log t → ⊥) → book ≡ encode base (pseudo_commit t s)
        → served book (outcome replies.finished list []) ≡ finish base whether_sound w t list
    finished off depends written =
        ap (λ (x : List ℕ). served x (outcome replies.finished list [])) written
        ∙ sym (on_others s t list (off, depends)) ∙ sym (finishing w t list none)
