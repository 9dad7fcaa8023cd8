-- The words that `end` and `pseudo_commit` write, one change after the other.
use Rattle.std.specs.Prelude.{ℕ, ◌+◌, ◌-◌, ◌<◌, ◌≤◌, ◌≡◌, refl, List}
use Rattle.std.proofs.Common.{sym, ap, ◌∙◌, arith}
use Rattle.bitset.specs.Laws.{bit}
use Rattle.store.specs.Store.{Status, absent, pseudo_committed, Store, status_of, pseudo_committed_count}
use Rattle.store.specs.Layout.{Packed, base, decode, encode, read_status, word}
use Rattle.store.specs.Steps.{dropped, with_status, closed_up}
use Rattle.store.proofs.Laws.Changes.{representable_status, representable_dropped}
use Rattle.store.proofs.Laws.Reading.{status_by_word}
use Rattle.store.proofs.Theorems.{representable}
use Rattle.protocol.specs.Ending.{closed_after, ended}
use Rattle.protocol.proofs.Laws.Ranks.{count_within}
use Rattle.statuses.specs.Laws.Words.{finished_read}
use Rattle.ending.specs.Ending.{pseudo_commit}
use Rattle.ending.specs.Laws.Books.{Encodes, held, is_decoded, changed}

module _ (w : List ℕ) (p : Packed base w) (t : ℕ) where
  abbrev left : Store
  left = with_status t absent (dropped t (decode base w))

  module _ (removed : List ℕ) (e : removed ≡ encode base (dropped t (decode base w))) where
    pub without_entries : Encodes removed (dropped t (decode base w))
    without_entries =
        let h = held w p in
        changed w (decode base w) h (dropped t) removed e (representable_dropped (decode base w) h.fits t)

    pub without_status : (after : List ℕ) → after ≡ encode base (with_status t absent (decode base removed))
        → Encodes after left
    without_status after f =
        let h = without_entries in
        let s = dropped t (decode base w) in
        changed removed s h (with_status t absent) after f (representable_status s h.fits t absent)

  module _ (status : ℕ) (l : t < 64) (e : status ≡ word w (1 + t)) where
    status_is : status_of (decode base w) t ≡ read_status status
    status_is = status_by_word base w t status l e

    -- Ranks close up after one that had a rank,
    pub ranked_ended : (before after : List ℕ) → Encodes before left → 2 ≤ status
        → after ≡ encode base (closed_up (status - 2) (decode base before))
        → after ≡ encode base (ended t (decode base w))
    ranked_ended before after h ranked f =
        f ∙ ap (λ (s : Store). encode base (closed_up (status - 2) s)) (is_decoded before left h)
        ∙ ap (λ (x : Status). encode base (closed_after x left)) (sym (status_is ∙ finished_read status ranked))

    -- and stay after another.
    pub unranked_ended : (after : List ℕ) → Encodes after left → status < 2
        → after ≡ encode base (ended t (decode base w))
    unranked_ended after h unranked =
        h.words
        ∙ ap (encode base) (bit (λ x. left ≡ closed_after (read_status x) left) refl refl status unranked)
        ∙ ap (λ (x : Status). encode base (closed_after x left)) (sym status_is)

module _ (w : List ℕ) (rank : ℕ) (next : rank ≡ pseudo_committed_count (decode base w)) where
  pub rank_few : Packed base w → rank ≤ 64
  rank_few p = omega (arith, next, count_within (decode base w).statuses, (representable w p).statuses)

  -- The next rank, as the word of a status says it.
  pub pseudo_committed_lem : (t : ℕ) (after : List ℕ)
      → after ≡ encode base (with_status t (read_status (2 + rank)) (decode base w))
      → after ≡ encode base (pseudo_commit t (decode base w))
  pseudo_committed_lem t after written =
      let status : read_status (2 + rank) ≡ pseudo_committed (pseudo_committed_count (decode base w)) =
      finished_read (2 + rank) (omega arith) ∙ ap pseudo_committed (omega (arith, next)) in
      written ∙ ap (λ (x : Status). encode base (with_status t x (decode base w))) status
