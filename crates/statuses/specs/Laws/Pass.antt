-- What a pass over the status words has gathered before transaction n, and after all.
use Rattle.std.specs.Prelude.{ℕ, ◌+◌, ◌<◌, ◌≡◌, ◌&&◌, ◌||◌, ◌↔◌, List, eqb, ltb, Option, Some}
use Rattle.bitset.specs.Bitset.{has, Members, Holds}
use Rattle.store.specs.Store.{Live, PseudoCommitted}
use Rattle.store.specs.Soundness.{OnceEach, WithoutGaps}
use Rattle.store.specs.Layout.{base, decode, read_status, word}
use Rattle.store.proofs.Laws.Reading.{status_read, live_below}
use Rattle.statuses.specs.Statuses.{Noted, Ordered}
use Rattle.statuses.specs.Laws.Sets.{Upto, upto_none, upto_next, upto_all}
use Rattle.statuses.specs.Laws.Words.{own_word, own_read, live_test, finished_test, finished_below}
use Rattle.statuses.specs.Laws.Ranks.{Seen, none_seen, next, ended}

module _ (w : List ℕ) where
  pub record Gathered (n live finished : ℕ) (ranks : Option ℕ) : Type 0 where
    pub live_upto : Upto (Live (decode base w)) n live
    pub finished_upto : Upto (PseudoCommitted (decode base w)) n finished
    pub ranks_seen : Seen (decode base w) n ranks

  pub pass_start : Gathered 0 0 0 (Some 0)
  pass_start =
      record {
        live_upto = upto_none (Live (decode base w));
        finished_upto = upto_none (PseudoCommitted (decode base w));
        ranks_seen = none_seen (decode base w);
      }

  module _ (n live finished : ℕ) (ranks : Option ℕ) (gathered : Gathered n live finished ranks) (l : n < 64) where
    pub pass_turn : (live' finished' : ℕ) (ranks' : Option ℕ)
        → Members live' (λ h. has live h || (ltb 0 (own_word w n) && eqb h n))
        → Members finished' (λ h. has finished h || (ltb 1 (own_word w n) && eqb h n))
        → Noted (read_status (own_word w n)) ranks ranks' → Gathered (n + 1) live' finished' ranks'
    pass_turn live' finished' ranks' live-more finished-more noted =
        record {
          live_upto =
              upto_next (Live (decode base w)) n live live' (ltb 0 (word w (1 + n)))
              (live_test w n l) (rw (own_read w n l) at live-more) gathered.live_upto;
          finished_upto =
              upto_next (PseudoCommitted (decode base w)) n finished finished' (ltb 1 (word w (1 + n)))
              (finished_test w n l) (rw (own_read w n l) at finished-more) gathered.finished_upto;
          ranks_seen =
              next (decode base w) (λ t rank p. finished_below w t (rank, p)) n (read_status (word w (1 + n)))
              ranks ranks' (status_read base w n l) (rw (own_read w n l) at noted) gathered.ranks_seen;
        }

  pub pass_end : (n live finished : ℕ) (ranks : Option ℕ) → n ≡ 64 → Gathered n live finished ranks
      → Holds live (Live (decode base w))
      × Holds finished (PseudoCommitted (decode base w))
      × (Ordered ranks ↔ (OnceEach (decode base w) × WithoutGaps (decode base w)))
  pass_end n live finished ranks e gathered =
      let all : Gathered 64 live finished ranks = rw e at gathered in (
        upto_all (Live (decode base w)) 64 live (live_below base w) all.live_upto,
        upto_all (PseudoCommitted (decode base w)) 64 finished (finished_below w) all.finished_upto,
        ended (decode base w) (λ t rank p. finished_below w t (rank, p)) ranks all.ranks_seen,
      )
