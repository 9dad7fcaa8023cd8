-- The pseudo-committed transaction of lowest rank that depends on nobody, found among all of them in turn.
use Rattle.std.specs.Prelude.{ℕ, ◌+◌, ◌<◌, ◌≡◌, refl, Bool, true, not, ◌&&◌, ◌↔◌, List, eqb, ltb, IfSome}
use Rattle.std.specs.Prelude.{Option, None, Some}
use Rattle.std.proofs.Common.{sym, ap, ◌∙◌, arith, ltb-true, ltb-false}
use Rattle.operations.proofs.Laws.Cases.{split, same, by_key}
use Rattle.bitset.specs.Bitset.{has, In, Members, Represents}
use Rattle.bitset.specs.Laws.{nobody_in, in_rest}
use Rattle.graph.specs.Edges.{EdgeIn}
use Rattle.store.specs.Store.{pseudo_committed, Store, status_of, PseudoCommitted}
use Rattle.store.specs.Dependency.{DependsOn, Ready}
use Rattle.store.specs.Layout.{Packed, base, decode, status_word, word}
use Rattle.store.specs.Soundness.{OnceEach, WithoutGaps}
use Rattle.store.proofs.Theorems.{representable}
use Rattle.store.proofs.Laws.Encoding.{status_written}
use Rattle.store.proofs.Laws.Reading.{status_by_word}
use Rattle.protocol.specs.Ending.{lowest_ready}
use Rattle.protocol.proofs.Laws.Settling.{lowest_found, none_ready, lowest_is}
use Rattle.statuses.specs.Laws.Words.{finished_below}
use Rattle.ending.specs.Ending.{named, Before}

-- It depends on nobody, as its set tells.
pub ready_tested : (sets : List ℕ) (s : Store) (t : ℕ) → Represents sets (DependsOn s.log)
    → (b : Bool) → (b ≡ true) ↔ ((u : ℕ) → EdgeIn sets t u → ⊥) → (b ≡ true) ↔ Ready s.log t
ready_tested sets s t edges b test =
    (λ e u d. test.0 e u ((edges t u).1 d), λ ready. test.1 (λ u m. ready u ((edges t u).0 m)))

module _ (w : List ℕ) where
  abbrev s : Store
  s = decode base w

  -- One that may be the lowest ready one.
  abbrev Candidate : ℕ → Type 0
  Candidate t = PseudoCommitted s t × Ready s.log t

  -- Of those that are not left, none is before the lowest found; those that are left are pseudo-committed.
  pub record LeastPassed (left : ℕ) (lowest : Option ℕ) : Type 0 where
    pub found : IfSome lowest Candidate
    pub within : (u : ℕ) → In left u → PseudoCommitted s u
    pub least : (u : ℕ) → (In left u → ⊥) → Candidate u → Before w u lowest → ⊥

  pub found_below : (left : ℕ) (lowest : Option ℕ) → LeastPassed left lowest → IfSome lowest (λ t. t < 64)
  found_below left None h = tt
  found_below left (Some t) h = finished_below w t h.found.0

  module _ (left next rest : ℕ) (m : In left next)
      (removed : Members rest (λ u. has left u && not (eqb u next))) where
    passed : (u : ℕ) → (In rest u → ⊥) → (u ≡ next → ⊥) → In left u → ⊥
    passed u out other k = out ((in_rest rest left next removed u).1 (k, other))

    -- It is before the lowest found, and depends on nobody.
    pub least_lower : (lowest : Option ℕ) → LeastPassed left lowest → Ready s.log next → Before w next lowest
        → LeastPassed rest (Some next)
    least_lower lowest h ready before =
        record {
          found = (h.within next m, ready);
          within = λ u k. h.within u ((in_rest rest left next removed u).0 k).0;
          least =
              λ (u : ℕ) (out : In rest u → ⊥) (own : Candidate u) (lower : Before w u (Some next)).
              same u next (λ (e : u ≡ next). omega (arith, lower, ap (λ (x : ℕ). word w (1 + x)) e))
              (λ (other : u ≡ next → ⊥).
              h.least u (passed u out other) own (before_both lowest u lower before));
        }
      where
        before_both : (lowest : Option ℕ) (u : ℕ) → Before w u (Some next) → Before w next lowest → Before w u lowest
        before_both None u lower before = tt
        before_both (Some t) u lower before = omega (arith, lower, before)

    -- It is not before it, or depends on somebody.
    pub least_kept : (lowest : Option ℕ) → LeastPassed left lowest → (Ready s.log next → Before w next lowest → ⊥)
        → LeastPassed rest lowest
    least_kept lowest h neither =
        record {
          found = h.found;
          within = λ u k. h.within u ((in_rest rest left next removed u).0 k).0;
          least =
              λ (u : ℕ) (out : In rest u → ⊥).
              by_key (λ (x : ℕ). Candidate x → Before w x lowest → ⊥) u next (λ own. neither own.1)
              (λ (other : u ≡ next → ⊥). h.least u (passed u out other));
        }

  -- The word of a pseudo-committed one is its rank and 2.
  rank_is : (t r : ℕ) → status_of s t ≡ pseudo_committed r → word w (1 + t) ≡ 2 + r
  rank_is t r f =
      omega (
        arith,
        ap status_word (sym (status_by_word base w t (word w (1 + t)) (finished_below w t (r, f)) refl) ∙ f),
        status_written (word w (1 + t)),
      )

  module _ (p : Packed base w) (once : OnceEach s) (gapless : WithoutGaps s) where
    -- Where none is left, it is the lowest ready one.
    pub least_named : (left : ℕ) → left ≡ 0 → (lowest : Option ℕ) → LeastPassed left lowest
        → named lowest ≡ lowest_ready s
    least_named left empty None h =
        sym ((none_ready s (representable w p).statuses once gapless).1
        (λ t q ready. h.least t (nobody_in left t empty) (q, ready) tt))
    least_named left empty (Some t) h =
        let ((rank, ranked), ready) = h.found in
        sym (lowest_found s (representable w p).statuses once gapless t
        (record {
          rank = rank;
          ranked = ranked;
          ready = ready;
          lowest = λ u r f own.
              split (ltb r rank)
              (λ (k : ltb r rank ≡ true).
              absurd (h.least u (nobody_in left u empty) ((r, f), own)
              (omega (arith, rank_is u r f, rank_is t rank ranked, ltb-true r rank k))))
              (ltb-false r rank);
        }))

  -- The one that is named is a transaction.
  pub named_below : Packed base w → (t : ℕ) → named (Some t) ≡ lowest_ready s → t < 64
  named_below p t e =
      let lowest = lowest_is s (representable w p).statuses t (sym e) in
      finished_below w t (lowest.rank, lowest.ranked)
