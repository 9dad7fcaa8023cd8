-- The pseudo-committed transaction of lowest rank that depends on nobody, and the commits until there is none.
use Rattle.std.specs.Prelude.{ℕ, zero, suc, ◌<◌, ◌≤◌, ◌≡◌, refl, Bool, true, false, cond, ◌&&◌, ◌↔◌, List, [], length}
use Rattle.std.specs.Prelude.{get_or}
use Rattle.std.proofs.Common.{sym, ap, ◌∙◌, subst, not-suc-le-zero, le_of_suc-le-suc, arith, eqb-true, eq-eqb}
use Rattle.std.proofs.lemmas.Bool.{false≢true}
use Rattle.std.proofs.Math.Bool.{decide, decide_iff, and-eq-true_iff}
use Rattle.std.proofs.Math.Option.{Option, none, some, none-ne-some, some-injective}
use Rattle.operations.proofs.Laws.Cases.{split}
use Rattle.store.specs.Store.{Status, absent, active, pseudo_committed, Store, status_of, Live, Active, PseudoCommitted}
use Rattle.store.specs.Store.{pseudo_committed_in, pseudo_committed_count}
use Rattle.store.specs.Dependency.{Ready}
use Rattle.store.specs.Layout.{Representable, base}
use Rattle.store.proofs.Decisions.{whether_ready}
use Rattle.store.specs.Soundness.{OnceEach, WithoutGaps, Dependent, Unsettled, SoundStore}
use Rattle.store.proofs.Laws.Dependencies.{depended_on}
use Rattle.store.proofs.Laws.Statuses.{absent_unranked, active_unranked, same_rank, pseudo_committed_within}
use Rattle.store.proofs.Laws.Graph.{depends_on_some}
use Rattle.store.proofs.Laws.Words.{below}
use Rattle.protocol.specs.Ending.{carried_out, commit, or_else, first_below, has_rank, lowest_ready, Settlement}
use Rattle.protocol.specs.Ending.{settlement, committed_first, perhaps, settled, settled_all}
use Rattle.protocol.proofs.Laws.Ranks.{rank_below, count_falls, ended_count}
use Rattle.protocol.proofs.Laws.Carrying.{carried_statuses}
use Rattle.protocol.proofs.Laws.Ending.{commit_representable, commit_unsettled}
use Rattle.protocol.specs.Terms.{LowestReady}

-- ---- The first that is given

-- It is given for a number, and none for a lower one.
abbrev FirstGiven : (ℕ → Option ℕ) → ℕ → Type 0
FirstGiven f t = (i : ℕ) × (f i ≡ some t) × ((j : ℕ) → j < i → f j ≡ none)

module _ (f : ℕ → Option ℕ) where
  first_later : (t : ℕ) → f 0 ≡ none → FirstGiven (λ i. f (suc i)) t → FirstGiven f t
  first_later t e (i, found, lower) = (suc i, found, earlier)
    where
      earlier : (j : ℕ) → j < suc i → f j ≡ none
      earlier zero l = e
      earlier (suc j) l = lower j (le_of_suc-le-suc l)

  first_of : (t : ℕ) (here later : Option ℕ) → f 0 ≡ here → (later ≡ some t → FirstGiven (λ i. f (suc i)) t)
      → or_else here later ≡ some t → FirstGiven f t
  first_of t none later e rest found = first_later t e (rest found)
  first_of t (some u) later e rest found = (0, e ∙ found, λ j l. absurd (not-suc-le-zero l))

none_of : (here later : Option ℕ) → or_else here later ≡ none → (here ≡ none) × (later ≡ none)
none_of none later e = (refl, e)
none_of (some u) later e = absurd (none-ne-some u (sym e))

first_some : (n : ℕ) (f : ℕ → Option ℕ) (t : ℕ) → first_below n f ≡ some t → FirstGiven f t
unfolding first_below
first_some zero f t e = absurd (none-ne-some t e)
first_some (suc n) f t e = first_of f t (f 0) (first_below n (λ i. f (suc i))) refl (first_some n (λ i. f (suc i)) t) e

first_none : (n : ℕ) (f : ℕ → Option ℕ) → first_below n f ≡ none → (i : ℕ) → i < n → f i ≡ none
unfolding first_below
first_none zero f e i l = absurd (not-suc-le-zero l)
first_none (suc n) f e zero l = (none_of (f 0) (first_below n (λ i. f (suc i))) e).0
first_none (suc n) f e (suc i) l =
    first_none n (λ j. f (suc j)) (none_of (f 0) (first_below n (λ i. f (suc i))) e).1 i (le_of_suc-le-suc l)

-- ---- Of lowest rank among those that depend on nobody

has_rank_lem : (rank : ℕ) (status : Status) → (has_rank rank status ≡ true) ↔ (status ≡ pseudo_committed rank)
has_rank_lem rank absent = (λ e. absurd (false≢true e), λ e. absurd (absent_unranked rank e))
has_rank_lem rank active = (λ e. absurd (false≢true e), λ e. absurd (active_unranked rank e))
has_rank_lem rank (pseudo_committed r) =
    (λ e. ap pseudo_committed (eqb-true r rank e), λ e. eq-eqb r rank (same_rank r rank e))

module _ (s : Store) where
  abbrev chosen : ℕ → ℕ → Bool
  chosen rank t = has_rank rank (status_of s t) && decide (whether_ready s.log t)

  abbrev candidate : ℕ → ℕ → Option ℕ
  candidate rank t = cond (chosen rank t) (some t) none

  is_chosen : (rank t : ℕ) → (chosen rank t ≡ true) ↔ ((status_of s t ≡ pseudo_committed rank) × Ready s.log t)
  is_chosen rank t =
      let both = and-eq-true_iff (has_rank rank (status_of s t)) (decide (whether_ready s.log t)) in
      let ranked = has_rank_lem rank (status_of s t) in
      let ready = decide_iff (whether_ready s.log t) in (
        λ e. (ranked.0 (both.0 e).0, ready.0 (both.0 e).1),
        λ h. both.1 (ranked.1 h.0, ready.1 h.1),
      )

  candidate_some : (rank u t : ℕ) → candidate rank u ≡ some t → (status_of s t ≡ pseudo_committed rank) × Ready s.log t
  candidate_some rank u t e =
      split (chosen rank u)
      (λ (b : chosen rank u ≡ true). let f : some u ≡ some t = rw b at e in
      subst (λ (x : ℕ). (status_of s x ≡ pseudo_committed rank) × Ready s.log x) (some-injective u t f)
      ((is_chosen rank u).0 b))
      (λ (b : chosen rank u ≡ false). let f : none ≡ some t = rw b at e in absurd (none-ne-some t f))

  candidate_none : (rank u : ℕ) → candidate rank u ≡ none → status_of s u ≡ pseudo_committed rank → Ready s.log u → ⊥
  candidate_none rank u e ranked ready =
      let f : some u ≡ none = rw ((is_chosen rank u).1 (ranked, ready)) at e in
      none-ne-some u (sym f)

  module _ (l : length s.statuses ≡ 64) where
    -- None of a rank is ready where none below 64 is given for it.
    unready : (r : ℕ) → first_below 64 (candidate r) ≡ none → (u : ℕ) → status_of s u ≡ pseudo_committed r
        → Ready s.log u → ⊥
    unready r e u ranked =
        candidate_none r u (first_none 64 (candidate r) e u (omega (arith, pseudo_committed_within s u (r, ranked))))
        ranked

    pub lowest_is : (t : ℕ) → lowest_ready s ≡ some t → LowestReady s t
    unfolding lowest_ready
    lowest_is t e =
        let outer = first_some 64 (λ rank. first_below 64 (candidate rank)) t e in
        let inner = first_some 64 (candidate outer.0) t outer.1 in
        let own = candidate_some outer.0 inner.0 t inner.1 in
        record {
          rank = outer.0;
          ranked = own.0;
          ready = own.1;
          lowest = λ u r ranked ready. below r outer.0 (λ m. absurd (unready r (outer.2 r m) u ranked ready))
              (λ m. m);
        }

    module _ (once : OnceEach s) (gapless : WithoutGaps s) where
      none_left : lowest_ready s ≡ none → (t : ℕ) → PseudoCommitted s t → Ready s.log t → ⊥
      unfolding lowest_ready
      none_left e t (r, ranked) =
          unready r (first_none 64 (λ rank. first_below 64 (candidate rank)) e r
          (rank_below s l once gapless t r ranked)) t ranked

      pub none_ready : (lowest_ready s ≡ none) ↔ ((t : ℕ) → PseudoCommitted s t → Ready s.log t → ⊥)
      none_ready = (none_left, none_found (lowest_ready s) refl)
        where
          none_found : (x : Option ℕ) → lowest_ready s ≡ x → ((t : ℕ) → PseudoCommitted s t → Ready s.log t → ⊥)
              → lowest_ready s ≡ none
          none_found none e h = e
          none_found (some t) e h = let w = lowest_is t e in absurd (h t (w.rank, w.ranked) w.ready)

      pub lowest_found : (t : ℕ) → LowestReady s t → lowest_ready s ≡ some t
      lowest_found t w = answer (lowest_ready s) refl
        where
          answer : (x : Option ℕ) → lowest_ready s ≡ x → lowest_ready s ≡ some t
          answer none e = absurd (none_ready.0 e t (w.rank, w.ranked) w.ready)
          answer (some u) e =
              let v = lowest_is u e in
              let equal : w.rank ≡ v.rank =
              omega (
                arith,
                w.lowest u v.rank v.ranked v.ready,
                v.lowest t w.rank w.ranked w.ready,
              ) in
              e ∙ ap some (once u t v.rank v.ranked (w.ranked ∙ ap pseudo_committed equal))

-- ---- The commits until none is ready

-- One that commits leaves one pseudo-committed transaction less.
pub count_committed : (s : Store) (t : ℕ) → PseudoCommitted s t
    → suc (pseudo_committed_count (commit t s)) ≡ pseudo_committed_count s
count_committed s t p =
    let kept = carried_statuses t s.log s in
    count_falls (carried_out t s.log s) t (rw kept p) ∙ ap pseudo_committed_in kept

pub commit_count : (s : Store) (t : ℕ) → length s.statuses ≡ 64 → Active s t → pseudo_committed_count (commit t s) < 64
commit_count s t l a =
    let kept = carried_statuses t s.log s in
    ended_count (carried_out t s.log s) t (ap (λ (x : List Status). length x) kept ∙ l)
    (ap (λ (x : List Status). get_or x t absent) kept ∙ a)

few : (n : ℕ) (s : Store) → length (settled n s).committed ≤ n
few zero s = omega arith
few (suc n) s = turn (lowest_ready s) (λ t. few n (commit t s))
  where
    turn : (next : Option ℕ) → ((t : ℕ) → length (settled n (commit t s)).committed ≤ n)
        → length (perhaps next (settlement s []) (λ t. committed_first t (settled n (commit t s)))).committed ≤ suc n
    turn none later = omega arith
    turn (some t) later = omega (arith, later t)

-- Few enough for any count.
pub settled_few : (s : Store) → pseudo_committed_count s < 64 → length (settled_all s).committed < 64
settled_few s l = omega (arith, few (pseudo_committed_count s) s, l)

pub settled_end : (s : Store) → lowest_ready s ≡ none → settled_all s ≡ settlement s []
settled_end s e = any_turns (pseudo_committed_count s)
  where
    any_turns : (n : ℕ) → settled n s ≡ settlement s []
    any_turns zero = refl
    any_turns (suc n) = rw e

pub settled_step : (s : Store) → length s.statuses ≡ 64 → (t : ℕ) → lowest_ready s ≡ some t
    → settled_all s ≡ committed_first t (settled_all (commit t s))
settled_step s l t e =
    let w = lowest_is s l t e in
    rw (sym (count_committed s t (w.rank, w.ranked)), e)

-- What holds where none is ready, and of a store where it holds of what the first commit leaves.
module _ (P : Store → Settlement → Type 0)
    (at_end : (s : Store) → Representable base s → Unsettled base s → lowest_ready s ≡ none → P s (settlement s []))
    (at-commit : (s : Store) (t : ℕ) → Unsettled base s → LowestReady s t → (r : Settlement) → P (commit t s) r
    → P s (committed_first t r)) where
  settles : (n : ℕ) (s : Store) → pseudo_committed_count s ≡ n → Representable base s → Unsettled base s
      → P s (settled n s)
  settles zero s c r h =
      at_end s r h ((none_ready s r.statuses h.once h.gapless).1
      (λ t p ready. absurd (omega (arith, count_committed s t p))))
  settles (suc n) s c r h =
      turn (lowest_ready s) refl (λ t p. settles n (commit t s) (omega (arith, count_committed s t p)))
    where
      turn : (next : Option ℕ) → lowest_ready s ≡ next
          → ((t : ℕ) → PseudoCommitted s t → Representable base (commit t s) → Unsettled base (commit t s)
          → P (commit t s) (settled n (commit t s)))
          → P s (perhaps next (settlement s []) (λ t. committed_first t (settled n (commit t s))))
      turn none e later = at_end s r h e
      turn (some t) e later =
          let w = lowest_is s r.statuses t e in
          at-commit s t h w (settled n (commit t s)) (later t (w.rank, w.ranked) (commit_representable s t r h)
          (commit_unsettled s t h w.ready))

  pub all_settle : (s : Store) → Representable base s → Unsettled base s → P s (settled_all s)
  all_settle s = settles (pseudo_committed_count s) s refl

pub settled_kept : (s : Store) → Representable base s → Unsettled base s
    → SoundStore base (settled_all s).store × Representable base (settled_all s).store
settled_kept =
    all_settle (λ (s : Store) (r : Settlement). SoundStore base r.store × Representable base r.store)
    (λ s r h e. (record { unsettled = h; dependent = dependent s r h e }, r)) (λ s t h w r kept. kept)
  where
    dependent : (s : Store) → Representable base s → Unsettled base s → lowest_ready s ≡ none → Dependent s
    dependent s r h e t p =
        let d = depends_on_some s.log t ((none_ready s r.statuses h.once h.gapless).0 e t p) in
        (d.0, depended_on (Live s) t d.0 s.log h.live d.1, d.1)
