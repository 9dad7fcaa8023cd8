-- Ranks are 0, 1, 2 and on, as many as there are pseudo-committed transactions, and stay so when one has ended.
use Rattle.std.specs.Prelude.{ℕ, zero, suc, ◌+◌, ◌-◌, ◌<◌, ◌≤◌, ◌≡◌, refl, true, false, cond, ◌↔◌, List, [], ◌∷◌, map}
use Rattle.std.specs.Prelude.{ltb, length, get_or, set}
use Rattle.std.proofs.Common.{sym, ap, ◌∙◌, not-suc-le-zero, lt_of_not-le, arith, ltb-true, ltb-false, lt-ltb, le-ltb}
use Rattle.operations.proofs.Laws.Cases.{split, same}
use Rattle.store.specs.Store.{Status, absent, active, pseudo_committed, Store, status_of, Active, PseudoCommitted}
use Rattle.store.specs.Store.{pseudo_committed_in, pseudo_committed_count}
use Rattle.store.specs.Layout.{status_word}
use Rattle.store.specs.Soundness.{OnceEach, WithoutGaps}
use Rattle.store.specs.Steps.{dropped, with_status, lowered, closed_up}
use Rattle.store.proofs.Laws.Statuses.{absent_unranked, active_unranked, same_rank}
use Rattle.store.proofs.Laws.Changes.{status_other, status_removed, status_closed}
use Rattle.protocol.specs.Ending.{closed_after, ended}
use mathlib.Core.Logic.Iff

-- ---- One rank taken out

-- The rank that has become r when one with this status ended.
abbrev raised : Status → ℕ → ℕ
raised absent r = r
raised active r = r
raised (pseudo_committed out) r = cond (ltb r out) r (suc r)

raised_rising : (status : Status) (q r : ℕ) → q < r → raised status q < raised status r
raised_rising absent q r l = l
raised_rising active q r l = l
raised_rising (pseudo_committed out) q r l =
    split (ltb r out)
    (λ (e : ltb r out ≡ true). rw (e, lt-ltb q out (omega (arith, ltb-true r out e))) l)
    (λ (e : ltb r out ≡ false).
    split (ltb q out) (λ (f : ltb q out ≡ true). rw (e, f) (omega arith))
    (λ (f : ltb q out ≡ false). rw (e, f) (omega arith)))

raised_order : (status : Status) (i j : ℕ) → (i < j) ↔ (raised status i < raised status j)
raised_order status i j = (
  raised_rising status i j,
  λ l. lt_of_not-le (λ (m : j ≤ i).
      same j i (λ (e : j ≡ i). let f = ap (raised status) e in omega (arith, f, l))
      (λ (other : j ≡ i → ⊥). let f = raised_rising status j i (omega (arith, m, other)) in omega (arith, f, l))),
)

module _ (out : ℕ) where
  raised_other : (r : ℕ) → raised (pseudo_committed out) r ≡ out → ⊥
  raised_other r e =
      split (ltb r out)
      (λ (b : ltb r out ≡ true). let f : r ≡ out = rw b at e in omega (arith, ltb-true r out b))
      (λ (b : ltb r out ≡ false). let f : suc r ≡ out = rw b at e in omega (arith, ltb-false r out b))

  lowered_raised : (r : ℕ) → lowered out (pseudo_committed (raised (pseudo_committed out) r)) ≡ pseudo_committed r
  lowered_raised r =
      split (ltb r out)
      (λ (e : ltb r out ≡ true). rw (e, le-ltb out r (omega (arith, ltb-true r out e))))
      (λ (e : ltb r out ≡ false). rw (e, lt-ltb out (suc r) (omega (arith, ltb-false r out e)))
      (ap pseudo_committed (omega arith)))

  raised_lowered : (x r : ℕ) → (x ≡ out → ⊥) → lowered out (pseudo_committed x) ≡ pseudo_committed r
      → x ≡ raised (pseudo_committed out) r
  raised_lowered x r other e =
      let f : cond (ltb out x) (x - 1) x ≡ r = same_rank _ r e in
      split (ltb out x)
      (λ (b : ltb out x ≡ true). let g : x - 1 ≡ r = rw b at f in
      rw (le-ltb r out (omega (arith, ltb-true out x b))) (omega (arith, ltb-true out x b)))
      (λ (b : ltb out x ≡ false). let g : x ≡ r = rw b at f in rw (lt-ltb r out (omega (arith, ltb-false out x b))) g)

  before_lowered : (status : Status) (r : ℕ) → (status ≡ pseudo_committed out → ⊥)
      → lowered out status ≡ pseudo_committed r
      → status ≡ pseudo_committed (raised (pseudo_committed out) r)
  before_lowered absent r other e = absurd (absent_unranked r e)
  before_lowered active r other e = absurd (active_unranked r e)
  before_lowered (pseudo_committed x) r other e =
      ap pseudo_committed (raised_lowered x r (λ q. other (ap pseudo_committed q)) e)

-- Of two with a rank in both stores, the one is below the other in the one store exactly if it is in the other.
abbrev pub SameOrder : Store → Store → Type 0
SameOrder s x = (u v p q i j : ℕ) → status_of s u ≡ pseudo_committed p → status_of s v ≡ pseudo_committed q
    → status_of x u ≡ pseudo_committed i → status_of x v ≡ pseudo_committed j → (i < j) ↔ (p < q)

pub order_itself : (s : Store) → SameOrder s s
order_itself s u v p q i j e f g h =
    let before-u : p ≡ i = same_rank p i (sym e ∙ g) in
    let before-v : q ≡ j = same_rank q j (sym f ∙ h) in
    rw (before-u, before-v) Iff.rfl

module _ (s : Store) (t : ℕ) where
  abbrev left : Store
  left = with_status t absent (dropped t s)

  remains : (u r : ℕ) → status_of left u ≡ pseudo_committed r → (u ≡ t → ⊥) × (status_of s u ≡ pseudo_committed r)
  remains u r e =
      same u t (λ q. absurd (absent_unranked r (sym (status_removed (dropped t s) t) ∙ ap (status_of left) (sym q)
      ∙ e)))
      (λ other. (other, sym (status_other (dropped t s) t absent u other) ∙ e))

  another : (status : Status) → status_of s t ≡ status → (u r : ℕ) → status_of s u ≡ pseudo_committed (raised status r)
      → u ≡ t → ⊥
  another absent own u r e q = absent_unranked r (sym own ∙ ap (status_of s) (sym q) ∙ e)
  another active own u r e q = active_unranked r (sym own ∙ ap (status_of s) (sym q) ∙ e)
  another (pseudo_committed out) own u r e q =
      raised_other out r (same_rank _ _ (sym (sym own ∙ ap (status_of s) (sym q) ∙ e)))

  after : (status : Status) → status_of s t ≡ status → (u r : ℕ) → status_of s u ≡ pseudo_committed (raised status r)
      → status_of (closed_after status left) u ≡ pseudo_committed r
  after absent own u r e = status_other (dropped t s) t absent u (another absent own u r e) ∙ e
  after active own u r e = status_other (dropped t s) t absent u (another active own u r e) ∙ e
  after (pseudo_committed out) own u r e =
      status_closed left out u
      ∙ ap (lowered out) (status_other (dropped t s) t absent u (another (pseudo_committed out) own u r e) ∙ e)
      ∙ lowered_raised out r

  module _ (once : OnceEach s) where
    before : (status : Status) → status_of s t ≡ status → (u r : ℕ)
        → status_of (closed_after status left) u ≡ pseudo_committed r
        → status_of s u ≡ pseudo_committed (raised status r)
    before absent own u r e = (remains u r e).1
    before active own u r e = (remains u r e).1
    before (pseudo_committed out) own u r e =
        (remains u (raised (pseudo_committed out) r)
        (before_lowered out (status_of left u) r
        (λ (f : status_of left u ≡ pseudo_committed out). let w = remains u out f in w.0 (once u t out w.1 own))
        (sym (status_closed left out u) ∙ e))).1

    -- Who has which rank once t has ended.
    ended_rank : (u r : ℕ) → (status_of (ended t s) u ≡ pseudo_committed r)
        ↔ (status_of s u ≡ pseudo_committed (raised (status_of s t) r))
    ended_rank u r = (before (status_of s t) refl u r, after (status_of s t) refl u r)

    pub ended_order : SameOrder s (ended t s)
    ended_order u v p q i j e f g h =
        let before-u : p ≡ raised (status_of s t) i = same_rank p _ (sym e ∙ (ended_rank u i).0 g) in
        let before-v : q ≡ raised (status_of s t) j = same_rank q _ (sym f ∙ (ended_rank v j).0 h) in
        rw (before-u, before-v) (raised_order (status_of s t) i j)

    pub ended_once : OnceEach (ended t s)
    ended_once u v r e f = once u v (raised (status_of s t) r) ((ended_rank u r).0 e) ((ended_rank v r).0 f)

    pub ended_gapless : WithoutGaps s → WithoutGaps (ended t s)
    ended_gapless gapless u r lower e l =
        let w =
        gapless u (raised (status_of s t) r) (raised (status_of s t) lower) ((ended_rank u r).0 e)
        (raised_rising (status_of s t) lower r l) in
        (w.0, (ended_rank w.0 lower).1 w.1)

-- What holds of a store, and once ranks have closed up, holds whatever status the one had that ended.
pub closed_any : (P : Store → Type 0) (s : Store) → P s → ((out : ℕ) → P (closed_up out s)) → (status : Status)
    → P (closed_after status s)
closed_any P s p closed absent = p
closed_any P s p closed active = p
closed_any P s p closed (pseudo_committed out) = closed out

-- ---- How many are pseudo-committed

count_lowered : (out : ℕ) (l : List Status) → pseudo_committed_in (map (lowered out) l) ≡ pseudo_committed_in l
count_lowered out [] = refl
count_lowered out (absent ∷ l) = count_lowered out l
count_lowered out (active ∷ l) = count_lowered out l
count_lowered out (pseudo_committed rank ∷ l) = ap suc (count_lowered out l)

count_set : (l : List Status) (i : ℕ)
    → pseudo_committed_in (set l i absent) + pseudo_committed_in (get_or l i absent ∷ []) ≡ pseudo_committed_in l
count_set [] i = refl
count_set (absent ∷ l) zero = omega arith
count_set (active ∷ l) zero = omega arith
count_set (pseudo_committed rank ∷ l) zero = omega arith
count_set (absent ∷ l) (suc i) = count_set l i
count_set (active ∷ l) (suc i) = count_set l i
count_set (pseudo_committed rank ∷ l) (suc i) = omega (arith, count_set l i)

module _ (s : Store) (t : ℕ) where
  count_ended : pseudo_committed_count (ended t s) + pseudo_committed_in (status_of s t ∷ []) ≡ pseudo_committed_count s
  count_ended =
      let closed =
      closed_any (λ (x : Store). pseudo_committed_count x ≡ pseudo_committed_count (left s t)) (left s t) refl
      (λ out. count_lowered out (left s t).statuses)
      (status_of s t) in
      omega (arith, closed, count_set s.statuses t)

  pub count_falls : PseudoCommitted s t → suc (pseudo_committed_count (ended t s)) ≡ pseudo_committed_count s
  count_falls (rank, e) = omega (arith, count_ended, ap (λ (x : Status). pseudo_committed_in (x ∷ [])) e)

  count_kept : Active s t → pseudo_committed_count (ended t s) ≡ pseudo_committed_count s
  count_kept e = omega (arith, count_ended, ap (λ (x : Status). pseudo_committed_in (x ∷ [])) e)

-- ---- Ranks are the numbers below that

some_counted : (l : List Status) → 0 < pseudo_committed_in l → (t rank : ℕ) × (get_or l t absent
    ≡ pseudo_committed rank)
some_counted [] p = absurd (not-suc-le-zero p)
some_counted (absent ∷ l) p = let w = some_counted l p in (suc w.0, w.1, w.2)
some_counted (active ∷ l) p = let w = some_counted l p in (suc w.0, w.1, w.2)
some_counted (pseudo_committed rank ∷ l) p = (0, rank, refl)

-- Where one has a rank, one has rank 0.
lowest : (s : Store) → WithoutGaps s → 0 < pseudo_committed_count s → (t : ℕ) × (status_of s t ≡ pseudo_committed 0)
lowest s gapless p = descend (some_counted s.statuses p)
  where
    descend : (t rank : ℕ) × (status_of s t ≡ pseudo_committed rank) → (t : ℕ) × (status_of s t ≡ pseudo_committed 0)
    descend (t, zero, e) = (t, e)
    descend (t, suc rank, e) = gapless t (suc rank) 0 e (omega arith)

-- The one of rank 0 taken out, each rank is one less.
ended_lowest : (s : Store) (t : ℕ) → OnceEach s → status_of s t ≡ pseudo_committed 0 → (r u : ℕ)
    → (status_of (ended t s) u ≡ pseudo_committed r) ↔ (status_of s u ≡ pseudo_committed (suc r))
ended_lowest s t once e r u =
    let one_less : raised (status_of s t) r ≡ suc r =
    ap (λ (x : Status). raised x r) e ∙ rw (le-ltb r 0 (omega arith)) in
    rw one_less at (ended_rank s t once u r)

counted : (n : ℕ) (s : Store) → pseudo_committed_count s ≡ n → OnceEach s → WithoutGaps s → (r : ℕ)
    → (r < n) ↔ ((u : ℕ) × (status_of s u ≡ pseudo_committed r))
counted zero s c once gapless r =
    (λ l. absurd (not-suc-le-zero l), λ w. absurd (omega (arith, count_falls s w.0 (r, w.1))))
counted (suc n) s c once gapless zero = (λ l. lowest s gapless (omega arith), λ w. omega arith)
counted (suc n) s c once gapless (suc r) =
    let w = lowest s gapless (omega arith) in
    let t = w.0 in
    let shifted = ended_lowest s t once w.1 r in
    let rest = counted n (ended t s) (omega (arith, count_falls s t (0, w.1))) (ended_once s t once)
    (ended_gapless s t once gapless) r in (
      λ l. let v = rest.0 (omega arith) in (v.0, (shifted v.0).0 v.1),
      λ v. omega (arith, rest.1 (v.0, (shifted v.0).1 v.1)),
    )

pub ranks_counted : (s : Store) → OnceEach s → WithoutGaps s → (r : ℕ)
    → (r < pseudo_committed_count s) ↔ ((u : ℕ) × (status_of s u ≡ pseudo_committed r))
ranks_counted s = counted (pseudo_committed_count s) s refl

pub count_within : (l : List Status) → pseudo_committed_in l ≤ length l
count_within [] = omega arith
count_within (absent ∷ l) = omega (arith, count_within l)
count_within (active ∷ l) = omega (arith, count_within l)
count_within (pseudo_committed rank ∷ l) = omega (arith, count_within l)

-- So there are ranks below 64 alone.
pub rank_below : (s : Store) → length s.statuses ≡ 64 → OnceEach s → WithoutGaps s → (t r : ℕ)
    → status_of s t ≡ pseudo_committed r → r < 64
rank_below s l once gapless t r e = omega (arith, (ranks_counted s once gapless r).1 (t, e), count_within s.statuses)

-- One is active, so not all are pseudo-committed.
fewer : (l : List Status) (t : ℕ) → get_or l t absent ≡ active → pseudo_committed_in l < length l
fewer [] t e = absurd (omega (arith, ap status_word e))
fewer (absent ∷ l) t e = omega (arith, count_within l)
fewer (active ∷ l) t e = omega (arith, count_within l)
fewer (pseudo_committed rank ∷ l) zero e = absurd (omega (arith, ap status_word e))
fewer (pseudo_committed rank ∷ l) (suc t) e = omega (arith, fewer l t e)

pub ended_count : (s : Store) (t : ℕ) → length s.statuses ≡ 64 → Active s t → pseudo_committed_count (ended t s) < 64
ended_count s t l a = omega (arith, count_kept s t a, fewer s.statuses t a, l)
