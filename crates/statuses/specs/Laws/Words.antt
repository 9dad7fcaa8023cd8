-- What a status word says.
use Rattle.std.specs.Prelude.{ℕ, zero, suc, ◌+◌, ◌-◌, ◌<◌, ◌≤◌, ◌≡◌, refl, true, ◌↔◌, List, ltb, Option}
use Rattle.std.proofs.Common.{ap, ◌∙◌, arith, ltb-true, lt-ltb, get_or, take, drop, get_or-drop, length, length-drop}
use Rattle.std.proofs.Common.{length-take-le}
use Rattle.std.proofs.lemmas.List.{get_or-take}
use Rattle.std.proofs.lemmas.Bool.{false≢true}
use Rattle.bitset.specs.Laws.{bit}
use Rattle.store.specs.Store.{absent, pseudo_committed, Live, PseudoCommitted}
use Rattle.store.specs.Layout.{BookLong, base, decode, status_word, read_status, word}
use Rattle.store.proofs.Laws.Encoding.{status_written}
use Rattle.store.proofs.Laws.Reading.{status_read, live_below}
use Rattle.store.proofs.Laws.Statuses.{pseudo_committed_live}
use Rattle.statuses.specs.Statuses.{Noted}

-- The word of transaction t, in the part of the book that has the statuses.
abbrev pub own_word : List ℕ → ℕ → ℕ
own_word w t = get_or (take 64 (drop 1 w)) t 0

pub own_words : (w : List ℕ) → BookLong w → length (take 64 (drop 1 w)) ≡ 64
own_words w long = length-take-le 64 (drop 1 w) (rw length-drop (omega arith))

pub own_read : (w : List ℕ) (t : ℕ) → t < 64 → own_word w t ≡ word w (1 + t)
own_read w t l = get_or-take 64 (drop 1 w) t 0 l ∙ get_or-drop 1 w t 0

pub finished_read : (x : ℕ) → 2 ≤ x → read_status x ≡ pseudo_committed (x - 2)
finished_read zero l = absurd (omega arith)
finished_read (suc zero) l = absurd (omega arith)
finished_read (suc (suc rank)) l = ap pseudo_committed (omega arith)

live_word : (x : ℕ) → (ltb 0 x ≡ true) ↔ (read_status x ≡ absent → ⊥)
live_word zero = (λ h. absurd (false≢true h), λ p. absurd (p refl))
live_word (suc x) = (
  λ h e. omega (arith, ap status_word e, status_written (suc x)),
  λ p. lt-ltb 0 (suc x)
      (omega arith),
)

finished_word : (x : ℕ) → (ltb 1 x ≡ true) ↔ ((rank : ℕ) × (read_status x ≡ pseudo_committed rank))
finished_word x = (
  λ h. (x - 2, finished_read x (ltb-true 1 x h)),
  λ p. lt-ltb 1 x (omega (arith, ap status_word p.1, status_written x)),
)

module _ (w : List ℕ) (t : ℕ) (l : t < 64) where
  pub live_test : (ltb 0 (word w (1 + t)) ≡ true) ↔ Live (decode base w) t
  live_test = rw (status_read base w t l) (live_word (word w (1 + t)))

  pub finished_test : (ltb 1 (word w (1 + t)) ≡ true) ↔ PseudoCommitted (decode base w) t
  finished_test = rw (status_read base w t l) (finished_word (word w (1 + t)))

pub finished_below : (w : List ℕ) (t : ℕ) → PseudoCommitted (decode base w) t → t < 64
finished_below w t p = live_below base w t (pseudo_committed_live (decode base w) t p)

-- ---- Ranks with one word more

-- A word below 2 has none,
pub noted_none : (ranks : Option ℕ) (status : ℕ) → status < 2 → Noted (read_status status) ranks ranks
noted_none ranks = bit (λ x. Noted (read_status x) ranks ranks) refl refl

-- and the others each have one.
pub noted_rank : (ranks after : Option ℕ) (status : ℕ) → 2 ≤ status → Noted (pseudo_committed (status - 2)) ranks after
    → Noted (read_status status) ranks after
noted_rank ranks after status l noted = rw (finished_read status l) noted
