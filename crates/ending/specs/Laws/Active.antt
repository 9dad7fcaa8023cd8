-- What an active transaction leaves that ends, and the list with itself in front.
use Rattle.std.specs.Prelude.{ℕ, ◌+◌, ◌-◌, ◌<◌, ◌≤◌, ◌≡◌, ◌↔◌, List, [], ◌∷◌, ◌++◌, length, take, drop, set}
use Rattle.std.proofs.Common.{sym, ap, ◌∙◌, subst, append-nil, arith, length-drop, length-set, drop_of_length-le}
use borrow.Rule.Slice.PartMut.{put_mid}
use Rattle.bitset.specs.Bitset.{In}
use Rattle.layout.specs.Laws.{tail_part}
use Rattle.store.specs.Store.{Store, Active, pseudo_committed_count}
use Rattle.store.specs.Dependency.{Ready}
use Rattle.store.specs.Layout.{base, decode, encode, status_word}
use Rattle.store.proofs.Theorems.{representable}
use Rattle.store.proofs.Laws.Reading.{live_below}
use Rattle.store.proofs.Laws.Statuses.{active_apart}
use Rattle.protocol.specs.Ending.{ended, commit, Settlement, committed_first, settled_all}
use Rattle.protocol.proofs.Laws.Ranks.{ended_count}
use Rattle.protocol.proofs.Laws.Settling.{commit_count}
use Rattle.ending.specs.Ending.{Tracked, Forgotten, Concluded}
use Rattle.ending.specs.Laws.Settling.{ended_tracked, commit_tracked}

pub active_below : (w : List ℕ) (t : ℕ) → Active (decode base w) t → t < 64
active_below w t a = live_below base w t (λ e. omega (arith, ap status_word (sym a ∙ e)))

-- ---- The list

-- The list but for its first byte, where t stands.
abbrev rest_of : List ℕ → ℕ → List ℕ
rest_of list t = take (length (set list 0 t) - 1) (drop 1 (set list 0 t))

pub rest_length : (list : List ℕ) (t : ℕ) → length (rest_of list t) ≡ length list - 1
rest_length list t =
    ap (λ (l : List ℕ). length l) (tail_part (set list 0 t) 1)
    ∙ length-drop 1 (set list 0 t)
    ∙ ap (λ (n : ℕ). n - 1) (length-set list 0 t)

-- Itself first, then those that the rest got.
itself_first : (r : Settlement) (list : List ℕ) (t : ℕ) (book last : List ℕ) (count : ℕ)
    → 0 < length list → Concluded r (rest_of list t) book last count
    → Concluded (committed_first t r) list book (put_mid 1 (length (set list 0 t) - 1) (set list 0 t) last) (1 + count)
itself_first r [] t book last count l c = absurd (omega (arith, l))
itself_first r (x ∷ list) t book last count l (e, f, g) =
    let nothing : drop (length (t ∷ list) - 1) list ≡ [] =
    drop_of_length-le list {i = length (t ∷ list) - 1} (omega arith) in (
      e,
      ap (λ (v : List ℕ). t ∷ v)
          (ap (λ (v : List ℕ). last ++ v) nothing ∙ append-nil last ∙ f
          ∙ ap (λ (v : List ℕ). r.committed ++ drop (length r.committed) v) (tail_part (t ∷ list) 1)),
      omega (arith, g),
    )

-- ---- What is left to settle

-- An active one is not in the set of the pseudo-committed ones.
not_member : {w sets : List ℕ} {finished : ℕ} → Tracked w sets finished → (t : ℕ) → Active (decode base w) t
    → (u : ℕ) → In finished u ↔ (In finished u × (u ≡ t → ⊥))
not_member {w} h t a u = (λ m. (m, active_apart (decode base w) t u a ((h.members u).0 m)), λ m. m.0)

module _ {w sets : List ℕ} {finished : ℕ} (h : Tracked w sets finished) {t : ℕ} (a : Active (decode base w) t)
    (after : List ℕ) {left : List ℕ} (forgot : Forgotten t sets left) where
  -- What `commit_ready` asks, of a list of n bytes.
  abbrev Settleable : ℕ → Type 0
  Settleable n = Tracked after left finished × (pseudo_committed_count (decode base after) ≤ n)

  settleable : (s : Store) → Tracked after left finished × (decode base after ≡ s) → pseudo_committed_count s < 64
      → (n : ℕ) → 63 ≤ n → Settleable n
  settleable s (x, e) few n l = (x, omega (arith, few, l, ap (λ (y : Store). pseudo_committed_count y) e))

  module _ (written : after ≡ encode base (ended t (decode base w))) where
    aborted : Tracked after left finished × (decode base after ≡ ended t (decode base w))
    aborted = ended_tracked h after finished forgot (not_member h t a) written

    pub abort_settles : (n : ℕ) → 63 ≤ n → Settleable n
    abort_settles =
        settleable (ended t (decode base w)) aborted
        (ended_count (decode base w) t (representable w h.packed).statuses a)

    pub abort_settled : (list : List ℕ) {book last : List ℕ} {count : ℕ}
        → Concluded (settled_all (decode base after)) list book last count
        → Concluded (settled_all (ended t (decode base w))) list book last count
    abort_settled list {book} {last} {count} =
        subst (λ (s : Store). Concluded (settled_all s) list book last count) aborted.1

  module _ (ready : Ready (decode base w).log t) (written : after ≡ encode base (commit t (decode base w))) where
    committed : Tracked after left finished × (decode base after ≡ commit t (decode base w))
    committed =
        commit_tracked h after finished forgot (not_member h t a) ready written

    few_left : pseudo_committed_count (commit t (decode base w)) < 64
    few_left = commit_count (decode base w) t (representable w h.packed).statuses a

    pub commit_settles : (n : ℕ) → 63 ≤ n → Settleable n
    commit_settles = settleable (commit t (decode base w)) committed few_left

    commit_settled : (list book last : List ℕ) (count : ℕ)
        → Concluded (settled_all (decode base after)) list book last count
        → Concluded (settled_all (commit t (decode base w))) list book last count
    commit_settled list book last count =
        subst (λ (s : Store). Concluded (settled_all s) list book last count) committed.1

    module _ (list : List ℕ) {book last : List ℕ} {count : ℕ}
        (c : Concluded (settled_all (decode base after)) (rest_of list t) book last count) where
      pub commit_first : 0 < length list
          → Concluded (committed_first t (settled_all (commit t (decode base w)))) list book
          (put_mid 1 (length (set list 0 t) - 1) (set list 0 t) last) (1 + count)
      commit_first l =
          itself_first (settled_all (commit t (decode base w))) list t book last count l
          (commit_settled (rest_of list t) book last count c)
