-- Transactions that end one after the other: the book with its dependencies, and the list of those that committed.
use Rattle.std.specs.Prelude.{ℕ, suc, ◌+◌, ◌<◌, ◌≤◌, ◌≡◌, not, ◌&&◌, ◌↔◌, List, [], ◌∷◌, ◌++◌, eqb, length, drop}
use Rattle.std.specs.Prelude.{set, get_or}
use Rattle.std.proofs.Common.{sym, ap, ◌∙◌, subst, append-nil, arith, length-append, length-set, drop-cons}
use Rattle.std.proofs.Math.Option.{none, some}
use Rattle.std.proofs.Math.Seq.{append_snoc, set-append_seam}
use Rattle.bitset.specs.Bitset.{has, In, Members, Holds, Represents}
use Rattle.bitset.specs.Laws.{in_rest}
use Rattle.store.specs.Store.{Store, PseudoCommitted, pseudo_committed_count}
use Rattle.store.specs.Dependency.{DependsOn, Ready}
use Rattle.store.specs.Layout.{base, decode, encode}
use Rattle.store.specs.Soundness.{Unsettled}
use Rattle.store.proofs.Theorems.{representable}
use Rattle.protocol.specs.Ending.{ended, commit, lowest_ready, Settlement, settlement, settled_all}
use Rattle.protocol.specs.Terms.{LowestReady}
use Rattle.protocol.proofs.Laws.Ending.{Left, ended_left, commit_left, depends_left}
use Rattle.protocol.proofs.Laws.Ending.{ended_representable, ended_unsettled, commit_representable, commit_unsettled}
use Rattle.protocol.proofs.Laws.Settling.{lowest_is, count_committed, settled_end, settled_step}
use Rattle.ending.specs.Ending.{Tracked, Forgotten, Concluded}
use Rattle.ending.specs.Laws.Books.{Encodes, held, is_packed, is_decoded, changed}

-- ---- The book and its dependencies

module _ {w sets : List ℕ} {finished : ℕ} (h : Tracked w sets finished) {t : ℕ} (after : List ℕ) {left : List ℕ}
    (rest : ℕ) (forgot : Forgotten t sets left) (removed : (u : ℕ) → In rest u ↔ (In finished u × (u ≡ t → ⊥))) where
  abbrev s : Store
  s = decode base w

  -- What the sets are of a store that the transaction has left.
  module _ (x : Store) (l : Left s t x) where
    edges_left : Represents left (DependsOn x.log)
    edges_left a b =
        let d = depends_left s t x l a b in (
          λ m. let e = (forgot.edges a b).0 m in d.1 ((h.edges a b).0 e.0, e.1, e.2),
          λ m. let e = d.0 m in (forgot.edges a b).1 ((h.edges a b).1 e.0, e.1, e.2),
        )

    members_left : Holds rest (PseudoCommitted x)
    members_left u =
        let p = l.pseudo_committed u in (
          λ m. let e = (removed u).0 m in p.1 (e.1, (h.members u).0 e.0),
          λ m. let e = p.0 m in (removed u).1 ((h.members u).1 e.1, e.0),
        )

    one_less : Encodes after x → Unsettled base x → Tracked after left rest × (decode base after ≡ x)
    one_less e u =
        let same = is_decoded after x e in (
          record {
            packed = is_packed after x e;
            unsettled = subst (Unsettled base) (sym same) u;
            whole = forgot.whole;
            edges = subst (λ (y : Store). Represents left (DependsOn y.log)) (sym same) edges_left;
            members = subst (λ (y : Store). Holds rest (PseudoCommitted y)) (sym same) members_left;
          },
          same,
        )

  pub ended_tracked : after ≡ encode base (ended t s) → Tracked after left rest × (decode base after ≡ ended t s)
  ended_tracked e =
      let r = representable w h.packed in
      one_less (ended t s) (ended_left s t)
      (changed w s (held w h.packed) (ended t) after e (ended_representable s t r))
      (ended_unsettled s t h.unsettled)

  pub commit_tracked : Ready s.log t → after ≡ encode base (commit t s)
      → Tracked after left rest × (decode base after ≡ commit t s)
  commit_tracked ready e =
      let r = representable w h.packed in
      one_less (commit t s) (commit_left s t)
      (changed w s (held w h.packed) (commit t) after e (commit_representable s t r h.unsettled))
      (commit_unsettled s t h.unsettled ready)

-- ---- The list's front

-- One more, behind those that stand there.
front_more : (done list : List ℕ) (t : ℕ) → length done < length list
    → set (done ++ drop (length done) list) (length done) t
    ≡ (done ++ (t ∷ [])) ++ drop (length (done ++ (t ∷ []))) list
front_more done list t l =
    let n = length done in
    let m : suc n ≡ length (done ++ (t ∷ [])) = omega (arith, length-append done (t ∷ [])) in
    ap (λ (rest : List ℕ). set (done ++ rest) n t) (drop-cons list n 0 l)
    ∙ set-append_seam done (get_or list n 0) (drop (suc n) list) t
    ∙ sym (append_snoc done t (drop (suc n) list))
    ∙ ap (λ (k : ℕ). (done ++ (t ∷ [])) ++ drop k list) m

-- ---- Commits until none is ready

module _ (start first : List ℕ) where
  -- Those that have committed stand at the front of the list that was first, and what is still to commit follows them.
  pub record Settling (w list sets : List ℕ) (finished count : ℕ) : Type 0 where
    pub book : Tracked w sets finished
    pub done : List ℕ
    pub counted : count ≡ length done
    pub front : list ≡ done ++ drop (length done) first
    pub whole : length list ≡ length first
    pub room : count + pseudo_committed_count (decode base w) ≤ length first
    pub leads : let rest = settled_all (decode base w) in
        settled_all (decode base start) ≡ settlement rest.store (done ++ rest.committed)

module _ {start first : List ℕ} where
  module _ {w list sets : List ℕ} {finished count : ℕ} (h : Settling start first w list sets finished count) where
    -- None is ready.
    pub settling_ended : lowest_ready (decode base w) ≡ none
        → Concluded (settled_all (decode base start)) first w list count
    settling_ended e =
        let s = decode base w in
        let last : settled_all (decode base start) ≡ settlement s h.done =
        h.leads
        ∙ ap (λ (r : Settlement). settlement r.store (h.done ++ r.committed)) (settled_end s e)
        ∙ ap (settlement s) (append-nil h.done) in
        subst (λ (r : Settlement). Concluded r first w list count) (sym last)
        ((held w h.book.packed).words, h.front, h.counted)

    module _ {t : ℕ} (e : lowest_ready (decode base w) ≡ some t) where
      is_lowest : LowestReady (decode base w) t
      is_lowest = lowest_is (decode base w) (representable w h.book.packed).statuses t e

      falls : suc (pseudo_committed_count (commit t (decode base w))) ≡ pseudo_committed_count (decode base w)
      falls = count_committed (decode base w) t (is_lowest.rank, is_lowest.ranked)

      pub within : count < length list
      within = omega (arith, h.room, h.whole, falls)

      module _ {after left : List ℕ} (rest : ℕ) (forgot : Forgotten t sets left)
          (removed : Members rest (λ u. has finished u && not (eqb u t)))
          (written : after ≡ encode base (commit t (decode base w))) where
        next : Tracked after left rest × (decode base after ≡ commit t (decode base w))
        next =
            commit_tracked h.book after rest forgot (in_rest rest finished t removed) is_lowest.ready written

        pub settling_less : pseudo_committed_count (decode base after) < pseudo_committed_count (decode base w)
        settling_less = omega (arith, falls, ap (λ (s : Store). pseudo_committed_count s) next.1)

        -- The lowest ready one commits, and goes to the list.
        pub settling_more : Settling start first after (set list count t) left rest (count + 1)
        settling_more =
            let done = h.done ++ (t ∷ []) in
            let then = settled_all (commit t (decode base w)) in
            record {
              book = next.0;
              done = done;
              counted = omega (arith, h.counted, length-append h.done (t ∷ []));
              front =
                  ap (λ (l : List ℕ). set l count t) h.front
                  ∙ ap (λ (n : ℕ). set (h.done ++ drop (length h.done) first) n t) h.counted
                  ∙ front_more h.done first t (omega (arith, h.counted, h.whole, within));
              whole = length-set list count t ∙ h.whole;
              room = omega (arith, h.room, falls, ap (λ (s : Store). pseudo_committed_count s) next.1);
              leads =
                  h.leads
                  ∙ ap (λ (r : Settlement). settlement r.store (h.done ++ r.committed))
                  (settled_step (decode base w) (representable w h.book.packed).statuses t e)
                  ∙ ap (settlement then.store) (sym (append_snoc h.done t then.committed))
                  ∙ ap (λ (s : Store). settlement (settled_all s).store (done ++ (settled_all s).committed))
                  (sym next.1);
            }
