-- Rows by the position of a key: what is found there, and what inserting, deleting and modifying do there.
use Rattle.std.specs.Prelude.{ℕ, ◌+◌, ◌-◌, ◌<◌, ◌≤◌, ◌≡◌, refl, ◌⊎◌, true, false, List, [], ◌∷◌, map, eqb, length}
use Rattle.std.specs.Prelude.{get_or, set, Option, MatchOption}
use Rattle.std.proofs.Common.{ap, sym, ◌∙◌, inl, inr, ⊎_elim, true≢false, add-one, arith, eq-eqb, ne_eqb, length-set}
use Rattle.std.proofs.Math.Option.{none, some}
use Rattle.std.proofs.lemmas.Iterator.{index_from_first}
use Rattle.std.specs.List.{AllWithin, HoldsAt}
use Rattle.std.specs.Option.{unwrap_or}
use Rattle.operations.specs.Operations.{Row, row, found, is_some, present, inserted, deleted, modified}
use Rattle.operations.proofs.Laws.Rows.{order, by_order_less, by_order_equal, by_order_greater}
use Rattle.replay.specs.Laws.Lists.{length_put, length_removed}
use Rattle.replay.specs.Replay.{row_of, position_of, put_at, removed_at}

abbrev pub row_at : List Row → ℕ → Row
row_at rs i = get_or rs i (row 0 0)

-- The key is in the row at its position.
pub record There (k : ℕ) (rs : List Row) : Type 0 where
  pub within : position_of k rs < length rs
  pub key : (row_at rs (position_of k rs)).key ≡ k
  pub finds : found k rs ≡ some (row_at rs (position_of k rs)).value
  pub inserts : (v : ℕ) → inserted k v rs ≡ rs
  pub deletes : deleted k rs ≡ removed_at (position_of k rs) rs
  pub modifies : (v : ℕ) → modified k v rs ≡ set rs (position_of k rs) (row k v)

-- No row has the key.
pub record Absent (k : ℕ) (rs : List Row) : Type 0 where
  pub within : position_of k rs ≤ length rs
  pub key : position_of k rs < length rs → (row_at rs (position_of k rs)).key ≡ k → ⊥
  pub finds : found k rs ≡ none
  pub inserts : (v : ℕ) → inserted k v rs ≡ put_at (position_of k rs) (row k v) rs
  pub deletes : deleted k rs ≡ rs
  pub modifies : (v : ℕ) → modified k v rs ≡ rs

module _ (k : ℕ) (r : Row) (rs : List Row) where
  there_equal : r.key ≡ k → There k (r ∷ rs)
  there_equal e =
      record {
        within = simp by_order_equal (omega arith);
        key = simp by_order_equal e;
        finds = simp by_order_equal;
        inserts = λ v. simp by_order_equal;
        deletes = simp by_order_equal;
        modifies = λ v. simp by_order_equal;
      }

  there_less : r.key < k → There k rs → There k (r ∷ rs)
  there_less l t =
      record {
        within = simp by_order_less (omega (arith, t.within));
        key = simp by_order_less t.key;
        finds = simp by_order_less t.finds;
        inserts = λ v. simp by_order_less (ap (λ q. r ∷ q) (t.inserts v));
        deletes = simp by_order_less (ap (λ q. r ∷ q) t.deletes);
        modifies = λ v. simp by_order_less (ap (λ q. r ∷ q) (t.modifies v));
      }

  absent_greater : k < r.key → Absent k (r ∷ rs)
  absent_greater g =
      record {
        within = simp by_order_greater (omega arith);
        key = simp by_order_greater (λ w e. omega arith);
        finds = simp by_order_greater;
        inserts = λ v. simp by_order_greater;
        deletes = simp by_order_greater;
        modifies = λ v. simp by_order_greater;
      }

  absent_less : r.key < k → Absent k rs → Absent k (r ∷ rs)
  absent_less l a =
      record {
        within = simp by_order_less (omega (arith, a.within));
        key = simp by_order_less (λ w e. a.key (omega arith) e);
        finds = simp by_order_less a.finds;
        inserts = λ v. simp by_order_less (ap (λ q. r ∷ q) (a.inserts v));
        deletes = simp by_order_less (ap (λ q. r ∷ q) a.deletes);
        modifies = λ v. simp by_order_less (ap (λ q. r ∷ q) (a.modifies v));
      }

sought : (k : ℕ) (rs : List Row) → There k rs ⊎ Absent k rs
sought k [] =
    inr (record {
      within = omega arith;
      key = λ w e. omega arith;
      finds = refl;
      inserts = λ v. refl;
      deletes = refl;
      modifies = λ v. refl;
    })
sought k (r ∷ rs) =
    order r.key k
    (λ l. ⊎_elim (λ t. inl (there_less k r rs l t)) (λ a. inr (absent_less k r rs l a)) (sought k rs))
    (λ e. inl (there_equal k r rs e))
    (λ g. inr (absent_greater k r rs g))

module _ (k : ℕ) (rs : List Row) where
  pub there : present k rs ≡ true → There k rs
  there h = ⊎_elim (λ t. t) (λ a. absurd (true≢false (sym h ∙ ap is_some a.finds))) (sought k rs)

  pub absent : present k rs ≡ false → Absent k rs
  absent h = ⊎_elim (λ t. absurd (true≢false (sym (ap is_some t.finds) ∙ h))) (λ a. a) (sought k rs)

  -- The test of the row at the position.
  pub tested : position_of k rs < length rs → eqb (row_at rs (position_of k rs)).key k ≡ present k rs
  tested h =
      ⊎_elim
      (λ t. rw t.finds (eq-eqb _ _ t.key))
      (λ a. rw a.finds (ne_eqb _ _ (a.key h)))
      (sought k rs)

  pub untested : length rs ≤ position_of k rs → false ≡ present k rs
  untested h = ⊎_elim (λ t. absurd (omega (arith, t.within))) (λ a. rw a.finds) (sought k rs)

  -- How many rows there are afterwards.
  pub inserted_same : (v : ℕ) → present k rs ≡ true → length (inserted k v rs) ≡ length rs
  inserted_same v h = ap length ((there h).inserts v)

  pub inserted_more : (v : ℕ) → present k rs ≡ false → length (inserted k v rs) ≡ length rs + 1
  inserted_more v h = rw ((absent h).inserts v) (length_put (position_of k rs) (row k v) rs)

  pub deleted_less : present k rs ≡ true → length (deleted k rs) ≡ length rs - 1
  deleted_less h =
      let t = there h in
      rw t.deletes (length_removed (position_of k rs) rs t.within)

  pub deleted_same : present k rs ≡ false → length (deleted k rs) ≡ length rs
  deleted_same h = ap length (absent h).deletes

  pub modified_same : (v : ℕ) → length (modified k v rs) ≡ length rs
  modified_same v =
      ⊎_elim
      (λ t. rw (t.modifies v) (length-set rs (position_of k rs) (row k v)))
      (λ a. rw (a.modifies v))
      (sought k rs)

-- The first pair whose key is not below k, where there is one, stands at the position.
pub position_first : (k : ℕ) (pairs : List (List ℕ)) (r : Option ℕ)
    → MatchOption r (AllWithin (λ pair. get_or pair 0 0 < k) pairs 0 (length pairs))
    (λ i. (i < length pairs) × HoldsAt (λ pair. k ≤ get_or pair 0 0) pairs i
    × AllWithin (λ pair. get_or pair 0 0 < k) pairs 0 i)
    → unwrap_or r (length pairs) ≡ position_of k (map row_of pairs)
position_first k pairs r h =
    sym (index_from_first (λ (ps : List (List ℕ)). position_of k (map row_of ps)) (λ pair. k ≤ get_or pair 0 0)
    (λ pair. get_or pair 0 0 < k) refl
    (λ pair ps g.
    order (get_or pair 0 0) k (λ l. absurd (omega arith)) (λ e. by_order_equal _ _ _ e)
    (λ q. by_order_greater _ _ _ q))
    (λ pair ps l. by_order_less _ _ _ l ∙ sym (add-one _)) pairs r h)
