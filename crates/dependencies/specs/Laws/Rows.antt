-- Rows of owners: what an entry adds to them.
use Rattle.std.specs.Prelude.{ℕ, ◌+◌, ◌<◌, ◌≡◌, true, ◌↔◌, ◌⊎◌, List, [], get_or, replicate}
use Rattle.std.proofs.Common.{sym, ◌∙◌, inl, inr, ⊎_elim, arith}
use Rattle.std.proofs.lemmas.List.{length-replicate, get_or-replicate}
use Rattle.bitset.specs.Laws.{holds_none}
use Rattle.pairs.specs.Pairs.{column_of}
use Rattle.representatives.specs.Representatives.{entry_transaction, entry_number, entry_key, entry_value, AlikeBy}
use Rattle.dependencies.specs.Dependencies.{key_column, Owner, Owned, Differing, Varied, OwnersRow}
use Rattle.dependencies.specs.Dependencies.{On, AlikeByKey, Pushes, Modifies, Gathered}
use Rattle.dependencies.specs.Laws.Sets.{some_none, some_more, represents_same, blank, blank_row, added_row, Added}
use Rattle.dependencies.specs.Laws.Sets.{WithOwner}
use Rattle.dependencies.specs.Laws.Differing.{varied_more}

-- ---- A row of owners by column, and at one place those with different items

module _ (column : ℕ → ℕ) (P : ℕ → Type 0) (place : ℕ) (Q : ℕ → Type 0) (item : ℕ → ℕ) (w : List ℕ) where
  abbrev Row : ℕ → ℕ → ℕ → Type 0
  Row n m b = Owned column P w n m b ⊎ ((place ≡ m) × Varied Q item w n b)

  module _ (n i : ℕ) (row : List ℕ) (held : OwnersRow n row (Row i)) where
    own : (m b : ℕ) → (Owned column P w i m b ⊎ (P i × (column (entry_number w i) ≡ m) × (entry_transaction w i ≡ b)))
        ↔ Owned column P w (i + 1) m b
    own m b = some_more (λ j. P j × (column (entry_number w j) ≡ m) × (entry_transaction w j ≡ b)) i

    pub row_kept : (P i → ⊥) → (Q i → ⊥) → OwnersRow n row (Row (i + 1))
    row_kept other varies =
        record {
          columns = held.columns;
          sets = represents_same (Row i) (Row (i + 1)) row held.sets
              (λ m b. (
                ⊎_elim (λ x. inl ((own m b).0 (inl x)))
                    (λ (e, x). inr (e, (varied_more Q item w i b).0 (inl x))),
                ⊎_elim
                    (λ x. ⊎_elim inl (λ y. absurd (other y.0)) ((own m b).1 x))
                    (λ (e, x). ⊎_elim (λ y. inr (e, y)) (λ y. absurd (varies y.0)) ((varied_more Q item w i b).1 x)),
              ));
        }

    -- First those who have different ones now, then the owner.
    pub row_more : (condition : Type 0) (Again : ℕ → Type 0) (t : ℕ) (r s : List ℕ)
        → ((b : ℕ) → (condition × Again b)
        ↔ (Q i × (entry_transaction w i ≡ b) × Differing Q item (item i) w i b))
        → (column (entry_number w i) < n ↔ P i) → t ≡ entry_transaction w i → Added condition n row place Again r
        → WithOwner n r (column (entry_number w i)) t s → OwnersRow n s (Row (i + 1))
    row_more condition Again t r s varies owns e varied owned =
        added_row (column (entry_number w i) < n) n r (column (entry_number w i)) (λ b. t ≡ b) s
        (λ m b. Owned column P w i m b ⊎ ((place ≡ m) × Varied Q item w (i + 1) b)) (Row (i + 1))
        (added_row condition n row place Again r (Row i)
        (λ m b. Owned column P w i m b ⊎ ((place ≡ m) × Varied Q item w (i + 1) b)) held varied
        (λ m b. (
          ⊎_elim (⊎_elim inl (λ (at, x). inr (at, (varied_more Q item w i b).0 (inl x))))
              (λ (c, at, a). inr (at, (varied_more Q item w i b).0 (inr ((varies b).0 (c, a))))),
          ⊎_elim (λ x. inl (inl x))
              (λ (at, x).
              ⊎_elim (λ y. inl (inr (at, y))) (λ y. let (c, a) = (varies b).1 y in inr (c, at, a))
              ((varied_more Q item w i b).1 x)),
        )))
        owned
        (λ m b. (
          ⊎_elim (⊎_elim (λ x. inl ((own m b).0 (inl x))) inr)
              (λ (c, at, f). inl ((own m b).0 (inr (owns.0 c, at, sym e ∙ f)))),
          ⊎_elim
              (λ x. ⊎_elim (λ y. inl (inl y)) (λ (p, at, f). inr (owns.1 p, at, e ∙ f)) ((own m b).1 x))
              (λ x. inl (inr x)),
        ))

-- ---- No entry

abbrev vacant : ℕ → List ℕ
vacant n = replicate n 0

module _ (w : List ℕ) where
  row_none : (column : ℕ → ℕ) (P : ℕ → Type 0) (place : ℕ) (Q : ℕ → Type 0) (item : ℕ → ℕ) (n k j : ℕ) → j < n
      → OwnersRow k (get_or (replicate n (vacant k)) j []) (Row column P place Q item w 0)
  row_none column P place Q item n k j l =
      rw (get_or-replicate n j (vacant k) [] l)
      (record {
        columns = length-replicate k 0;
        sets = blank_row k (Row column P place Q item w 0)
            (λ m b. ⊎_elim (some_none (λ j. P j × (column (entry_number w j) ≡ m) × (entry_transaction w j ≡ b)))
            (λ x. some_none (λ j. Q j × (entry_transaction w j ≡ b) × Differing Q item (item j) w 0 b) x.1));
      })

  pub gathered_none : (n m k : ℕ) → n ≡ 16 → m ≡ 256 → k ≡ 256
      → Gathered w 0
      (record { objects = replicate n (vacant 6); keys = replicate m (vacant 4); values = replicate k 0 })
  gathered_none n m k e f g =
      record {
        objects = length-replicate n (vacant 6) ∙ e;
        entries = length-replicate m (vacant 4) ∙ f;
        values = length-replicate k 0 ∙ g;
        on_object = λ o l. row_none column_of (On w o) 5 (Pushes w o) (entry_key w) n 6 o (omega arith);
        represented = λ j l first.
            row_none key_column (AlikeByKey w j) 3 (Modifies w j) (entry_value w) m 4 j (omega arith);
        twins = λ j l number first.
            rw (blank k j)
            (holds_none (Owner (AlikeBy true w j) w 0)
            (λ b. some_none (λ i. AlikeBy true w j i × (entry_transaction w i ≡ b))));
      }
