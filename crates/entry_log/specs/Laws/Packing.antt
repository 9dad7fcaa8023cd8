-- What the tests of an entry's operation and of the log's count say.
use Rattle.std.specs.Prelude.{ℕ, ◌+◌, ◌-◌, ◌≤◌, ◌<◌, ◌≡◌, Bool, true, ◌↔◌}
use Rattle.std.specs.Prelude.{List, length, take, drop}
use Rattle.std.proofs.Common.{sym, ap, ◌∙◌, arith, get_or-drop}
use borrow.Author.Rules.{part_to_end}
use Rattle.operations.specs.Operations.{stored}
use Rattle.store.specs.Layout.{BookLong}
use Rattle.store.specs.Layout.{base, word, entry_start, ObjectPacked, AsStored, Packed}
use Rattle.entry_log.specs.Log.{StoredWords, LogBounded}

-- An operation that was read from the words of entry i.
pub stored_read : (B : Type 0) (w : List ℕ) (i n k v : ℕ) → B ↔ StoredWords n k v
    → (n ≡ word w (entry_start i + 2)) × (k ≡ word w (entry_start i + 3)) × (v ≡ word w (entry_start i + 4))
    → B ↔ AsStored w i
stored_read B w i n k v h (en, ek, ev) = rw (en, ek, ev) at h

-- ---- The whole log

module _ (w : List ℕ) (n : ℕ) (counted : n ≡ word w 0) where
  -- The words from place a on, as a part of w that is lent.
  abbrev from : ℕ → List ℕ
  from a = take (length w - a) (drop a w)

  from_at : (a i : ℕ) → word (from a) i ≡ word w (a + i)
  from_at a i = rw (part_to_end w a) (get_or-drop a w i 0)

  unused : ((i : ℕ) → word (from (entry_start n)) i ≡ 0) → (i : ℕ) → entry_start n ≤ i → word w i ≡ 0
  unused zeros i m =
      let e : entry_start n + (i - entry_start n) ≡ i = omega arith in
      ap (word w) (sym e) ∙ sym (from_at (entry_start n) (i - entry_start n)) ∙ zeros (i - entry_start n)

  pub then_zeros : (b : Bool) → n ≤ 256 → (b ≡ true) ↔ ((i : ℕ) → word (from (entry_start n)) i ≡ 0)
      → (b ≡ true) ↔ LogBounded w
  then_zeros b l zeros = (
    λ e. record { entries = rw counted at l; unused = λ i m. unused (zeros.0 e) i (omega arith) },
    λ p. zeros.1 (λ i. from_at (entry_start n) i ∙ p.unused (entry_start n + i) (omega arith)),
  )

-- Packed is: of that length, the objects packed, the log bounded and each of its entries as stored.
module _ (w : List ℕ) where
  pub packed_bounded : Packed base w → LogBounded w
  packed_bounded p = record { entries = p.log.entries; unused = p.log.unused }

  pub bounded_packed : BookLong w → ((o : ℕ) → o < 16 → ObjectPacked w o) → LogBounded w
      → ((i : ℕ) → i < word w 0 → AsStored w i) → Packed base w
  bounded_packed size objects bounded stored =
      record {
        words = size;
        objects = objects;
        log = record { entries = bounded.entries; as_stored = stored; unused = bounded.unused };
      }
