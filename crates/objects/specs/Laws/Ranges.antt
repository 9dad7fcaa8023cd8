-- Ranges and zeros of one object.
use Rattle.std.specs.Prelude.{ℕ, ◌+◌, ◌-◌, ◌*◌, ◌≤◌, ◌<◌, ◌≡◌, ◌↔◌, List, take, drop}
use Rattle.std.proofs.Common.{ap, sym, ◌∙◌, arith, length-take, get_or-take}
use Rattle.std.proofs.Common.{get_or-drop}
use Rattle.std.proofs.Math.ListN.{get_or-eq_default}
use Rattle.store.specs.Layout.{word, object_start, ObjectPacked}
use Rattle.store.proofs.Laws.Words.{below}
use Rattle.objects.specs.Objects.{InRange}

-- The words of a part are 0 where those of the whole are.
zeros : (w : List ℕ) (a e : ℕ) → ((i : ℕ) → word (take (e - a) (drop a w)) i ≡ 0)
    ↔ ((i : ℕ) → a ≤ i → i < e → word w i ≡ 0)
zeros w a e = (
  λ z i l m. let f : i ≡ a + (i - a) = omega arith in ap (word w) f ∙ sym (at (i - a) (omega arith)) ∙ z (i - a),
  λ z i. below i (e - a) (λ (l : i < e - a). at i l ∙ z (a + i) (omega arith) (omega arith))
      (λ (l : e - a ≤ i). get_or-eq_default (take (e - a) (drop a w)) 0 (rw length-take (omega arith))),
)
  where
    at : (i : ℕ) → i < e - a → word (take (e - a) (drop a w)) i ≡ word w (a + i)
    at i l = get_or-take (e - a) (drop a w) i 0 l ∙ get_or-drop a w i 0

module _ (w : List ℕ) (o k n : ℕ) (kind : k ≡ word w (object_start o)) (count : n ≡ word w (object_start o + 1)) where
  pub packed_zeros : InRange k n
      → ((i : ℕ)
      → word (take (object_start o + 130 - (object_start o + 2 + 2 * n)) (drop (object_start o + 2 + 2 * n) w)) i ≡ 0)
      ↔ ObjectPacked w o
  packed_zeros r =
      let both = zeros w (object_start o + 2 + 2 * n) (object_start o + 130) in (
        λ z. record {
          kind = omega (arith, r.kind);
          rows = omega (arith, r.rows);
          none = λ e. omega (arith, r.none (kind ∙ e));
          unused = λ i l m. both.0 z (object_start o + 2 + i) (omega arith) (omega arith);
        },
        λ p. both.1 (λ i l m. let e : i ≡ object_start o + 2 + (i - (object_start o + 2)) = omega arith in
            ap (word w) e ∙ p.unused (i - (object_start o + 2)) (omega arith) (omega arith)),
      )
