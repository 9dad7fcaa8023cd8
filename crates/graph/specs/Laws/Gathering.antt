-- Near ones, and those near any found, until there are no more: all to which a way leads.
use Rattle.std.specs.Prelude.{ℕ, zero, suc, ◌<◌, ◌≡◌, refl, not, ◌&&◌, ◌||◌, ◌↔◌, ◌⊎◌, eqb}
use Rattle.std.proofs.Common.{sym, subst, inl, inr, ⊎_elim}
use Rattle.bitset.specs.Bitset.{has, Members, In, Holds}
use Rattle.bitset.specs.Laws.{nobody_in, in_union, in_single, in_rest, part_less, holds_same}
use Rattle.store.specs.Dependency.{Way, Leads, Predecessor, Successor}
use Rattle.store.proofs.Laws.Ways.{widened, onward, last_departure, predecessor_reversed}
use Rattle.graph.specs.Edges.{Near, Reversed}
use mathlib.Core.Logic.Iff

-- From t, through others alone.
module _ (Edge : ℕ → ℕ → Type 0) (others t : ℕ) where
  -- To those found ways lead, and each is near to t or to another of them.
  pub record Gathering (found : ℕ) : Type 0 where
    pub ways : (b : ℕ) → In found b → In others b × Leads Edge (In others) t b
    pub near : (b : ℕ) → In found b → Edge t b ⊎ ((a : ℕ) × In found a × Edge a b)

  pub gather_begun : Gathering 0
  gather_begun = record { ways = λ b m. absurd (no_one b m); near = λ b m. absurd (no_one b m) }
    where
      no_one : (b : ℕ) → In 0 b → ⊥
      no_one b = nobody_in 0 b refl

  -- A turn that finds more, or nobody else: then these are the successors in a set whose others they are.
  pub record Turn (found more : ℕ) : Type 0 where
    pub again : Gathering more
    pub grows : (more ≡ found → ⊥) → found < more
    pub ended : more ≡ found → (finished : ℕ) → Members others (λ h. has finished h && not (eqb h t))
        → Holds found (Successor Edge (In finished) t)

  module _ (found own from more : ℕ) (g : Gathering found) (single : Members own (λ h. eqb h t))
      (union : Members from (λ h. has found h || has own h)) (nearest : Holds more (Near Edge others from)) where
    -- More are the near ones of t and of those found.
    more_exactly : (b : ℕ) → In more b ↔ (In others b × (Edge t b ⊎ ((a : ℕ) × In found a × Edge a b)))
    more_exactly b = (
      λ m. let (o, (a, f, e)) = (nearest b).0 m in (
        o,
        ⊎_elim (λ (k : In found a). inr (a, k, e))
            (λ (k : In own a). inl (subst (λ (x : ℕ). Edge x b) ((in_single own t single a).0 k) e))
            ((in_union from found own union a).0 f),
      ),
      λ p. (nearest b).1 (
        p.0,
        ⊎_elim
            (λ (e : Edge t b). (t, (in_union from found own union t).1 (inr ((in_single own t single t).1 refl)), e))
            (λ (q : (a : ℕ) × In found a × Edge a b).
            (q.0, (in_union from found own union q.0).1 (inl q.1), q.2))
            p.1,
      ),
    )

    grown : (b : ℕ) → In found b → In more b
    grown b m = (more_exactly b).1 ((g.ways b m).0, g.near b m)

    again : Gathering more
    again =
        record {
          ways =
              λ (b : ℕ) (m : In more b).
              let (o, step) = (more_exactly b).0 m in (
                o,
                ⊎_elim (λ (e : Edge t b). (1, inl e))
                    (λ (q : (a : ℕ) × In found a × Edge a b).
                    let (p, (k, w)) = g.ways q.0 q.1 in (suc k, onward Edge (In others) k t q.0 b w p q.2))
                    step,
              );
          near =
              λ (b : ℕ) (m : In more b).
              ⊎_elim inl (λ (q : (a : ℕ) × In found a × Edge a b). inr (q.0, grown q.0 q.1, q.2))
              ((more_exactly b).0 m).1;
        }

    -- Where nobody is added, the found ones lead to no others.
    module _ (same : more ≡ found) where
      in_found : (b : ℕ) → In others b → Edge t b ⊎ ((a : ℕ) × In found a × Edge a b) → In found b
      in_found b o step = subst (λ (x : ℕ). In x b) same ((more_exactly b).1 (o, step))

      closed : (n a b : ℕ) → ((c : ℕ) → In others c → Edge a c → In found c)
          → Way Edge (In others) n a b → In others b → In found b
      closed zero a b out w o = absurd w
      closed (suc n) a b out (inl e) o = out b o e
      closed (suc n) a b out (inr (c, p, e, w)) o =
          closed n c b (λ d q f. in_found d q (inr (c, out c p e, f))) w o

      all_gathered : Holds found (λ b. In others b × Leads Edge (In others) t b)
      all_gathered b =
          (g.ways b, λ p. closed p.1.0 t b (λ c o e. in_found c o (inl e)) p.1.1 p.0)

      -- The others are all of these but t.
      module _ (finished : ℕ) (without : Members others (λ h. has finished h && not (eqb h t))) where
        ended : Holds found (Successor Edge (In finished) t)
        ended b = (
          λ m. let (o, (k, w)) = (all_gathered b).0 m in
              let (f, other) = (in_rest others finished t without b).0 o in
              let within : (c : ℕ) → In others c → In finished c = λ c q. ((in_rest others finished t without c).0 q).0
              in
              (other, f, (k, widened Edge (In others) (In finished) within k t b w)),
          λ (p : Successor Edge (In finished) t b).
              let (other, f, (k, w)) = p in
              (all_gathered b).1 (
                (in_rest others finished t without b).1 (f, other),
                last_departure Edge (In finished) (In others) t
                    (λ c q away. (in_rest others finished t without c).1 (q, away)) k b w,
              ),
        )

    pub gather_turned : Turn found more
    gather_turned =
        record {
          again = again;
          grows = λ other. part_less found more grown (λ e. other (sym e));
          ended = ended;
        }

-- Predecessors, by the edges turned round.
pub predecessors_gathered : (Edge : ℕ → ℕ → Type 0) (finished t found : ℕ)
    → Holds found (Successor (Reversed Edge) (In finished) t)
    → Holds found (Predecessor Edge (In finished) t)
predecessors_gathered Edge finished t found successors =
    holds_same _ _ found successors (λ u. Iff.symm (predecessor_reversed Edge (In finished) t u))
