-- Ways along the edges of a graph: a way of any length has a short one, and where each node leads on there is a cycle.
use Rattle.std.specs.Prelude.{ℕ, zero, suc, ◌≤◌, ◌<◌, ◌≡◌, refl, ◌↔◌, ◌⊎◌}
use Rattle.std.proofs.Common.{sym, subst, ◌∙◌, inl, inr, ⊎_elim, not-suc-le-zero, le_of_suc-le-suc, eq-or-lt_of_le}
use Rattle.std.proofs.Common.{le_refl}
use Rattle.operations.proofs.Laws.Cases.{same}
use Rattle.store.specs.Dependency.{Way, Leads, Predecessor, Successor, Meet}

-- ---- At most n numbers are such

-- Such, and not c.
abbrev Except : ℕ → (ℕ → Type 0) → ℕ → Type 0
Except c P x = P x × (x ≡ c → ⊥)

-- Whichever is taken out, at most n - 1 are left.
abbrev AtMost : ℕ → (ℕ → Type 0) → Type 0
AtMost zero P = (c : ℕ) → P c → ⊥
AtMost (suc n) P = (c : ℕ) → P c → AtMost n (Except c P)

fewer : (n : ℕ) (P Q : ℕ → Type 0) → ((c : ℕ) → P c → Q c) → AtMost n Q → AtMost n P
fewer zero P Q f most = λ c p. most c (f c p)
fewer (suc n) P Q f most =
    λ c p. fewer n (Except c P) (Except c Q) (λ (x : ℕ) (w : Except c P x). (f x w.0, w.1)) (most c (f c p))

-- Those that are such, and d.
abbrev And : ℕ → (ℕ → Type 0) → ℕ → Type 0
And d P x = P x ⊎ (x ≡ d)

old : (P : ℕ → Type 0) (c d : ℕ) → c ≡ d → (x : ℕ) → Except c (And d P) x → P x
old P c d e x (inl p, other) = p
old P c d e x (inr f, other) = absurd (other (f ∙ sym e))

apart : (P : ℕ → Type 0) (c d x : ℕ) → Except c (And d P) x → And d (Except c P) x
apart P c d x (inl p, other) = inl (p, other)
apart P c d x (inr f, other) = inr f

-- What is taken out is d or another.
taken : (n : ℕ) (P : ℕ → Type 0) (d : ℕ) → AtMost n P → ((c : ℕ) → P c → AtMost n (And d (Except c P)))
    → (c : ℕ) → And d P c → AtMost n (Except c (And d P))
taken n P d most others c (inl p) = fewer n (Except c (And d P)) (And d (Except c P)) (apart P c d) (others c p)
taken n P d most others c (inr e) = fewer n (Except c (And d P)) P (old P c d e) most

one_more : (n : ℕ) (P : ℕ → Type 0) (d : ℕ) → AtMost n P → AtMost (suc n) (And d P)
one_more zero P d most = taken zero P d most (λ c p. absurd (most c p))
one_more (suc n) P d most = taken (suc n) P d most (λ c p. one_more n (Except c P) d (most c p))

last : (n c : ℕ) → c < suc n → And n (λ x. x < n) c
last n c l = ⊎_elim inr inl (eq-or-lt_of_le (le_of_suc-le-suc l))

below : (n : ℕ) → AtMost n (λ c. c < n)
below zero = λ c l. not-suc-le-zero l
below (suc n) = fewer (suc n) (λ c. c < suc n) (And n (λ c. c < n)) (last n) (one_more n (λ c. c < n) n (below n))

-- ---- Ways

module _ (Edge Edge' : ℕ → ℕ → Type 0) (Through Through' : ℕ → Type 0) where
  pub way_monotone : ((a b : ℕ) → Edge a b → Edge' a b) → ((c : ℕ) → Through c → Through' c)
      → (n m : ℕ) → n ≤ m → (a b : ℕ) → Way Edge Through n a b → Way Edge' Through' m a b
  way_monotone f g zero m l a b w = absurd w
  way_monotone f g (suc n) zero l a b w = absurd (not-suc-le-zero l)
  way_monotone f g (suc n) (suc m) l a b (inl e) = inl (f a b e)
  way_monotone f g (suc n) (suc m) l a b (inr (c, t, e, w)) =
      inr (c, g c t, f a c e, way_monotone f g n m (le_of_suc-le-suc l) c b w)

module _ (Edge : ℕ → ℕ → Type 0) where
  pub widened : (P Q : ℕ → Type 0) → ((c : ℕ) → P c → Q c) → (n a b : ℕ) → Way Edge P n a b → Way Edge Q n a b
  widened P Q f n a b w = way_monotone Edge Edge P Q (λ x y e. e) f n n (le_refl n) a b w

  -- One step more.
  pub onward : (P : ℕ → Type 0) (n a b c : ℕ) → Way Edge P n a b → P b → Edge b c → Way Edge P (suc n) a c
  onward P zero a b c w p e = absurd w
  onward P (suc n) a b c (inl f) p e = inr (b, p, f, inl e)
  onward P (suc n) a b c (inr (d, q, f, w)) p e = inr (d, q, f, onward P n d b c w p e)

  -- Two ways after each other.
  pub joined : (P : ℕ → Type 0) (n a b c : ℕ) → Way Edge P n a b → P b → Leads Edge P b c → Leads Edge P a c
  joined P zero a b c w p v = absurd w
  joined P (suc n) a b c (inl e) p v = (suc v.0, inr (b, p, e, v.1))
  joined P (suc n) a b c (inr (d, q, e, w)) p v = let r = joined P n d b c w p v in (suc r.0, inr (d, q, e, r.1))

  -- Up to the first arrival the end is not passed through.
  pub first_arrival : (P Q : ℕ → Type 0) (b : ℕ) → ((c : ℕ) → P c → (c ≡ b → ⊥) → Q c)
      → (n a : ℕ) → Way Edge P n a b → Way Edge Q n a b
  first_arrival P Q b others zero a w = absurd w
  first_arrival P Q b others (suc n) a (inl e) = inl e
  first_arrival P Q b others (suc n) a (inr (c, p, e, w)) =
      same c b (λ (q : c ≡ b). inl (subst (λ (x : ℕ). Edge a x) q e))
      (λ (other : c ≡ b → ⊥). inr (c, others c p other, e, first_arrival P Q b others n c w))

  -- A way leaves out c, or does so from its last visit there.
  last_visit : (P : ℕ → Type 0) (c n a b : ℕ) → Way Edge P n a b
      → Leads Edge (Except c P) a b ⊎ Leads Edge (Except c P) c b
  last_visit P c zero a b w = absurd w
  last_visit P c (suc n) a b (inl e) = inl (1, inl e)
  last_visit P c (suc n) a b (inr (d, p, e, w)) =
      ⊎_elim
      (λ (v : Leads Edge (Except c P) d b).
      same d c (λ (q : d ≡ c). inr (subst (λ (x : ℕ). Leads Edge (Except c P) x b) q v))
      (λ (other : d ≡ c → ⊥). inl (suc v.0, inr (d, (p, other), e, v.1))))
      (λ (v : Leads Edge (Except c P) c b). inr v)
      (last_visit P c n d b w)

  -- From the last departure on the start is not passed through.
  pub last_departure : (P Q : ℕ → Type 0) (a : ℕ) → ((c : ℕ) → P c → (c ≡ a → ⊥) → Q c)
      → (n b : ℕ) → Way Edge P n a b → Leads Edge Q a b
  last_departure P Q a others n b w =
      let v : Leads Edge (Except a P) a b = ⊎_elim (λ l. l) (λ l. l) (last_visit P a n a b w) in
      (v.0, widened (Except a P) Q (λ (c : ℕ) (t : Except a P c). others c t.0 t.1) v.0 a b v.1)

  -- The first step is the last one, or is to a node that the rest leaves out.
  first_step : (P : ℕ → Type 0) (n a b : ℕ) → Way Edge P n a b
      → Edge a b ⊎ ((c : ℕ) × P c × Edge a c × Leads Edge (Except c P) c b)
  first_step P zero a b w = absurd w
  first_step P (suc n) a b (inl e) = inl e
  first_step P (suc n) a b (inr (c, p, e, w)) = inr (c, p, e, ⊎_elim (λ v. v) (λ v. v) (last_visit P c n c b w))

  -- Through at most n nodes in at most n + 1 steps.
  short : (n : ℕ) (P : ℕ → Type 0) → AtMost n P → (a b : ℕ) → Leads Edge P a b → Way Edge P (suc n) a b
  short zero P most a b w = ⊎_elim inl (λ v. absurd (most v.0 v.1)) (first_step P w.0 a b w.1)
  short (suc n) P most a b w =
      ⊎_elim inl
      (λ (v : (c : ℕ) × P c × Edge a c × Leads Edge (Except c P) c b).
      let c = v.0 in
      inr (
        c,
        v.1,
        v.2,
        widened (Except c P) P (λ (x : ℕ) (q : Except c P x). q.0) (suc n) c b
            (short n (Except c P) (most c v.1) c b v.3),
      ))
      (first_step P w.0 a b w.1)

  -- Where each such node leads to such a node, and none to itself, there is none: those that one leads to are fewer.
  endless : (n : ℕ) (P : ℕ → Type 0) → AtMost n P → ((c : ℕ) → P c → (d : ℕ) × P d × Edge c d)
      → ((c : ℕ) → P c → Leads Edge P c c → ⊥)
      → (t : ℕ) → P t → ⊥
  endless zero P most next acyclic t p = most t p
  endless (suc n) P most next acyclic t p =
      let Q : ℕ → Type 0 = λ c. P c × Leads Edge P t c in
      let q = next t p in
      endless n Q
      (fewer n Q (Except t P) (λ (c : ℕ) (w : Q c).
      (w.0, λ (e : c ≡ t). acyclic t p (subst (λ (x : ℕ). Leads Edge P t x) e w.1))) (most t p))
      (λ (c : ℕ) (w : Q c). let r = next c w.0 in
      (r.0, (r.1, (suc w.1.0, onward P w.1.0 t c r.0 w.1.1 w.0 r.2)), r.2))
      (λ (c : ℕ) (w : Q c) (v : Leads Edge Q c c). acyclic c w.0
      (v.0, widened Q P (λ (x : ℕ) (y : Q x). y.0) v.0 c c v.1))
      q.0 (q.1, (1, inl q.2))

-- The same way along edges turned round.
turned_round : (Edge : ℕ → ℕ → Type 0) (P : ℕ → Type 0) (n a b : ℕ) → Way Edge P n a b
    → Way (λ x y. Edge y x) P n b a
turned_round Edge P zero a b w = absurd w
turned_round Edge P (suc n) a b (inl e) = inl e
turned_round Edge P (suc n) a b (inr (c, p, e, w)) =
    onward (λ x y. Edge y x) P n b c a (turned_round Edge P n c b w) p e

-- Successors are the near ones, and their successors.
pub successor_from_near : (Edge : ℕ → ℕ → Type 0) (P : ℕ → Type 0) (t u : ℕ)
    → Successor Edge P t u
    ↔ ((u ≡ t → ⊥) × ((c : ℕ) × P c × Edge t c × ((u ≡ c) ⊎ Successor Edge P c u)))
successor_from_near Edge P t u = (
  λ p. (p.0, by_first p.2.0 p.1 p.2.1),
  λ p. let (other, (c, q, e, on)) = p in
      ⊎_elim
      (λ (same : u ≡ c). (other, subst P (sym same) q, (1, inl (subst (λ (x : ℕ). Edge t x) (sym same) e))))
      (λ (s : Successor Edge P c u). (other, s.1, (suc s.2.0, inr (c, q, e, s.2.1))))
      on,
)
  where
    by_first : (n : ℕ) → P u → Way Edge P n t u → (c : ℕ) × P c × Edge t c × ((u ≡ c) ⊎ Successor Edge P c u)
    by_first zero q w = absurd w
    by_first (suc n) q (inl e) = (u, q, e, inl refl)
    by_first (suc n) q (inr (c, p, e, w)) =
        (c, p, e, same u c (λ (e : u ≡ c). inl e) (λ (other : u ≡ c → ⊥). inr (other, q, (n, w))))

-- Predecessors are successors along the edges turned round.
pub predecessor_reversed : (Edge : ℕ → ℕ → Type 0) (P : ℕ → Type 0) (t u : ℕ)
    → Predecessor Edge P t u ↔ Successor (λ x y. Edge y x) P t u
predecessor_reversed Edge P t u = (
  λ p. (p.0, p.1, (p.2.0, turned_round Edge P p.2.0 u t p.2.1)),
  λ s. (s.0, s.1, (s.2.0, turned_round (λ x y. Edge y x) P s.2.0 t u s.2.1)),
)

pub predecessor_from_near : (Edge : ℕ → ℕ → Type 0) (P : ℕ → Type 0) (t u : ℕ)
    → Predecessor Edge P t u
    ↔ ((u ≡ t → ⊥) × ((c : ℕ) × P c × Edge c t × ((u ≡ c) ⊎ Predecessor Edge P c u)))
predecessor_from_near Edge P t u =
    let near = successor_from_near (λ x y. Edge y x) P t u in (
      λ p. let (other, (c, q, e, on)) = near.0 ((predecessor_reversed Edge P t u).0 p) in
          (other, (c, q, e, ⊎_elim inl (λ s. inr ((predecessor_reversed Edge P c u).1 s)) on)),
      λ p. let (other, (c, q, e, on)) = p in
          (predecessor_reversed Edge P t u).1
          (near.1 (other, (c, q, e, ⊎_elim inl (λ s. inr ((predecessor_reversed Edge P c u).0 s)) on))),
    )

-- A node without an edge to itself lies on a cycle exactly where its predecessors and successors meet.
pub meets_on_cycle : (Edge : ℕ → ℕ → Type 0) (P : ℕ → Type 0) (t : ℕ) → (Edge t t → ⊥)
    → Leads Edge P t t ↔ Meet (Predecessor Edge P t) (Successor Edge P t)
meets_on_cycle Edge P t no_loop = (
  λ w. by_second w.0 w.1,
  λ m. let (u, (other, p, back), (other', p', forth)) = m in joined Edge P forth.0 t u t forth.1 p back,
)
  where
    -- The second node of the cycle is in both sets.
    by_second : (n : ℕ) → Way Edge P n t t → Meet (Predecessor Edge P t) (Successor Edge P t)
    by_second zero w = absurd w
    by_second (suc n) (inl e) = absurd (no_loop e)
    by_second (suc n) (inr (c, p, e, w)) =
        let other : c ≡ t → ⊥ = λ q. no_loop (subst (λ (x : ℕ). Edge t x) q e) in
        (c, (other, p, (n, w)), (other, p, (1, inl e)))

module _ (Edge : ℕ → ℕ → Type 0) (Through : ℕ → Type 0) (within : (c : ℕ) → Through c → c < 64) where
  -- Nodes are below 64: all but the end are 63.
  pub shortened : (a b : ℕ) → b < 64 → Leads Edge Through a b → Way Edge Through 64 a b
  shortened a b l (n, w) =
      let most : AtMost 63 (Except b Through) =
      fewer 63 (Except b Through) (Except b (λ c. c < 64))
      (λ (c : ℕ) (t : Except b Through c). (within c t.0, t.1)) (below 64 b l)
      in
      widened Edge (Except b Through) Through (λ (c : ℕ) (t : Except b Through c). t.0) 64 a b
      (short Edge 63 (Except b Through) most a b
      (n, first_arrival Edge Through (Except b Through) b (λ c t other. (t, other)) n a w))

  -- So such nodes that lie on no cycle, and each lead to such a node, are none.
  pub none_lead_on : ((c : ℕ) → Through c → (d : ℕ) × Through d × Edge c d)
      → ((c : ℕ) → Through c → Way Edge Through 64 c c → ⊥)
      → (t : ℕ) → Through t → ⊥
  none_lead_on next acyclic =
      endless Edge 64 Through (fewer 64 Through (λ c. c < 64) within (below 64)) next
      (λ (c : ℕ) (t : Through c) (w : Leads Edge Through c c). acyclic c t (shortened c c (within c t) w))
