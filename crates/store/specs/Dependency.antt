-- Document 01, "Pair rules": on whom a transaction depends; circles (cycles) of dependency; predecessors, successors.
use Rattle.std.specs.Prelude.{ℕ, zero, suc, ◌≡◌, false, ◌⊎◌, List, [], ◌∷◌}
use Rattle.operations.specs.Operations.{Operation}
use Rattle.operations.specs.PairRules.{commutes, OrderShows}
use Rattle.store.specs.Store.{transaction_count, Logged, Store, PseudoCommitted}

-- Some element is such.
abbrev pub Any : {A : Type 0} → (A → Type 0) → List A → Type 0
Any P [] = ⊥
Any P (x ∷ l) = P x ⊎ Any P l

-- Some element and a later one are so related.
abbrev pub Follows : {A : Type 0} → (A → A → Type 0) → List A → Type 0
Follows R [] = ⊥
Follows R (e ∷ l) = Any (R e) l ⊎ Follows R l

-- Entry e is b's, the later entry x is a's, both are of one object, and their operations are so related.
abbrev pub Related : (Operation → Operation → Type 0) → ℕ → ℕ → Logged → Logged → Type 0
Related R a b e x =
    (x.entry.transaction ≡ a) × (e.entry.transaction ≡ b) × (x.object ≡ e.object)
    × R x.entry.operation e.entry.operation

-- They do not commute.
abbrev pub Conflict : ℕ → ℕ → Logged → Logged → Type 0
Conflict = Related (λ x e. commutes x e ≡ false)

-- Some rows show their order.
abbrev pub Shown : (ℕ → ℕ) → ℕ → ℕ → Logged → Logged → Type 0
Shown reduce = Related (OrderShows reduce)

-- Transaction a depends on b: one of its entries follows a non-commuting entry of b on the same object. Its own never
-- count.
abbrev pub DependsOn : List Logged → ℕ → ℕ → Type 0
DependsOn log a b = (a ≡ b → ⊥) × Follows (Conflict a b) log

-- It depends on nobody.
abbrev pub Ready : List Logged → ℕ → Type 0
Ready log t = (u : ℕ) → DependsOn log t u → ⊥

-- ---- Ways along the edges of a graph, through nodes of one sort

module _ (Edge : ℕ → ℕ → Type 0) (Through : ℕ → Type 0) where
  -- A way of at most n steps, of which all nodes between are of that sort.
  abbrev pub Way : ℕ → ℕ → ℕ → Type 0
  Way zero a b = ⊥
  Way (suc n) a b = Edge a b ⊎ ((c : ℕ) × Through c × Edge a c × Way n c b)

  -- A way of any length.
  abbrev pub Leads : ℕ → ℕ → Type 0
  Leads a b = (n : ℕ) × Way n a b

  -- The predecessors of t: the others of that sort from which a way leads to t,
  abbrev pub Predecessor : ℕ → ℕ → Type 0
  Predecessor t u = (u ≡ t → ⊥) × Through u × Leads u t

  -- and its successors, to which one leads from t.
  abbrev pub Successor : ℕ → ℕ → Type 0
  Successor t u = (u ≡ t → ⊥) × Through u × Leads t u

-- The transaction lies on a cycle whose other members are all pseudo-committed (finished). There are 64 transactions,
-- so 64 steps lead round any cycle.
abbrev pub OnCycle : Store → ℕ → Type 0
OnCycle s t = Way (DependsOn s.log) (PseudoCommitted s) transaction_count t t

-- ---- The sets of document 000, section 4.2.1 (02, No. 4)

-- An edge of its commit dependency graph leads from a transaction to one that it depends on (definition 5). So PRED(t)
-- are the pseudo-committed (finished) ones that depend on t, and SUCC(t) those on whom t depends: near and far, by ways
-- whose every node but t is pseudo-committed. t itself is in neither.
abbrev pub PRED : Store → ℕ → ℕ → Type 0
PRED s = Predecessor (DependsOn s.log) (PseudoCommitted s)

abbrev pub SUCC : Store → ℕ → ℕ → Type 0
SUCC s = Successor (DependsOn s.log) (PseudoCommitted s)

-- The two have a member in common.
abbrev pub Meet : (ℕ → Type 0) → (ℕ → Type 0) → Type 0
Meet P Q = (u : ℕ) × P u × Q u
