-- Decisions about a store's dependencies. They compute, so that the desk does.
use Rattle.std.specs.Prelude.{ℕ, zero, suc, ◌<◌, ◌≡◌, refl, false, List, length}
use Rattle.std.proofs.Math.Bool.{Bool-discrete}
use Rattle.std.proofs.Math.Decide.{ℕ_discrete}
use Rattle.operations.specs.PairRules.{commutes}
use Rattle.store.specs.Store.{Status, absent, active, pseudo_committed, Logged, Store, status_of, PseudoCommitted}
use Rattle.store.specs.Dependency.{Any, Conflict, DependsOn, Ready, Way, Leads, OnCycle, PRED, SUCC}
use Rattle.store.proofs.Laws.Dependencies.{depended_on}
use Rattle.store.proofs.Laws.Any.{any_some, each_any}
use Rattle.store.proofs.Laws.Statuses.{absent_unranked, active_unranked}
use Rattle.store.proofs.Laws.Ways.{shortened}
use Rattle.store.proofs.Laws.Cycles.{within}
use Rattle.store.proofs.Laws.Deciding.{alike, either, and_then, all_three, all_four, any, follows}
use mathlib.Core.Logic.Dec

abbrev conflict : (a b : ℕ) (e x : Logged) → Dec (Conflict a b e x)
conflict a b e x =
    all_four (ℕ_discrete x.entry.transaction a) (ℕ_discrete e.entry.transaction b)
    (ℕ_discrete x.object e.object)
    (Bool-discrete (commutes x.entry.operation e.entry.operation) false)

module _ (log : List Logged) where
  abbrev pub depends_on : (a b : ℕ) → Dec (DependsOn log a b)
  depends_on a b = Dec.and (Dec.not (ℕ_discrete a b)) (follows (conflict a b) log)

  -- Some transaction that a depends on is such: it owns an entry.
  abbrev someone : (a : ℕ) {P : ℕ → Type 0} → ((c : ℕ) → P c → DependsOn log a c)
      → ((c : ℕ) → Dec (P c)) → Dec ((c : ℕ) × P c)
  someone a {P} depends d =
      let Owner : Logged → Type 0 = λ l. P l.entry.transaction in
      alike (
        λ p. let w = any_some Owner log p in (w.0.entry.transaction, w.1),
        λ w. depended_on (λ (c : ℕ). P c → Any Owner log) a w.0 log (each_any Owner log)
            (depends w.0 w.1) w.1,
      ) (any (λ (l : Logged). d l.entry.transaction) log)

  abbrev depends : (t : ℕ) → Dec ((u : ℕ) × DependsOn log t u)
  depends t = someone t (λ u d. d) (depends_on t)

  abbrev pub ready : (t : ℕ) → Dec (Ready log t)
  ready t = alike (λ n u d. n (u, d), λ r w. r w.0 w.1) (Dec.not (depends t))

  pub depends_on_some : (t : ℕ) → (Ready log t → ⊥) → (u : ℕ) × DependsOn log t u
  depends_on_some t n = (Dec.not-not (depends t)).0 (λ m. n (λ u d. m (u, d)))

module _ (s : Store) where
  abbrev pub pseudo_committed_lem : (t : ℕ) → Dec (PseudoCommitted s t)
  pseudo_committed_lem t = ranked (status_of s t)
    where
      ranked : (status : Status) → Dec ((rank : ℕ) × (status ≡ pseudo_committed rank))
      ranked absent = no (λ p. absent_unranked p.0 p.1)
      ranked active = no (λ p. active_unranked p.0 p.1)
      ranked (pseudo_committed rank) = yes (rank, refl)

  abbrev way : (n a b : ℕ) → Dec (Way (DependsOn s.log) (PseudoCommitted s) n a b)
  way zero a b = no (λ w. w)
  way (suc n) a b =
      either (depends_on s.log a b)
      (alike (λ w. (w.0, w.1.0, w.1.1, w.1.2), λ w. (w.0, (w.1, w.2, w.3)))
      (someone s.log a (λ c w. w.1) (λ c. all_three (pseudo_committed_lem c) (depends_on s.log a c) (way n c b))))

  abbrev pub cycle : (t : ℕ) → Dec (OnCycle s t)
  cycle t = way 64 t t

  -- Of 64 transactions: a way of any length has one of at most 64 steps.
  module _ (sized : length s.statuses ≡ 64) where
    abbrev leads : (a b : ℕ) → b < 64 → Dec (Leads (DependsOn s.log) (PseudoCommitted s) a b)
    leads a b l =
        alike (λ w. (64, w), shortened (DependsOn s.log) (PseudoCommitted s) (within s sized) a b l) (way 64 a b)

    abbrev pub predecessor : (t : ℕ) → t < 64 → (u : ℕ) → Dec (PRED s t u)
    predecessor t l u = all_three (Dec.not (ℕ_discrete u t)) (pseudo_committed_lem u) (leads u t l)

    abbrev pub successor : (t u : ℕ) → Dec (SUCC s t u)
    successor t u =
        alike (λ p. (p.0, p.1.0, p.1.1), λ p. (p.0, (p.1, p.2)))
        (Dec.and (Dec.not (ℕ_discrete u t)) (and_then (pseudo_committed_lem u) (λ p. leads t u (within s sized u p))))
