-- Who commits once a transaction has ended, those from whom no way of dependencies leads to an active one, and what the
-- commits leave.
use Rattle.std.specs.Prelude.{ℕ, zero, suc, ◌≡◌, refl, true, false, ◌↔◌, ◌⊎◌, List, [], ◌∷◌, ◌++◌, eqb, get_or}
use Rattle.std.proofs.Common.{sym, ap, ◌∙◌, subst, inl, inr, ⊎_elim, append_assoc, append-nil, le_refl, eq-eqb, ne_eqb}
use Rattle.std.proofs.Math.Option.{some}
use Rattle.operations.specs.Operations.{Kind, Row, Operation, Answer, reduce_key, next}
use Rattle.operations.specs.Log.{Entry, only, one, others, after}
use Rattle.operations.proofs.Laws.ObjectTypes.{ObjectType, Log}
use Rattle.operations.proofs.Laws.Cases.{same, split}
use Rattle.operations.proofs.Laws.Objects.{object}
use Rattle.store.specs.Store.{Logged, Store, Active, PseudoCommitted, Object, no_object, object_of, on_object}
use Rattle.store.specs.Dependency.{DependsOn, Ready, Way}
use Rattle.store.specs.Layout.{Representable, base}
use Rattle.store.specs.Soundness.{Unsettled}
use Rattle.store.specs.Steps.{without}
use Rattle.store.proofs.Laws.Statuses.{active_apart, kind_within}
use Rattle.store.proofs.Laws.Ways.{way_monotone}
use Rattle.store.proofs.Laws.Cycles.{Anyone, LeadsToActive, leads_to_active}
use Rattle.store.proofs.Laws.Changes.{on_picked}
use Rattle.protocol.specs.Ending.{ended, commit, Settlement, settlement, committed_first, settled_all}
use Rattle.protocol.specs.Terms.{LowestReady, Among, Distinct, in_order, without_all}
use Rattle.protocol.proofs.Laws.Ranks.{SameOrder, order_itself, ended_order}
use Rattle.protocol.proofs.Laws.Ending.{Left, ended_left, commit_left, commit_order, depends_left, ended_objects}
use Rattle.protocol.proofs.Laws.Ending.{commit_rows}
use Rattle.protocol.proofs.Laws.Settling.{all_settle, settled_kept}
use Rattle.protocol.proofs.Laws.Protocol.{ready_leads_nowhere}
use mathlib.Core.Logic.Iff

-- ---- Ways of dependencies

module _ (s : Store) (t : ℕ) (x : Store) (l : Left s t x) where
  -- A way that does not end at one that depends on nobody does not come by it.
  way_left : Ready s.log t → (v : ℕ) → (v ≡ t → ⊥) → (n a : ℕ) → Way (DependsOn s.log) Anyone n a v
      → Way (DependsOn x.log) Anyone n a v
  way_left ready v other zero a w = w
  way_left ready v other (suc n) a (inl d) =
      inl ((depends_left s t x l a v).1 (d, λ e. ready v (subst (λ (y : ℕ). DependsOn s.log y v) e d), other))
  way_left ready v other (suc n) a (inr (c, p, d, w)) =
      inr (
        c,
        p,
        (depends_left s t x l a c).1 (
          d,
          λ e. ready c (subst (λ (y : ℕ). DependsOn s.log y c) e d),
          λ e. ready_leads_nowhere s.log Anyone n t v ready
              (subst (λ (y : ℕ). Way (DependsOn s.log) Anyone n y v) e w),
        ),
        way_left ready v other n c w,
      )

-- ---- Entries of some transactions

abbrev Entries : Type 0
Entries = List (Entry Operation Answer)

in_order_append : (ts us : List ℕ) (l : Entries) → in_order (ts ++ us) l ≡ in_order ts l ++ in_order us l
in_order_append [] us l = refl
in_order_append (t ∷ ts) us l =
    ap (λ (m : Entries). only (one t) l ++ m) (in_order_append ts us l)
    ∙ sym (append_assoc (only (one t) l) (in_order ts l) (in_order us l))

pub after_append : (X : ObjectType) (l m : Log X) (s : X.State)
    → after X.next (l ++ m) s ≡ after X.next m (after X.next l s)
after_append X [] m s = refl
after_append X (e ∷ l) m s = after_append X l m (X.next e.operation s)

-- Others keep their entries where t's are taken out.
module _ (t : ℕ) where
  only_apart : (u : ℕ) → (u ≡ t → ⊥) → (l : Entries) → only (one u) (only (others (one t)) l) ≡ only (one u) l
  only_apart u other [] = refl
  only_apart u other (e ∷ l) =
      same e.transaction t
      (λ (own : e.transaction ≡ t).
      rw (eq-eqb e.transaction t own, ne_eqb e.transaction u (λ q. other (sym q ∙ own))) (only_apart u other l))
      (λ (apart : e.transaction ≡ t → ⊥).
      split (eqb e.transaction u)
      (λ (b : eqb e.transaction u ≡ true). rw (ne_eqb e.transaction t apart, b)
      (ap (λ (m : Entries). e ∷ m) (only_apart u other l)))
      (λ (b : eqb e.transaction u ≡ false). rw (ne_eqb e.transaction t apart, b) (only_apart u other l)))

  in_order_apart : (ts : List ℕ) → (Among t ts → ⊥) → (l : Entries)
      → in_order ts (only (others (one t)) l) ≡ in_order ts l
  in_order_apart [] n l = refl
  in_order_apart (u ∷ ts) n l = rw (only_apart u (λ e. n (inl e)) l, in_order_apart ts (λ a. n (inr a)) l)

  pub without_twice : (log : List Logged) → without t (without t log) ≡ without t log
  without_twice [] = refl
  without_twice (l ∷ log) =
      split (eqb l.entry.transaction t) (λ (b : eqb l.entry.transaction t ≡ true). rw b (without_twice log))
      (λ (b : eqb l.entry.transaction t ≡ false). rw (b, b) (ap (λ (m : List Logged). l ∷ m) (without_twice log)))

-- ---- What one that ends leaves

-- A store x that t leaves when it ends: own names it where it commits.
pub record Ends (s : Store) (t : ℕ) (own : List ℕ) (x : Store) : Type 0 where
  pub left : Left s t x
  pub order : SameOrder s x
  pub rows : (o : ℕ) (kind : Kind) → (object_of s o).kind ≡ some kind
      → (object_of x o).rows ≡ after next (in_order own (on_object o s.log)) (object_of s o).rows

module _ (s : Store) (t : ℕ) (h : Unsettled base s) where
  pub aborts : Ends s t [] (ended t s)
  aborts =
      record {
        left = ended_left s t;
        order = ended_order s t h.once;
        rows = λ o kind k. ap (λ (xs : List Object). (get_or xs o no_object).rows) (ended_objects s t);
      }

  pub commits : Ends s t (t ∷ []) (commit t s)
  commits =
      record {
        left = commit_left s t;
        order = commit_order s t h.once;
        rows =
            λ o kind k. commit_rows s t kind o (kind_within s o kind k)
            ∙ ap (λ (l : Entries). after next l (object_of s o).rows)
            (sym (append-nil (only (one t) (on_object o s.log))));
      }

-- ---- The commits of one call

-- What some commits of pseudo-committed transactions leave of a store: they carry the entries of those that committed,
-- and no others.
pub record Settles (s : Store) (r : Settlement) : Type 0 where
  pub only : (u : ℕ) → Among u r.committed → PseudoCommitted s u
  pub kept : (u : ℕ) → PseudoCommitted s u → Among u r.committed ⊎ PseudoCommitted r.store u
  pub gone : (u : ℕ) → PseudoCommitted r.store u → PseudoCommitted s u × (Among u r.committed → ⊥)
  pub active : (u : ℕ) → Active r.store u ↔ Active s u
  pub depends : (a b : ℕ) → DependsOn r.store.log a b → DependsOn s.log a b
  pub apart : (u : ℕ) → Among u r.committed → LeadsToActive s u → ⊥
  pub distinct : Distinct r.committed
  pub order : SameOrder s r.store
  pub kinds : (o : ℕ) → (object_of r.store o).kind ≡ (object_of s o).kind
  pub rows : (o : ℕ) (kind : Kind) → (object_of s o).kind ≡ some kind
      → (object_of r.store o).rows
      ≡ after next (in_order r.committed (on_object o s.log)) (object_of s o).rows
  pub log : r.store.log ≡ without_all r.committed s.log

none_commit : (s : Store) → Settles s (settlement s [])
none_commit s =
    record {
      only = λ u a. absurd a;
      kept = λ u p. inr p;
      gone = λ u p. (p, λ a. a);
      active = λ u. (λ e. e, λ e. e);
      depends = λ a b d. d;
      apart = λ u a. absurd a;
      distinct = tt;
      order = order_itself s;
      kinds = λ o. refl;
      rows = λ o kind k. refl;
      log = refl;
    }

-- What commits leave that follow t's end.
module _ (s : Store) (t : ℕ) (own : List ℕ) (x : Store) (e : Ends s t own x) (r : Settlement) (h : Settles x r) where
  -- One that has ended commits no more.
  pub over : Among t r.committed → ⊥
  over a = ((e.left.pseudo_committed t).0 (h.only t a)).0 refl

  pub order_on : SameOrder s r.store
  order_on u v p q i j before-u before-v after-u after-v =
      let a = (h.gone u (i, after-u)).0 in
      let b = (h.gone v (j, after-v)).0 in
      Iff.trans (h.order u v a.0 b.0 i j a.1 b.1 after-u after-v)
      (e.order u v p q a.0 b.0 before-u before-v a.1 b.1)

  pub kinds_on : (o : ℕ) → (object_of r.store o).kind ≡ (object_of s o).kind
  kinds_on o = h.kinds o ∙ e.left.kinds o

  pub rows_on : (o : ℕ) (kind : Kind) → (object_of s o).kind ≡ some kind
      → (object_of r.store o).rows
      ≡ after next (in_order (own ++ r.committed) (on_object o s.log)) (object_of s o).rows
  rows_on o kind k =
      let X = object reduce_key kind in
      let l = on_object o s.log in
      let later = in_order r.committed l in
      let left = ap (on_object o) e.left.log ∙ on_picked (others (one t)) o s.log in
      h.rows o kind (e.left.kinds o ∙ k)
      ∙ ap (λ (m : Entries). after X.next m (object_of x o).rows)
      (ap (in_order r.committed) left ∙ in_order_apart t r.committed over l)
      ∙ ap (λ (m : List Row). after X.next later m) (e.rows o kind k)
      ∙ sym (after_append X (in_order own l) later (object_of s o).rows)
      ∙ ap (λ (m : Entries). after X.next m (object_of s o).rows) (sym (in_order_append own r.committed l))

  pub log_on : r.store.log ≡ without_all r.committed (without t s.log)
  log_on = h.log ∙ ap (without_all r.committed) e.left.log

module _ (s : Store) (t : ℕ) (e : Ends s t (t ∷ []) (commit t s)) (w : LowestReady s t) (r : Settlement)
    (h : Settles (commit t s) r) where
  abbrev left : Left s t (commit t s)
  left = e.left

  inactive : (v : ℕ) → Active s v → v ≡ t → ⊥
  inactive v a q = active_apart s v t a (w.rank, w.ranked) (sym q)

  one_commits : Settles s (committed_first t r)
  one_commits =
      record {
        only = λ u. ⊎_elim (λ q. subst (PseudoCommitted s) q (w.rank, w.ranked))
            (λ a. ((left.pseudo_committed u).0 (h.only u a)).1);
        kept =
            λ u q. same u t (λ (f : u ≡ t). inl (inl (sym f)))
            (λ (other : u ≡ t → ⊥). ⊎_elim (λ a. inl (inr a)) inr (h.kept u ((left.pseudo_committed u).1 (other, q))));
        gone =
            λ u q. let g = h.gone u q in
            let b = (left.pseudo_committed u).0 g.0 in
            (b.1, ⊎_elim (λ f. b.0 (sym f)) g.1);
        active = λ u. (
          λ a. ((left.active u).0 ((h.active u).0 a)).1,
          λ a. (h.active u).1 ((left.active u).1 (inactive u a, a)),
        );
        depends = λ a b d. ((depends_left s t (commit t s) left a b).0 (h.depends a b d)).0;
        apart =
            λ u. ⊎_elim (λ q way. ready_leads_nowhere s.log Anyone way.2.0 u way.0
            (subst (Ready s.log) q w.ready) way.2.1)
            (λ a way. let other = inactive way.0 way.1 in
            h.apart u a (
              way.0,
              (left.active way.0).1 (other, way.1),
              (way.2.0, way_left s t (commit t s) left w.ready way.0 other way.2.0 u way.2.1),
            ));
        distinct = (over s t (t ∷ []) (commit t s) e r h, h.distinct);
        order = order_on s t (t ∷ []) (commit t s) e r h;
        kinds = kinds_on s t (t ∷ []) (commit t s) e r h;
        rows = rows_on s t (t ∷ []) (commit t s) e r h;
        log = log_on s t (t ∷ []) (commit t s) e r h;
      }

-- ---- The commits until none is ready

module _ (s : Store) (r : Representable base s) (h : Unsettled base s) where
  pub all_commits : Settles s (settled_all s)
  all_commits =
      all_settle Settles (λ x q u e. none_commit x)
      (λ x t u. one_commits x t (commits x t u)) s r h

  -- Those commit from whom no way of dependencies leads to an active one.
  pub settles_exactly : (u : ℕ) → PseudoCommitted s u → Among u (settled_all s).committed ↔ (LeadsToActive s u → ⊥)
  settles_exactly u p = (
    all_commits.apart u,
    λ n. ⊎_elim (λ a. a) (λ q. absurd (left_over n q)) (all_commits.kept u p),
  )
    where
      left_over : (LeadsToActive s u → ⊥) → PseudoCommitted (settled_all s).store u → ⊥
      left_over n q =
          let k = settled_kept s r h in
          leads_to_active (settled_all s).store k.1.statuses k.0.unsettled.acyclic k.0.dependent u q
          (λ (w : LeadsToActive (settled_all s).store u).
          n (
            w.0,
            (all_commits.active w.0).0 w.1,
            (
              w.2.0,
              way_monotone (DependsOn (settled_all s).store.log) (DependsOn s.log) Anyone Anyone
                  all_commits.depends (λ c y. y) w.2.0 w.2.0
                  (le_refl w.2.0) u w.0 w.2.1,
            ),
          ))
