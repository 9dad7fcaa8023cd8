-- What finish and cancel leave where the reply counts those that committed.
use Rattle.std.specs.Prelude.{ℕ, ◌<◌, ◌≤◌, ◌≡◌, refl, ◌↔◌, ◌⊎◌, List, [], ◌∷◌, ◌++◌, length, take, drop}
use Rattle.std.proofs.Common.{sym, ap, ◌∙◌, subst, inl, inr, ⊎_elim, arith}
use Rattle.std.proofs.Math.Option.{Option, none, some, none-ne-some, some-injective}
use Rattle.std.proofs.Math.Seq.{take-append_seam}
use Rattle.operations.specs.Operations.{Kind, next}
use Rattle.operations.specs.Log.{after}
use Rattle.store.specs.Store.{Logged, Store, Active, PseudoCommitted, object_of, pseudo_committed_count, on_object}
use Rattle.store.specs.Dependency.{DependsOn, Ready, Leads}
use Rattle.store.specs.Layout.{decode, Representable, base}
use Rattle.store.proofs.Decisions.{whether_sound}
use Rattle.store.specs.Soundness.{Unsettled}
use Rattle.store.specs.Steps.{without}
use Rattle.store.proofs.Theorems.{representable, decoded}
use Rattle.store.proofs.Laws.Any.{any_append}
use Rattle.store.proofs.Laws.Statuses.{active_apart}
use Rattle.store.proofs.Laws.Cycles.{Anyone, LeadsToActive}
use Rattle.protocol.specs.Replies.{Reply, ok, answered, wait, finished, committed, circle, cancelled, counted}
use Rattle.protocol.specs.Replies.{refused, Served}
use Rattle.protocol.specs.Ending.{ended, commit, Settlement, settlement, committed_first, settled_all}
use Rattle.protocol.specs.Calls.{concluded, end_reason, finish, cancel}
use Rattle.protocol.specs.Terms.{EndAccepted, Among, Distinct, in_order, without_all}
use Rattle.protocol.proofs.Laws.Reasons.{end_accepted}
use Rattle.protocol.proofs.Laws.Ranks.{SameOrder, ended_count}
use Rattle.protocol.proofs.Laws.Ending.{ended_representable, ended_unsettled, commit_representable}
use Rattle.protocol.proofs.Laws.Ending.{commit_unsettled}
use Rattle.protocol.proofs.Laws.Settling.{commit_count, settled_few, settled_kept}
use Rattle.protocol.proofs.Laws.Protocol.{clash, finish_by, finishing, cancelling}
use Rattle.protocol.proofs.Laws.Commits.{without_twice, Ends, aborts, commits, Settles, over, order_on, kinds_on}
use Rattle.protocol.proofs.Laws.Commits.{rows_on, log_on, all_commits, settles_exactly}
use mathlib.Core.Logic.Iff

-- Without the transaction's entries, a way of dependencies leads from u to an active one other than it.
abbrev Held : Store → ℕ → ℕ → Type 0
Held s t u = (v : ℕ) × (v ≡ t → ⊥) × Active s v × Leads (DependsOn (without t s.log)) Anyone u v

-- How many a reply names as committed.
abbrev NamesCount : Reply → ℕ → Type 0
NamesCount r n = (r ≡ committed n) ⊎ (r ≡ circle n) ⊎ (r ≡ cancelled n)

-- What a call leaves that ends t: the store once t has ended, then the commits until none is ready, with the n that it
-- names, itself first where it commits.
pub record EndLeaves (s : Store) (t : ℕ) (list : List ℕ) (r : Served) (n : ℕ) : Type 0 where
  pub opened : Active s t
  pub own : List ℕ
  pub once : Store
  pub itself : ((r.outcome.reply ≡ committed n) × (own ≡ t ∷ []) × (once ≡ commit t s))
      ⊎ ((r.outcome.reply ≡ committed n → ⊥) × (own ≡ []) × (once ≡ ended t s))
  pub ends : Ends s t own once
  pub representable : Representable base once
  pub unsettled : Unsettled base once
  pub few : pseudo_committed_count once < 64
  pub store : decode base r.book ≡ (settled_all once).store
  pub rest : r.outcome.list ≡ (own ++ (settled_all once).committed) ++ drop n list
  pub count : length (own ++ (settled_all once).committed) ≡ n

module _ (s : Store) (t : ℕ) (list : List ℕ) (r : Served) (n : ℕ) (c : EndLeaves s t list r n) where
  abbrev later : Store
  later = decode base r.book

  abbrev named : List ℕ
  named = take n r.outcome.list

  abbrev all : Settlement
  all = settled_all c.once

  settles : Settles c.once all
  settles = all_commits c.once c.representable c.unsettled

  front : named ≡ c.own ++ all.committed
  front =
      let l = c.own ++ all.committed in
      ap (take n) c.rest ∙ subst (λ (k : ℕ). take k (l ++ drop n list) ≡ l) c.count
      (take-append_seam l (drop n list))

  -- ---- Who commits, and who stays

  others : (u : ℕ) → PseudoCommitted s u → PseudoCommitted c.once u
  others u p = (c.ends.left.pseudo_committed u).1 (active_apart s t u c.opened p, p)

  held : (u : ℕ) → LeadsToActive c.once u ↔ Held s t u
  held u =
      let left = c.ends.left in (
        λ h. let a = (left.active h.0).0 h.1 in
            (h.0, a.0, a.1, subst (λ (log : List Logged). Leads (DependsOn log) Anyone u h.0) left.log h.2),
        λ h. (
          h.0,
          (left.active h.0).1 (h.1, h.2),
          subst (λ (log : List Logged). Leads (DependsOn log) Anyone u h.0) (sym left.log) h.3,
        ),
      )

  among_own : (u : ℕ) → Among u c.own ↔ ((u ≡ t) × (r.outcome.reply ≡ committed n))
  among_own u =
      let whether : List ℕ → Type 0 = λ own. Among u own ↔ ((u ≡ t) × (r.outcome.reply ≡ committed n)) in
      ⊎_elim (λ h. subst whether (sym h.1) (⊎_elim (λ e. (sym e, h.0)) (λ a. absurd a), λ p. inl (sym p.0)))
      (λ h. subst whether (sym h.1) (λ a. absurd a, λ p. absurd (h.0 p.1))) c.itself

  among_named : (u : ℕ) → Among u named ↔ (Among u c.own ⊎ Among u all.committed)
  among_named u = rw front (any_append (λ (x : ℕ). x ≡ u) c.own all.committed)

  pub commits_exactly : (u : ℕ) → Among u named
      ↔ (((u ≡ t) × (r.outcome.reply ≡ committed n)) ⊎ (PseudoCommitted s u × (Held s t u → ⊥)))
  commits_exactly u = (
    λ a. ⊎_elim (λ b. inl ((among_own u).0 b))
        (λ b. let p = settles.only u b in
        inr (((c.ends.left.pseudo_committed u).0 p).1, λ h. (exact p).0 b ((held u).1 h)))
        ((among_named u).0 a),
    ⊎_elim (λ b. (among_named u).1 (inl ((among_own u).1 b)))
        (λ b. (among_named u).1 (inr ((exact (others u b.0)).1 (λ h. b.1 ((held u).0 h))))),
  )
    where
      exact : PseudoCommitted c.once u → Among u all.committed ↔ (LeadsToActive c.once u → ⊥)
      exact = settles_exactly c.once c.representable c.unsettled u

  pub stay_exactly : (u : ℕ) → PseudoCommitted later u ↔ (PseudoCommitted s u × (Among u named → ⊥))
  stay_exactly u =
      subst (λ (x : Store). PseudoCommitted x u ↔ (PseudoCommitted s u × (Among u named → ⊥))) (sym c.store) (
        λ p. let g = settles.gone u p in
            let b = (c.ends.left.pseudo_committed u).0 g.0 in
            (b.1, λ a. ⊎_elim (λ o. b.0 ((among_own u).0 o).0) g.1 ((among_named u).0 a)),
        λ b. ⊎_elim (λ a. absurd (b.1 ((among_named u).1 (inr a)))) (λ p. p) (settles.kept u (others u b.0)),
      )

  pub ranks_keep_order : SameOrder s later
  ranks_keep_order = subst (SameOrder s) (sym c.store) (order_on s t c.own c.once c.ends all settles)

  pub active_exactly : (u : ℕ) → Active later u ↔ ((u ≡ t → ⊥) × Active s u)
  active_exactly u =
      subst (λ (x : Store). Active x u ↔ ((u ≡ t → ⊥) × Active s u)) (sym c.store)
      (Iff.trans (settles.active u) (c.ends.left.active u))

  -- ---- The list

  -- What holds of itself with the others, whether it commits or not.
  with_itself : (P : List ℕ → Type 0) → P (t ∷ all.committed) → P all.committed → P named
  with_itself P commits aborts =
      subst P (sym (front))
      (⊎_elim (λ h. subst (λ (own : List ℕ). P (own ++ all.committed)) (sym h.1) commits)
      (λ h. subst (λ (own : List ℕ). P (own ++ all.committed)) (sym h.1) aborts) c.itself)

  pub named_in_order : ((r.outcome.reply ≡ committed n) × (named ≡ t ∷ (settled_all (commit t s)).committed))
      ⊎ ((r.outcome.reply ≡ committed n → ⊥) × (named ≡ (settled_all (ended t s)).committed))
  named_in_order =
      let named_by : (own : List ℕ) (once : Store) → c.own ≡ own → c.once ≡ once
      → named ≡ own ++ (settled_all once).committed =
      λ own once e f. front ∙ ap (λ (l : List ℕ). l ++ all.committed) e
      ∙ ap (λ (x : Store). own ++ (settled_all x).committed) f in
      ⊎_elim (λ h. inl (h.0, named_by (t ∷ []) (commit t s) h.1 h.2))
      (λ h. inr (h.0, named_by [] (ended t s) h.1 h.2)) c.itself

  pub named_once : Distinct named
  named_once =
      with_itself Distinct (over s t c.own c.once c.ends all settles, settles.distinct) settles.distinct

  pub named_counted : length named ≡ n
  named_counted = ap (λ (l : List ℕ). length l) (front) ∙ c.count

  pub named_few : n ≤ 64
  named_few =
      let less = settled_few c.once c.few in
      omega (
        arith,
        named_counted,
        with_itself (λ (l : List ℕ). length l ≤ 64) (omega (arith, less)) (omega (arith, less)),
      )

  pub rest_stays : r.outcome.list ≡ named ++ drop n list
  rest_stays = c.rest ∙ ap (λ (l : List ℕ). l ++ drop n list) (sym (front))

  -- ---- Rows and log

  pub rows_carried : (o : ℕ) (kind : Kind) → (object_of s o).kind ≡ some kind
      → (object_of (later) o).rows
      ≡ after next (in_order named (on_object o s.log)) (object_of s o).rows
  rows_carried o kind k =
      ap (λ (x : Store). (object_of x o).rows) c.store
      ∙ rows_on s t c.own c.once c.ends all settles o kind k
      ∙ ap (λ (l : List ℕ). after next (in_order l (on_object o s.log)) (object_of s o).rows)
      (sym (front))

  pub kinds_stay : (o : ℕ) → (object_of (later) o).kind ≡ (object_of s o).kind
  kinds_stay o =
      ap (λ (x : Store). (object_of x o).kind) c.store ∙ kinds_on s t c.own c.once c.ends all settles o

  pub log_left : later.log ≡ without_all named (without t s.log)
  log_left =
      ap (λ (x : Store). x.log) c.store
      ∙ with_itself (λ (l : List ℕ). all.store.log ≡ without_all l (without t s.log))
      (left ∙ ap (without_all all.committed) (sym (without_twice t s.log))) left
    where
      left : all.store.log ≡ without_all all.committed (without t s.log)
      left = log_on s t c.own c.once c.ends all settles

-- How many committed, where a reply says it.
abbrev told : Reply → Option ℕ
told ok = none
told (answered a) = none
told (wait owners count) = none
told finished = none
told (committed n) = some n
told (circle n) = some n
told (cancelled n) = some n
told (counted rows) = none
told (refused reason) = none

tells : (r : Reply) (n : ℕ) → NamesCount r n → told r ≡ some n
tells r n (inl e) = ap told e
tells r n (inr (inl e)) = ap told e
tells r n (inr (inr e)) = ap told e

module _ (w : List ℕ) (t : ℕ) (list : List ℕ) (accepted : end_reason base whether_sound w t list ≡ 0) (n : ℕ)
    (r : Served)
    (names : NamesCount r.outcome.reply n) where
  abbrev book : Store
  book = decode base w

  ending : EndAccepted base w t list
  ending = end_accepted base whether_sound w t list accepted

  fits : Representable base book
  fits = representable w ending.sound.packed

  sound : Unsettled base book
  sound = ending.sound.store.unsettled

  abbrev handed : List ℕ → Store → List ℕ
  handed own once = own ++ (settled_all once).committed

  module _ (own : List ℕ) (once : Store) (said : ℕ → Reply) (numbers : (m : ℕ) → told (said m) ≡ some m)
      (e : r ≡ concluded base said list (settlement (settled_all once).store (handed own once))) where
    counts : length (handed own once) ≡ n
    counts =
        some-injective (length (handed own once)) n
        (sym (numbers (length (handed own once))) ∙ ap (λ (x : Served). told x.outcome.reply) (sym e)
        ∙ tells r.outcome.reply n names)

    concluded_by : ((r.outcome.reply ≡ committed n) × (own ≡ t ∷ []) × (once ≡ commit t book))
        ⊎ ((r.outcome.reply ≡ committed n → ⊥) × (own ≡ []) × (once ≡ ended t book))
        → Ends book t own once → Representable base once → Unsettled base once → pseudo_committed_count once < 64
        → EndLeaves book t list r n
    concluded_by itself ends rep h few =
        let l = handed own once in
        let m = length l in
        record {
          opened = ending.active;
          own = own;
          once = once;
          itself = itself;
          ends = ends;
          representable = rep;
          unsettled = h;
          few = few;
          store = ap (λ (x : Served). decode base x.book) e
              ∙ decoded (settled_all once).store (settled_kept once rep h).1;
          rest = ap (λ (x : Served). x.outcome.list) e ∙ ap (λ (k : ℕ). l ++ drop k list) counts;
          count = counts;
        }

  aborted : (said : ℕ → Reply) → ((m : ℕ) → told (said m) ≡ some m) → ((m : ℕ) → said m ≡ committed n → ⊥)
      → r ≡ concluded base said list (settled_all (ended t book)) → EndLeaves book t list r n
  aborted said numbers never e =
      concluded_by [] (ended t book) said numbers e
      (inr (λ f. never _ (ap (λ (x : Served). x.outcome.reply) (sym e) ∙ f), refl, refl)) (aborts book t sound)
      (ended_representable book t fits) (ended_unsettled book t sound)
      (ended_count book t fits.statuses ending.active)

  committing : Ready book.log t → r ≡ concluded base committed list (committed_first t (settled_all (commit t book)))
      → EndLeaves book t list r n
  committing ready e =
      let replies =
      ap (λ (x : Served). x.outcome.reply) e
      ∙ ap committed (counts (t ∷ []) (commit t book) committed (λ m. refl) e) in
      concluded_by (t ∷ []) (commit t book) committed (λ m. refl) e (inl (replies, refl, refl)) (commits book t sound)
      (commit_representable book t fits sound) (commit_unsettled book t sound ready)
      (commit_count book t fits.statuses ending.active)

  pub concludes : (r ≡ finish base whether_sound w t list) ⊎ (r ≡ cancel base whether_sound w t list)
      → EndLeaves book t list r n
  concludes (inl e) =
      finish_by book t list (λ (x : Served). r ≡ x → EndLeaves book t list r n)
      (λ c. aborted circle (λ m. refl) (λ m f. clash cc)) (λ c. committing c.1)
      (λ c f. absurd (none-ne-some n (ap (λ (x : Served). told x.outcome.reply) (sym f)
      ∙ tells r.outcome.reply n names)))
      (e ∙ finishing w t list accepted)
  concludes (inr e) = aborted cancelled (λ m. refl) (λ m f. clash cc) (e ∙ cancelling w t list accepted)
