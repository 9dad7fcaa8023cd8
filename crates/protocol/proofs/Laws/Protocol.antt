-- What a call that is not refused replies, and on whom a transaction depends afterwards.
use Rattle.std.specs.Prelude.{ℕ, zero, suc, ◌+◌, ◌≤◌, ◌<◌, ◌≡◌, refl, false, ◌↔◌, ◌⊎◌, List, [], ◌∷◌, ◌++◌, length}
use Rattle.std.specs.Prelude.{get_or}
use Rattle.std.proofs.Common.{sym, ap, ◌∙◌, subst, inl, inr, ⊎_elim, arith}
use Rattle.std.proofs.lemmas.Bool.{false≢true}
use Rattle.std.proofs.Math.Bool.{decide, decide_iff}
use Rattle.operations.specs.Operations.{Operation, Answer}
use Rattle.operations.specs.PairRules.{commutes}
use Rattle.bitset.specs.Bitset.{size}
use Rattle.store.specs.Store.{pseudo_committed, Logged, Store, PseudoCommitted, pseudo_committed_count, on_object}
use Rattle.store.specs.Dependency.{Any, Follows, Conflict, DependsOn, Ready, Way, Leads, OnCycle}
use Rattle.store.specs.Layout.{decode, encode, Representable, base, word, entry_start, entry_words}
use Rattle.store.proofs.Decisions.{whether_ready, whether_on_cycle, whether_sound}
use Rattle.store.specs.Steps.{appended, with_status}
use Rattle.store.proofs.Theorems.{representable, decoded, cycle_any_length}
use Rattle.store.proofs.Laws.Changes.{representable_status, representable_appended}
use Rattle.store.proofs.Laws.Edges.{depends_appended}
use Rattle.store.proofs.Laws.Writing.{log_counted, entry_put, put_count, put_entry, put_other, put_length}
use Rattle.store.proofs.Laws.Graph.{depends_on_some}
use Rattle.store.proofs.Laws.Any.{any_some, any_map}
use Rattle.store.proofs.Laws.Deciding.{decided}
use Rattle.store.proofs.Laws.Lists.{PairBelow, follows_some, follows_of, tabulate_get_d}
use Rattle.protocol.specs.Replies.{Reply, answered, wait, finished, committed, circle, cancelled, outcome, Served}
use Rattle.protocol.specs.Replies.{served}
use Rattle.protocol.specs.Ending.{ended, commit, committed_first, settled_all}
use Rattle.protocol.specs.Terms.{Places}
use Rattle.protocol.proofs.Laws.Reasons.{unless_accepted, operate_accepted, end_accepted}
use Rattle.protocol.specs.Calls.{LentOperation, lent_operation, operations_in, unless, owners, request, requested}
use Rattle.protocol.specs.Calls.{answer_to, answers_to, awaited, respond, finish_active, batch_reason, batch}
use Rattle.protocol.specs.Calls.{operate_reason, operate, end_reason, finish, cancel, concluded}
use mathlib.Core.Logic.Iff

-- Two constructors are not the same.
pub clash : {A : Type 0} → ◌≡◌ {A = ℕ} 0 1 → A
clash e = absurd (omega arith)

-- ---- Operate and batch: answered or told to wait

module _ (w : List ℕ) (t : ℕ) (qs : List LentOperation) where
  abbrev said : ℕ → Reply
  said awaited = (respond base w t qs awaited).outcome.reply

  pub answered_none : (awaited : ℕ) → ((given : List Answer) × (said awaited ≡ answered given)) ↔ (awaited ≡ 0)
  answered_none zero = (λ p. refl, λ e. (answers_to base t qs (decode base w), refl))
  answered_none (suc n) = (λ p. let e = p.1 in clash cc, λ e. absurd (omega arith))

  pub waits_some : (set count awaited : ℕ)
      → (said awaited ≡ wait set count) ↔ ((set ≡ awaited) × (set ≡ 0 → ⊥) × (count ≡ size set))
  waits_some set count zero = (λ e. clash cc, λ p. absurd (p.1 p.0))
  waits_some set count (suc n) = (
    λ e. let same : set ≡ suc n = cc in (same, λ z. omega (arith, same, z), cc),
    λ p. let same = p.0 in let counted = p.2 in cc,
  )

  pub told_to_wait : (awaited : ℕ) → (awaited ≡ 0 → ⊥) → (set count : ℕ) × (said awaited ≡ wait set count)
  told_to_wait zero some = absurd (some refl)
  told_to_wait (suc n) some = (suc n, size (suc n), refl)

  pub waits_unchanged : (set count awaited : ℕ) → said awaited ≡ wait set count
      → (respond base w t qs awaited).book ≡ w
  waits_unchanged set count zero e = clash cc
  waits_unchanged set count (suc n) e = refl

  pub either_reply : (awaited : ℕ)
      → ((given : List Answer) × (said awaited ≡ answered given)) ⊎ ((set count : ℕ) × (said awaited ≡ wait set count))
  either_reply zero = inl (answers_to base t qs (decode base w), refl)
  either_reply (suc n) = inr (suc n, size (suc n), refl)

-- One operation has one answer.
module _ (w : List ℕ) (t : ℕ) (q : LentOperation) where
  abbrev AnsweredOnce : ℕ → Type 0
  AnsweredOnce barring = (a : Answer) × (said w t (q ∷ []) barring ≡ answered (a ∷ []))

  pub answered_once : (barring : ℕ) → AnsweredOnce barring ↔ (barring ≡ 0)
  answered_once zero = (λ p. refl, λ e. (answer_to (requested base q) (decode base w) q.object, refl))
  answered_once (suc n) = (λ p. let e = p.1 in clash cc, λ e. absurd (omega arith))

  pub either_once : (barring : ℕ)
      → AnsweredOnce barring ⊎ ((set count : ℕ) × (said w t (q ∷ []) barring ≡ wait set count))
  either_once zero = inl (answer_to (requested base q) (decode base w) q.object, refl)
  either_once (suc n) = inr (suc n, size (suc n), refl)

-- Where nobody forces it to wait, it is answered or refused.
pub never_waits : (w : List ℕ) (t o number k v : ℕ)
    → owners t (request base number k v) (on_object o (decode base w).log) ≡ 0
    → (set count : ℕ) → (operate base whether_sound w t o number k v).outcome.reply ≡ wait set count → ⊥
unfolding operate batch
never_waits w t o number k v none set count said =
    by (operate_reason base whether_sound w t o number k v)
    (subst (λ (awaited : ℕ). (unless (operate_reason base whether_sound w t o number k v) w []
    (respond base w t (lent_operation o number k v ∷ []) awaited)).outcome.reply ≡ wait set count) none said)
  where
    by : (reason : ℕ)
        → (unless reason w [] (respond base w t (lent_operation o number k v ∷ []) 0)).outcome.reply ≡ wait set count
        → ⊥
    by zero e = clash cc
    by (suc reason) e = clash cc

-- An accepted batch is answered or told to wait.
pub batch_responded : (w : List ℕ) (t : ℕ) (operations : List ℕ) → batch_reason base whether_sound w t operations ≡ 0
    → let qs = operations_in operations in
    batch base whether_sound w t operations ≡ respond base w t qs (awaited base t (decode base w) qs)
unfolding batch
batch_responded w t operations =
    let qs = operations_in operations in
    unless_accepted (batch_reason base whether_sound w t operations) w []
    (respond base w t qs (awaited base t (decode base w) qs))

-- ---- Operate: ordered behind another

-- The entry is b's, on the object, and does not commute with the request.
abbrev pub Behind : ℕ → Operation → ℕ → Logged → Type 0
Behind o requested b l =
    (l.entry.transaction ≡ b) × (l.object ≡ o) × (commutes requested l.entry.operation ≡ false)

-- A request of t that is put last in the log is behind those whose entries it conflicts with.
behind : (x b : ℕ) (last : Logged) (log : List Logged)
    → ((x ≡ b → ⊥) × Any (λ (e : Logged). Conflict x b e last) log)
    ↔ ((x ≡ last.entry.transaction) × (x ≡ b → ⊥) × Any (Behind last.object last.entry.operation b) log)
behind x b last log = (
  λ p. let c = any_some (λ (e : Logged). Conflict x b e last) log p.1 in (
    sym c.1.0,
    p.0,
    any_map (λ (e : Logged). Conflict x b e last) (Behind last.object last.entry.operation b)
        (λ l h. (h.1, sym h.2, h.3)) log p.1,
  ),
  λ p. (
    p.1,
    any_map (Behind last.object last.entry.operation b) (λ (e : Logged). Conflict x b e last)
        (λ l h. (sym p.0, h.0, sym h.1, h.2)) log p.2,
  ),
)

-- So it orders its transaction behind their owners, and no other behind anyone.
pub ordered_last : (x b : ℕ) (last : Logged) (log : List Logged)
    → DependsOn (log ++ (last ∷ [])) x b
    ↔ (DependsOn log x b
    ⊎ ((x ≡ last.entry.transaction) × (x ≡ b → ⊥) × Any (Behind last.object last.entry.operation b) log))
ordered_last x b last log =
    Iff.trans (depends_appended x b last log) (
      ⊎_elim inl (λ p. inr ((behind x b last log).0 p)),
      ⊎_elim inl (λ p. inr ((behind x b last log).1 p)),
    )

-- An entry and a later one that conflict stand at two places of the log.
pub conflict_places : (d : Logged) (log : List Logged) (a b : ℕ) → Follows (Conflict a b) log ↔ Places d log a b
conflict_places d log a b = (
  λ h. places (follows_some (Conflict a b) (length log) entry
      (subst (Follows (Conflict a b)) (sym (tabulate_get_d log d)) h)),
  λ p. subst (Follows (Conflict a b)) (tabulate_get_d log d)
      (follows_of (Conflict a b) (length log) entry p.earlier p.later p.in_order p.within
      (p.own, p.owner, p.object, p.conflicting)),
)
  where
    entry : ℕ → Logged
    entry i = get_or log i d

    places : PairBelow (Conflict a b) (length log) entry → Places d log a b
    places (i, j, l, m, c) =
        record {
          earlier = i;
          later = j;
          in_order = l;
          within = m;
          owner = c.1;
          own = c.0;
          object = c.2;
          conflicting = c.3;
        }

-- ---- Operate

module _ (w : List ℕ) (t o number k v : ℕ) (accepted : operate_reason base whether_sound w t o number k v ≡ 0) where
  abbrev s : Store
  s = decode base w

  abbrev asked : Operation
  asked = request base number k v

  abbrev operated : Served
  operated = operate base whether_sound w t o number k v

  abbrev only : List LentOperation
  only = lent_operation o number k v ∷ []

  -- Whom the log's entries on the object make it wait for.
  abbrev barring : ℕ
  barring = owners t asked (on_object o s.log)

  pub responded : operated ≡ respond base w t only barring
  unfolding operate
  responded = batch_responded w t (o ∷ number ∷ k ∷ v ∷ []) accepted

  -- The set that it is told to wait for is that of the owners.
  pub awaits : (set count : ℕ) → operated.outcome.reply ≡ wait set count → set ≡ barring
  awaits set count said =
      ((waits_some w t only set count barring).0 (ap (λ (r : Served). r.outcome.reply) (sym responded) ∙ said)).0

  -- The answered request's entry.
  abbrev entry_of : Answer → Logged
  entry_of a = record { object = o; entry = record { transaction = t; operation = asked; answer = a } }

  module _ (a : Answer) (said : operated.outcome.reply ≡ answered (a ∷ [])) where
    passed : barring ≡ 0
    passed = (answered_none w t only barring).0 (a ∷ [], ap (λ (r : Served). r.outcome.reply) (sym responded) ∙ said)

    carried_through : operated ≡ respond base w t only 0
    carried_through = responded ∙ ap (respond base w t only) passed

    pub replayed : a ≡ answer_to asked s o
    replayed =
        let e : answered (answer_to asked s o ∷ []) ≡ answered (a ∷ []) =
        ap (λ (r : Served). r.outcome.reply) (sym carried_through) ∙ said in
        cc

    -- The book is that with the entry put last.
    written : operated.book ≡ encode base (appended (entry_of a) s)
    written =
        ap (λ (r : Served). r.book) carried_through
        ∙ ap (λ (x : Answer). encode base (appended (entry_of x) s)) (sym replayed)

    pub eight_words : let start = entry_start (word w 0) in
        (word operated.book 0 ≡ word w 0 + 1)
        × ((j : ℕ) → j < 7 → word operated.book (start + j) ≡ word (entry_words (entry_of a)) j)
        × ((i : ℕ) → (i ≡ 0 → ⊥) → (i < start) ⊎ (start + 7 ≤ i) → word operated.book i ≡ word w i)
        × (length operated.book ≡ length w)
    eight_words =
        let h = operate_accepted base whether_sound w t o number k v accepted in
        let l = entry_of a in
        let packed = h.sound.packed in
        let room : word w 0 < 256 = omega (arith, log_counted w, h.entries) in
        rw (written, ← entry_put w packed l room)
        (put_count w packed l room, put_entry w packed l room, put_other w packed l room, put_length w packed l room)

    pub entered_last : decode base operated.book ≡ appended (entry_of a) s
    entered_last =
        let h = operate_accepted base whether_sound w t o number k v accepted in
        ap (decode base) written
        ∙ decoded (appended (entry_of a) s)
        (representable_appended s (representable w h.sound.packed) (entry_of a) h.entries)

    pub ordered : (x b : ℕ)
        → DependsOn (decode base operated.book).log x b
        ↔ (DependsOn s.log x b ⊎ ((x ≡ t) × (x ≡ b → ⊥) × Any (Behind o asked b) s.log))
    ordered x b =
        subst (λ (l : List Logged). DependsOn l x b ↔ (DependsOn s.log x b
        ⊎ ((x ≡ t) × (x ≡ b → ⊥) × Any (Behind o asked b) s.log)))
        (ap (λ (r : Store). r.log) (sym entered_last))
        (ordered_last x b (entry_of a) s.log)

-- ---- Finish: a circle, a commit or neither

not_decided : {P : Type 0} (d : Dec P) → (P → ⊥) → decide d ≡ false
not_decided d n = decided d false (λ e. absurd (false≢true e), λ p. absurd (n p))

-- No way leads on from one that depends on nobody.
pub ready_leads_nowhere : (log : List Logged) (Through : ℕ → Type 0) (n t u : ℕ) → Ready log t
    → Way (DependsOn log) Through n t u → ⊥
ready_leads_nowhere log Through zero t u ready w = w
ready_leads_nowhere log Through (suc n) t u ready (inl d) = ready u d
ready_leads_nowhere log Through (suc n) t u ready (inr (c, p, d, w)) = ready c d

module _ (s : Store) (t : ℕ) where
  abbrev OnCircle : Type 0
  OnCircle = OnCycle s t

  abbrev OnNobody : Type 0
  OnNobody = (OnCycle s t → ⊥) × Ready s.log t

  abbrev OnOthers : Type 0
  OnOthers = (OnCycle s t → ⊥) × (Ready s.log t → ⊥)

  which : OnCircle ⊎ OnNobody ⊎ OnOthers
  which = tested (whether_on_cycle s t) (whether_ready s.log t)
    where
      tested : Dec (OnCycle s t) → Dec (Ready s.log t) → OnCircle ⊎ OnNobody ⊎ OnOthers
      tested (yes c) d = inl c
      tested (no n) (yes r) = inr (inl (n, r))
      tested (no n) (no m) = inr (inr (n, m))

module _ (s : Store) (t : ℕ) (list : List ℕ) where
  pub on_circle : OnCircle s t → finish_active base s t list ≡ concluded base circle list (settled_all (ended t s))
  on_circle c = let e = (decide_iff (whether_on_cycle s t)).1 c in rw e refl

  pub on_nobody : OnNobody s t → finish_active base s t list
      ≡ concluded base committed list (committed_first t (settled_all (commit t s)))
  on_nobody (n, r) =
      let e = not_decided (whether_on_cycle s t) n in
      let f = (decide_iff (whether_ready s.log t)).1 r in
      rw (e, f) refl

  pub on_others : OnOthers s t
      → finish_active base s t list
      ≡ served (encode base (with_status t (pseudo_committed (pseudo_committed_count s)) s)) (outcome finished list [])
  on_others (n, m) =
      let e = not_decided (whether_on_cycle s t) n in
      let f = not_decided (whether_ready s.log t) m in
      rw (e, f) refl

  -- What holds of each of the three ways holds of finish.
  pub finish_by : (P : Served → Type 0) → (OnCircle s t → P (concluded base circle list (settled_all (ended t s))))
      → (OnNobody s t → P (concluded base committed list (committed_first t (settled_all (commit t s)))))
      → (OnOthers s t
      → P (served (encode base (with_status t (pseudo_committed (pseudo_committed_count s)) s))
      (outcome finished list [])))
      → P (finish_active base s t list)
  finish_by P cyclic free dependent = by (which s t)
    where
      by : OnCircle s t ⊎ OnNobody s t ⊎ OnOthers s t → P (finish_active base s t list)
      by (inl c) = subst P (sym (on_circle c)) (cyclic c)
      by (inr (inl h)) = subst P (sym (on_nobody h)) (free h)
      by (inr (inr h)) = subst P (sym (on_others h)) (dependent h)

  pub circle_exactly : ((n : ℕ) × ((finish_active base s t list).outcome.reply ≡ circle n)) ↔ OnCycle s t
  circle_exactly =
      finish_by (λ (r : Served). ((n : ℕ) × (r.outcome.reply ≡ circle n)) ↔ OnCycle s t)
      (λ c. (λ p. c, λ p. (_, refl)))
      (λ h. (λ p. let e = p.1 in clash cc, λ c. absurd (h.0 c)))
      (λ h. (λ p. let e = p.1 in clash cc, λ c. absurd (h.0 c)))

  pub committed_exactly : ((n : ℕ) × ((finish_active base s t list).outcome.reply ≡ committed n)) ↔ Ready s.log t
  committed_exactly =
      finish_by (λ (r : Served). ((n : ℕ) × (r.outcome.reply ≡ committed n)) ↔ Ready s.log t)
      (λ c. (λ p. let e = p.1 in clash cc, λ r. absurd (ready_leads_nowhere s.log (PseudoCommitted s) 64 t t r c)))
      (λ h. (λ p. h.1, λ p. (_, refl))) (λ h. (λ p. let e = p.1 in clash cc, λ r. absurd (h.1 r)))

  pub finished_exactly : ((finish_active base s t list).outcome.reply ≡ finished)
      ↔ ((OnCycle s t → ⊥) × ((u : ℕ) × DependsOn s.log t u))
  finished_exactly =
      finish_by (λ (r : Served). (r.outcome.reply ≡ finished)
      ↔ ((OnCycle s t → ⊥) × ((u : ℕ) × DependsOn s.log t u)))
      (λ c. (λ e. clash cc, λ h. absurd (h.0 c))) (λ h. (λ e. clash cc, λ g. absurd (h.1 g.1.0 g.1.1)))
      (λ h. (λ e. (h.0, depends_on_some s.log t h.1), λ g. refl))

  abbrev OneOfThree : Reply → Type 0
  OneOfThree r = ((n : ℕ) × (r ≡ circle n)) ⊎ ((n : ℕ) × (r ≡ committed n)) ⊎ (r ≡ finished)

  pub one_of_three : OneOfThree (finish_active base s t list).outcome.reply
  one_of_three =
      finish_by (λ (r : Served). OneOfThree r.outcome.reply) (λ c. inl (_, refl)) (λ h. inr (inl (_, refl)))
      (λ h. inr (inr refl))

  -- Pseudo-committed, it is last in the order of finishing.
  pub ranked_last : Representable base s → (finish_active base s t list).outcome.reply ≡ finished
      → (decode base (finish_active base s t list).book ≡ with_status t (pseudo_committed (pseudo_committed_count s)) s)
      × ((finish_active base s t list).outcome.list ≡ list)
  ranked_last fits e =
      let h = finished_exactly.0 e in
      let others = on_others (h.0, λ ready. ready h.1.0 h.1.1) in
      let rank = pseudo_committed (pseudo_committed_count s) in (
        ap (λ (r : Served). decode base r.book) others
            ∙ decoded (with_status t rank s) (representable_status s fits t rank),
        ap (λ (r : Served). r.outcome.list) others,
      )

module _ (w : List ℕ) (t : ℕ) (list : List ℕ) (accepted : end_reason base whether_sound w t list ≡ 0) where
  abbrev book : Store
  book = decode base w

  pub finishing : finish base whether_sound w t list ≡ finish_active base book t list
  unfolding finish
  finishing = unless_accepted (end_reason base whether_sound w t list) w list (finish_active base book t list) accepted

  pub cancelling : cancel base whether_sound w t list ≡ concluded base cancelled list (settled_all (ended t book))
  unfolding cancel
  cancelling =
      unless_accepted (end_reason base whether_sound w t list) w list
      (concluded base cancelled list (settled_all (ended t book))) accepted

  pub any_circle : OnCycle book t ↔ Leads (DependsOn book.log) (PseudoCommitted book) t t
  any_circle =
      let h = end_accepted base whether_sound w t list accepted in
      cycle_any_length book (representable w h.sound.packed).statuses t h.below
