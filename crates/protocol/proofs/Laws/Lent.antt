-- Operations lent as words: the one at each place, and what running the first of them leaves.
use Rattle.std.specs.Prelude.{ℕ, zero, suc, ◌+◌, ◌/◌, ◌≤◌, ◌<◌, ◌≡◌, refl, Bool, true, ◌↔◌, List, [], ◌∷◌, ◌++◌}
use Rattle.std.specs.Prelude.{leb, length, get_or, take, drop}
use Rattle.std.proofs.Common.{sym, ap, ap₂, ◌∙◌, inl, inr, append-nil, add-one, arith, eq-eqb, ne_eqb, leb-true, le-leb}
use Rattle.std.proofs.Common.{drop_of_length-le, take-suc, drop-cons}
use Rattle.std.proofs.Math.Bool.{and-eq-true_iff}
use Rattle.std.proofs.Math.ListN.{get_or-map}
use Rattle.std.proofs.lemmas.List.{length-map}
use Rattle.operations.specs.Operations.{Operation, Answer, adds}
use Rattle.operations.specs.Log.{Entry}
use Rattle.operations.proofs.Laws.Cases.{same}
use Rattle.store.specs.Store.{Store, object_of, on_object}
use Rattle.store.specs.Dependency.{Any}
use Rattle.store.specs.Layout.{Format, additions, base}
use Rattle.store.proofs.Laws.Changes.{on_append}
use Rattle.protocol.specs.Calls.{LentOperation, lent_operation, operations_in, requested, answer_to, run, run_all}
use Rattle.protocol.specs.Calls.{answers_to, limits}
use Rattle.protocol.specs.Lent.{lent_from, lent_operations}
use Rattle.protocol.specs.Terms.{SomeCrowded}
use Rattle.protocol.proofs.Laws.Keeping.{additions_last}
use Rattle.protocol.proofs.Laws.Reasons.{crowded}
pub use Rattle.protocol.specs.Terms.{needing, needed_of}

pub lent_count : (l : List ℕ) → length (operations_in l) ≡ length l / 4
lent_count [] = refl
lent_count (o ∷ []) = refl
lent_count (o ∷ number ∷ []) = refl
lent_count (o ∷ number ∷ k ∷ []) = refl
lent_count (o ∷ number ∷ k ∷ v ∷ l) = omega (arith, lent_count l)

-- What is read past the end.
abbrev pub no_operation : LentOperation
no_operation = lent_operation 0 0 0 0

-- Of operations by their four words, the one at place i.
abbrev pub lent_at : List (List ℕ) → ℕ → LentOperation
lent_at lent i = lent_from (get_or lent i [])

module _ (lent : List (List ℕ)) where
  pub lent_length : length (lent_operations lent) ≡ length lent
  lent_length = length-map lent lent_from

  pub lent_at_lem : (i : ℕ) → get_or (lent_operations lent) i no_operation ≡ lent_at lent i
  lent_at_lem i = get_or-map lent_from lent i []

  -- The operations from place i on are that one and the later ones,
  pub from_place : (i : ℕ) → i < length lent
      → drop i (lent_operations lent) ≡ lent_at lent i ∷ drop (i + 1) (lent_operations lent)
  from_place i within =
      let qs : List LentOperation = lent_operations lent in
      drop-cons qs i no_operation (omega (arith, within, lent_length))
      ∙ ap₂ (λ (q : LentOperation) (n : ℕ). q ∷ drop n qs) (lent_at_lem i) (sym (add-one i))

  -- and from the end on there is none.
  pub none_left : (i : ℕ) → length lent ≤ i → drop i (lent_operations lent) ≡ []
  none_left i past = drop_of_length-le (lent_operations lent) {i = i} (omega (arith, past, lent_length))

module _ (format : Format) (t : ℕ) where
  run_append : (first later : List LentOperation) (s : Store)
      → run_all format t (first ++ later) s ≡ run_all format t later (run_all format t first s)
  run_append [] later s = refl
  run_append (q ∷ first) later s = run_append first later (run format t q s)

  answers_append : (first later : List LentOperation) (s : Store)
      → answers_to format t (first ++ later) s
      ≡ answers_to format t first s ++ answers_to format t later (run_all format t first s)
  answers_append [] later s = refl
  answers_append (q ∷ first) later s =
      ap (λ (l : List Answer). answer_to (requested format q) s q.object ∷ l)
      (answers_append first later (run format t q s))

  -- One more of them.
  module _ (qs : List LentOperation) (i : ℕ) (d : LentOperation) (within : i < length qs) (s : Store) where
    pub run_one_more : run_all format t (take (suc i) qs) s ≡ run format t (get_or qs i d) (run_all format t
        (take i qs) s)
    run_one_more =
        ap (λ (l : List LentOperation). run_all format t l s) (take-suc qs i d within)
        ∙ run_append (take i qs) (get_or qs i d ∷ []) s

    pub answers_one_more : let q = get_or qs i d in
        answers_to format t (take (suc i) qs) s
        ≡ answers_to format t (take i qs) s
        ++ (answer_to (requested format q) (run_all format t (take i qs) s) q.object ∷ [])
    answers_one_more =
        ap (λ (l : List LentOperation). answers_to format t l s) (take-suc qs i d within)
        ∙ answers_append (take i qs) (get_or qs i d ∷ []) s

-- ---- Rows that they may need

needed_append : (o : ℕ) (first later : List LentOperation)
    → needed_of o (first ++ later) ≡ needed_of o first + needed_of o later
needed_append o [] later = omega arith
needed_append o (q ∷ first) later = omega (arith, needed_append o first later)

pub needed_one_more : (o : ℕ) (qs : List LentOperation) (i : ℕ) (d : LentOperation) → i < length qs
    → needed_of o (take (suc i) qs) ≡ needed_of o (take i qs) + needing (get_or qs i d) o
needed_one_more o qs i d within =
    ap (needed_of o) (take-suc qs i d within)
    ∙ needed_append o (take i qs) (get_or qs i d ∷ []) ∙ omega arith

module _ (t o : ℕ) where
  used_run : (s : Store) (q : LentOperation) → base.used (run base t q s) o ≡ base.used s o + needing q o
  used_run s q =
      let logged : List (Entry Operation Answer) = on_object o s.log in
      let x : Entry Operation Answer = record {
        transaction = t;
        operation = requested base q;
        answer = answer_to (requested base q) s q.object;
      } in
      ap (λ (l : List (Entry Operation Answer)). length (object_of s o).rows + additions l)
      (on_append o s.log (record { object = q.object; entry = x } ∷ []))
      ∙ same q.object o
      (λ (e : q.object ≡ o). rw (eq-eqb q.object o e) (omega (arith, additions_last logged x)))
      (λ (n : q.object ≡ o → ⊥). rw (ne_eqb q.object o n, append-nil logged) (omega arith))

  -- Those that have run count as the logged ones do.
  pub used_all : (s : Store) (qs : List LentOperation)
      → base.used (run_all base t qs s) o ≡ base.used s o + needed_of o qs
  used_all s [] = omega arith
  used_all s (q ∷ qs) = omega (arith, used_all (run base t q s) qs, used_run s q)

-- One of several finds no room exactly where some push or insert does with those before it counted.
module _ (t : ℕ) where
  abbrev pub RowLimitMet : Store → List LentOperation → Type 0
  RowLimitMet s qs = Any (λ (reason : ℕ × Bool). reason.1 ≡ true) (limits base 11 (crowded base t) t s qs)

  met : (s : Store) (qs : List LentOperation) → RowLimitMet s qs → SomeCrowded s qs
  met s [] a = absurd a
  met s (q ∷ qs) (inl e) =
      let (adding, over) = (and-eq-true_iff (adds (requested base q)) (leb 64 (base.used s q.object))).0 e in
      (0, omega arith, (adding, omega (arith, leb-true 64 (base.used s q.object) over)))
  met s (q ∷ qs) (inr a) =
      let (i, within, (adding, over)) = met (run base t q s) qs a in
      (suc i, omega (arith, within), (adding, omega (arith, over, used_run t (get_or qs i no_operation).object s q)))

  meets : (s : Store) (qs : List LentOperation) → SomeCrowded s qs → RowLimitMet s qs
  meets s [] p = absurd (omega (arith, p.1))
  meets s (q ∷ qs) (zero, within, (adding, over)) =
      inl ((and-eq-true_iff (adds (requested base q)) (leb 64 (base.used s q.object))).1
      (adding, le-leb 64 (base.used s q.object) (omega (arith, over))))
  meets s (q ∷ qs) (suc i, within, (adding, over)) =
      inr (meets (run base t q s) qs
      (i, omega (arith, within), (adding, omega (arith, over, used_run t (get_or qs i no_operation).object s q))))

  pub row_limit_lem : (s : Store) (qs : List LentOperation) → RowLimitMet s qs ↔ SomeCrowded s qs
  row_limit_lem s qs = (met s qs, meets s qs)
