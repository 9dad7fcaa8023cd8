-- What the changes of `Steps` leave as it is: statuses and objects by number, entries by transaction and object, and
-- the room that a book has.
use Rattle.std.specs.Prelude.{ℕ, zero, suc, ◌<◌, ◌≤◌, ◌≡◌, refl, Bool, true, false, List, [], ◌∷◌, ◌++◌, eqb, length}
use Rattle.std.specs.Prelude.{get_or, set}
use Rattle.std.proofs.Common.{ap, ◌∙◌, arith, length-set, length-append, get_or-set_same, get_or-set_other}
use Rattle.std.proofs.lemmas.List.{length-map}
use Rattle.std.proofs.Math.ListN.{get_or-map, get_or-eq_default}
use Rattle.operations.specs.Operations.{Operation, Answer, All}
use Rattle.operations.specs.Log.{Entry, only}
use Rattle.operations.proofs.Laws.Cases.{split}
use Rattle.store.specs.Store.{Status, absent, Object, no_object, Logged, Store, status_of, object_of, on_object}
use Rattle.store.specs.Store.{operations_of}
use Rattle.store.specs.Layout.{ObjectFits, Representable, base}
use Rattle.store.specs.Steps.{appended, without, dropped, carried, folded, with_status, lowered, closed_up}
use Rattle.store.proofs.Laws.Words.{below}

-- ---- Statuses and objects by number

module _ {A : Type 0} where
  all_set : (P : A → Type 0) (xs : List A) (i : ℕ) (x : A) → All P xs → P x → All P (set xs i x)
  all_set P [] i x a p = tt
  all_set P (y ∷ xs) zero x a p = (p, a.1)
  all_set P (y ∷ xs) (suc i) x a p = (a.0, all_set P xs i x a.1 p)

  -- A store that keeps something of the element there keeps it of all.
  set_kept : {B : Type 0} (f : A → B) (xs : List A) (i : ℕ) (x d : A) (j : ℕ) → f x ≡ f (get_or xs i d)
      → f (get_or (set xs i x) j d) ≡ f (get_or xs j d)
  set_kept f [] i x d j e = refl
  set_kept f (y ∷ xs) zero x d zero e = e
  set_kept f (y ∷ xs) zero x d (suc j) e = refl
  set_kept f (y ∷ xs) (suc i) x d zero e = refl
  set_kept f (y ∷ xs) (suc i) x d (suc j) e = set_kept f xs i x d j e

module _ (s : Store) (t : ℕ) (status : Status) where
  pub status_own : t < length s.statuses → status_of (with_status t status s) t ≡ status
  status_own l = get_or-set_same s.statuses t status absent l

  pub status_other : (u : ℕ) → (u ≡ t → ⊥) → status_of (with_status t status s) u ≡ status_of s u
  status_other u other = get_or-set_other s.statuses t u status absent other

-- Past the end it is absent too.
pub status_removed : (s : Store) (t : ℕ) → status_of (with_status t absent s) t ≡ absent
status_removed s t =
    below t (length s.statuses) (status_own s t absent)
    (λ (past : length s.statuses ≤ t).
    get_or-eq_default (with_status t absent s).statuses absent (omega (arith, length-set s.statuses t absent)))

pub status_closed : (s : Store) (out t : ℕ) → status_of (closed_up out s) t ≡ lowered out (status_of s t)
status_closed s out t = get_or-map (lowered out) s.statuses t absent

module _ (s : Store) (object : ℕ) (o : Operation) where
  pub object_own : object < length s.objects → object_of (folded object o s) object ≡ carried o (object_of s object)
  object_own l = get_or-set_same s.objects object (carried o (object_of s object)) no_object l

  pub object_other : (x : ℕ) → (x ≡ object → ⊥) → object_of (folded object o s) x ≡ object_of s x
  object_other x other = get_or-set_other s.objects object x (carried o (object_of s object)) no_object other

  -- No kind changes.
  pub kind_folded : (x : ℕ) → (object_of (folded object o s) x).kind ≡ (object_of s x).kind
  kind_folded x = set_kept (λ (y : Object). y.kind) s.objects object (carried o (object_of s object)) no_object x refl

-- ---- Entries

without_length : (t : ℕ) (log : List Logged) → length (without t log) ≤ length log
without_length t [] = omega arith
without_length t (l ∷ log) =
    split (eqb l.entry.transaction t)
    (λ (e : eqb l.entry.transaction t ≡ true). rw e (omega (arith, without_length t log)))
    (λ (e : eqb l.entry.transaction t ≡ false). rw e (omega (arith, without_length t log)))

-- Those of picked transactions, on one object.
pub on_picked : (picked : ℕ → Bool) (o : ℕ) (log : List Logged)
    → on_object o (operations_of picked log) ≡ only picked (on_object o log)
on_picked picked o [] = refl
on_picked picked o (l ∷ log) =
    split (picked l.entry.transaction)
    (λ (e : picked l.entry.transaction ≡ true).
    split (eqb l.object o)
    (λ (f : eqb l.object o ≡ true). simp (e, f)
    (ap (λ (m : List (Entry Operation Answer)). l.entry ∷ m) (on_picked picked o log)))
    (λ (f : eqb l.object o ≡ false). simp (e, f) (on_picked picked o log)))
    (λ (e : picked l.entry.transaction ≡ false).
    split (eqb l.object o)
    (λ (f : eqb l.object o ≡ true). simp (e, f) (on_picked picked o log))
    (λ (f : eqb l.object o ≡ false). simp (e, f) (on_picked picked o log)))

pub on_append : (o : ℕ) (log more : List Logged) → on_object o (log ++ more) ≡ on_object o log ++ on_object o more
on_append o [] more = refl
on_append o (l ∷ log) more =
    split (eqb l.object o)
    (λ (f : eqb l.object o ≡ true). rw f
    (ap (λ (m : List (Entry Operation Answer)). l.entry ∷ m) (on_append o log more)))
    (λ (f : eqb l.object o ≡ false). rw f (on_append o log more))

-- ---- Room in a book

module _ (s : Store) (r : Representable base s) where
  pub representable_status : (t : ℕ) (status : Status) → Representable base (with_status t status s)
  representable_status t status =
      record {
        statuses = length-set s.statuses t status ∙ r.statuses;
        objects = r.objects;
        fit = r.fit;
        entries = r.entries;
      }

  pub representable_closed : (out : ℕ) → Representable base (closed_up out s)
  representable_closed out =
      record {
        statuses = length-map s.statuses (lowered out) ∙ r.statuses;
        objects = r.objects;
        fit = r.fit;
        entries = r.entries;
      }

  pub representable_dropped : (t : ℕ) → Representable base (dropped t s)
  representable_dropped t =
      record {
        statuses = r.statuses;
        objects = r.objects;
        fit = r.fit;
        entries = omega (arith, without_length t s.log, r.entries);
      }

  pub representable_appended : (l : Logged) → length s.log < 256 → Representable base (appended l s)
  representable_appended l room =
      record {
        statuses = r.statuses;
        objects = r.objects;
        fit = r.fit;
        entries = omega (arith, length-append s.log (l ∷ []));
      }

  -- Where the object has a kind and the rows after are at most 64.
  pub representable_folded : (object : ℕ) (o : Operation) → ObjectFits (carried o (object_of s object))
      → Representable base (folded object o s)
  representable_folded object o fits =
      record {
        statuses = r.statuses;
        objects = length-set s.objects object (carried o (object_of s object)) ∙ r.objects;
        fit = all_set ObjectFits s.objects object (carried o (object_of s object)) r.fit fits;
        entries = r.entries;
      }
