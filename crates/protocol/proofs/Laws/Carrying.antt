-- A transaction's entries carried into the rows: what stays, what the rows become, and that they have room at every
-- step.
use Rattle.std.specs.Prelude.{ℕ, ◌+◌, ◌≤◌, ◌<◌, ◌≡◌, refl, true, false, cond, List, [], ◌∷◌, eqb, length, get_or}
use Rattle.std.proofs.Common.{sym, ap, ◌∙◌, arith, eqb-true, eq-eqb, ne_eqb, length-set}
use Rattle.std.proofs.Math.Option.{some, none-ne-some}
use Rattle.std.proofs.lemmas.Bool.{eqb-false}
use Rattle.operations.specs.Operations.{Kind, Row, Operation, kind_of, next, All}
use Rattle.operations.specs.Log.{only, after, one}
use Rattle.operations.proofs.Laws.Cases.{split, same, by_key, all_map}
use Rattle.operations.specs.Operations.{adds}
use Rattle.store.specs.Store.{Status, absent, Object, Logged, Store, status_of, object_of, on_object}
use Rattle.store.specs.Layout.{Representable, additions, base}
use Rattle.store.specs.Soundness.{EntriesFit, Room}
use Rattle.store.specs.Steps.{carried, folded}
use Rattle.store.proofs.Laws.Statuses.{kind_within}
use Rattle.store.proofs.Laws.Capacity.{grows, additions_first}
use Rattle.store.proofs.Laws.Changes.{object_own, object_other, kind_folded, representable_folded}
use Rattle.protocol.specs.Ending.{carried_out}

module _ (l : Logged) (log : List Logged) (o : ℕ) where
  additions_own : l.object ≡ o → additions (on_object o (l ∷ log))
      ≡ cond (adds l.entry.operation) 1 0 + additions (on_object o log)
  additions_own e = rw (eq-eqb l.object o e) (additions_first l.entry (on_object o log))

  additions_other : (l.object ≡ o → ⊥) → additions (on_object o (l ∷ log)) ≡ additions (on_object o log)
  additions_other other = rw (ne_eqb l.object o other) refl

-- ---- What stays

-- What no entry carried in changes.
carried_keeps : {B : Type 0} (f : Store → B) → ((object : ℕ) (o : Operation) (s : Store) → f (folded object o s) ≡ f s)
    → (t : ℕ) (log : List Logged) (s : Store)
    → f (carried_out t log s) ≡ f s
carried_keeps f keeps t [] s = refl
carried_keeps f keeps t (l ∷ log) s =
    split (eqb l.entry.transaction t)
    (λ (e : eqb l.entry.transaction t ≡ true).
    rw e (carried_keeps f keeps t log (folded l.object l.entry.operation s)
    ∙ keeps l.object l.entry.operation s))
    (λ (e : eqb l.entry.transaction t ≡ false). rw e (carried_keeps f keeps t log s))

module _ (t : ℕ) (log : List Logged) (s : Store) where
  pub carried_statuses : (carried_out t log s).statuses ≡ s.statuses
  carried_statuses = carried_keeps (λ (x : Store). x.statuses) (λ object o x. refl) t log s

  pub carried_status : (u : ℕ) → status_of (carried_out t log s) u ≡ status_of s u
  carried_status u = ap (λ (l : List Status). get_or l u absent) carried_statuses

  pub carried_log : (carried_out t log s).log ≡ s.log
  carried_log = carried_keeps (λ (x : Store). x.log) (λ object o x. refl) t log s

  pub carried_kind : (o : ℕ) → (object_of (carried_out t log s) o).kind ≡ (object_of s o).kind
  carried_kind o = carried_keeps (λ (x : Store). (object_of x o).kind) (λ object p x. kind_folded x object p o) t log s

  pub carried_objects : length (carried_out t log s).objects ≡ length s.objects
  carried_objects =
      carried_keeps (λ (x : Store). length x.objects)
      (λ object o x. length-set x.objects object (carried o (object_of x object))) t log s

-- ---- What the rows become

-- Those of an object in the store: as its entries of the transaction leave them, served in order.
module _ (reduce : ℕ → ℕ) (kind : Kind) (t o : ℕ) where
  abbrev served : List Logged → List Row → List Row
  served log rs = after next (only (one t) (on_object o log)) rs

  pub carried_rows : (log : List Logged) (s : Store) → o < length s.objects
      → (object_of (carried_out t log s) o).rows ≡ served log (object_of s o).rows
  carried_rows [] s within = refl
  carried_rows (l ∷ log) s within =
      let p : Operation = l.entry.operation in
      let rest =
      carried_rows log (folded l.object p s)
      (rw (length-set s.objects l.object (carried p (object_of s l.object))) within) in
      split (eqb l.entry.transaction t)
      (λ (e : eqb l.entry.transaction t ≡ true).
      split (eqb l.object o)
      (λ (f : eqb l.object o ≡ true). simp (e, f)
      (rest ∙ ap (λ (x : Object). served log x.rows) (own (eqb-true l.object o f))))
      (λ (f : eqb l.object o ≡ false).
      simp (e, f)
      (rest ∙ ap (λ (x : Object). served log x.rows)
      (object_other s l.object p o (λ q. eqb-false l.object o f (sym q))))))
      (λ (e : eqb l.entry.transaction t ≡ false).
      split (eqb l.object o)
      (λ (f : eqb l.object o ≡ true). simp (e, f) (carried_rows log s within))
      (λ (f : eqb l.object o ≡ false). simp (e, f) (carried_rows log s within)))
    where
      own : l.object ≡ o → object_of (folded l.object l.entry.operation s) o
          ≡ carried l.entry.operation (object_of s o)
      own q = rw q (object_own s o l.entry.operation within)

-- ---- Room at every step

-- The entries of a log can be carried into a store's rows, one by one: each fits its object's kind, and rows and
-- additions to come have room.
pub record Carriable (log : List Logged) (s : Store) : Type 0 where
  pub representable : Representable base s
  pub fits : All (λ (l : Logged). (object_of s l.object).kind ≡ some (kind_of l.entry.operation)) log
  pub room : (o : ℕ) → length (object_of s o).rows + additions (on_object o log) ≤ 64

pub carriable : (s : Store) → Representable base s → EntriesFit s → Room base s → Carriable s.log s
carriable s r fits room = record { representable = r; fits = fits; room = room }

module _ (l : Logged) (log : List Logged) (s : Store) (c : Carriable (l ∷ log) s) where
  -- The next entry has room in its object's rows.
  pub next_fits : length (next l.entry.operation (object_of s l.object).rows) ≤ 64
  next_fits =
      omega (
        arith,
        grows l.entry.operation (object_of s l.object).rows,
        c.room l.object,
        additions_own l log l.object refl,
      )

  within : l.object < length s.objects
  within = kind_within s l.object (kind_of l.entry.operation) c.fits.0

  -- It is another transaction's, and stays out of the rows,
  pub passed : Carriable log s
  passed =
      record {
        representable = c.representable;
        fits = c.fits.1;
        room = λ o.
            same l.object o (λ e. omega (arith, c.room o, additions_own l log o e))
            (λ other. omega (arith, c.room o, additions_other l log o other));
      }

  -- or is carried in.
  pub taken : Carriable log (folded l.object l.entry.operation s)
  taken =
      record {
        representable =
            representable_folded s c.representable l.object o
            (record { rows = next_fits; none = λ e. absurd (none-ne-some (kind_of o) (sym e ∙ c.fits.0)) });
        fits =
            all_map
            {Q = λ (x : Logged).
            (object_of (folded l.object o s) x.object).kind ≡ some (kind_of x.entry.operation)}
            (λ (x : Logged) (e : (object_of s x.object).kind ≡ some (kind_of x.entry.operation)).
            kind_folded s l.object o x.object ∙ e) log
            c.fits.1;
        room = room;
      }
    where
      o : Operation
      o = l.entry.operation

      room : (x : ℕ) → length (object_of (folded l.object o s) x).rows + additions (on_object x log) ≤ 64
      room x =
          by_key (λ (y : ℕ). length (object_of (folded l.object o s) y).rows + additions (on_object y log) ≤ 64) x
          l.object
          (rw (object_own s l.object o within)
          (omega (
            arith,
            grows o (object_of s l.object).rows,
            c.room l.object,
            additions_own l log l.object refl,
          )))
          (λ (other : x ≡ l.object → ⊥). rw (object_other s l.object o x other)
          (omega (arith, c.room x, additions_other l log x (λ e. other (sym e)))))

-- So all can, and rows never pass 64 on the way.
all_carried : (t : ℕ) (log : List Logged) (s : Store) → Carriable log s → Carriable [] (carried_out t log s)
all_carried t [] s c = c
all_carried t (l ∷ log) s c =
    split (eqb l.entry.transaction t)
    (λ (e : eqb l.entry.transaction t ≡ true).
    rw e (all_carried t log (folded l.object l.entry.operation s) (taken l log s c)))
    (λ (e : eqb l.entry.transaction t ≡ false). rw e (all_carried t log s (passed l log s c)))

pub carried_representable : (s : Store) (t : ℕ) → Representable base s → EntriesFit s → Room base s
    → Representable base (carried_out t s.log s)
carried_representable s t r fits room = (all_carried t s.log s (carriable s r fits room)).representable
