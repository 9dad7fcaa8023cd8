-- Serving operations in order, object by object.
use Rattle.std.specs.Prelude.{ℕ, ◌≡◌, refl, true, false, List, [], ◌∷◌, ◌++◌, eqb}
use Rattle.std.proofs.Common.{sym, ap, ap₂, ◌∙◌, append_assoc, eq-eqb}
use Rattle.std.proofs.lemmas.List.{map-append}
use Rattle.operations.specs.Operations.{Kind, Answer, All, kind_of, answer, next}
use Rattle.operations.specs.Log.{after, Answered}
use Rattle.operations.proofs.Laws.Cases.{split}
use Rattle.operations.proofs.Laws.Objects.{object}
use Rattle.store.specs.Store.{Logged, on_object}
use Rattle.history.specs.History.{Committed, serial, Contents, changed, reached, answers, given}

-- An object's rows become what its own operations make of them.
pub reached_rows : (reduce : ℕ → ℕ) (kind : Kind) (ls : List Logged) (rows : Contents) (o : ℕ)
    → reached ls rows o ≡ after next (on_object o ls) (rows o)
reached_rows reduce kind [] rows o = refl
reached_rows reduce kind (l ∷ ls) rows o =
    let rest = reached_rows reduce kind ls (changed l rows) o in
    split (eqb l.object o) (λ (b : eqb l.object o ≡ true). rw b (rw b at rest))
    (λ (b : eqb l.object o ≡ false). rw b (rw b at rest))

pub reached_append : (l m : List Logged) (rows : Contents) → reached (l ++ m) rows ≡ reached m (reached l rows)
reached_append [] m rows = refl
reached_append (e ∷ l) m rows = reached_append l m (changed e rows)

answers_append : (l m : List Logged) (rows : Contents)
    → answers (l ++ m) rows ≡ answers l rows ++ answers m (reached l rows)
answers_append [] m rows = refl
answers_append (e ∷ l) m rows =
    ap (λ (x : List Answer). answer e.entry.operation (rows e.object) ∷ x) (answers_append l m (changed e rows))

pub serial_append : (c d : List Committed) → serial (c ++ d) ≡ serial c ++ serial d
serial_append [] d = refl
serial_append (x ∷ c) d =
    ap (λ (l : List Logged). x.operations ++ l) (serial_append c d)
    ∙ sym (append_assoc x.operations (serial c) (serial d))

-- Each gets the answer that it was given, where it does on its object. `kind_at` says the objects' kinds.
pub answers_given : (reduce : ℕ → ℕ) (kind_at : ℕ → Kind → Type 0) (ls : List Logged) (rows : Contents)
    → All (λ (l : Logged). kind_at l.object (kind_of l.entry.operation)) ls
    → ((o : ℕ) (kind : Kind) → kind_at o kind → Answered next answer (on_object o ls) (rows o))
    → answers ls rows ≡ given ls
answers_given reduce kind_at [] rows fits each = refl
answers_given reduce kind_at (l ∷ ls) rows fits each =
    ap₂ ◌∷◌ own (answers_given reduce kind_at ls (changed l rows) fits.1 later)
  where
    own : answer l.entry.operation (rows l.object) ≡ l.entry.answer
    own = (rw (eq-eqb l.object l.object refl) at (each l.object (kind_of l.entry.operation) fits.0)).0

    later : (o : ℕ) (kind : Kind) → kind_at o kind → Answered next answer (on_object o ls) (changed l rows o)
    later o kind k =
        split (eqb l.object o) (λ (b : eqb l.object o ≡ true). rw b (rw b at (each o kind k)).1)
        (λ (b : eqb l.object o ≡ false). rw b (rw b at (each o kind k)))

-- So do the operations of one list and of another served after it.
pub answers_both : (l m : List Logged) (rows : Contents) → answers l rows ≡ given l
    → answers m (reached l rows) ≡ given m
    → answers (l ++ m) rows ≡ given (l ++ m)
answers_both l m rows first later =
    answers_append l m rows ∙ ap₂ ◌++◌ first later ∙ sym (map-append (λ (e : Logged). e.entry.answer) l m)
