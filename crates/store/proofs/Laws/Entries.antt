-- The log from an entry on, and an object's entries there, as passes over the words meet them.
use Rattle.std.specs.Prelude.{ℕ, ◌+◌, ◌≤◌, ◌<◌, ◌≡◌, Bool, cond, List, [], ◌∷◌, drop}
use Rattle.std.proofs.Common.{ap, ◌∙◌, eq-eqb, ne_eqb}
use Rattle.operations.specs.Operations.{Operation, Answer}
use Rattle.operations.specs.Log.{Entry}
use Rattle.store.specs.Store.{Logged, on_object}
use Rattle.store.specs.Layout.{word, tabulate, entry_start, entry_at}
use Rattle.store.proofs.Laws.Lists.{drop_tabulate, drop_past}

abbrev pub log_from : List ℕ → ℕ → List Logged
log_from w i = drop i (tabulate (word w 0) (entry_at w))

abbrev pub entries_from : List ℕ → ℕ → ℕ → List (Entry Operation Answer)
entries_from w o i = on_object o (log_from w i)

module _ (w : List ℕ) (i : ℕ) where
  pub log_here : i < word w 0 → log_from w i ≡ entry_at w i ∷ log_from w (i + 1)
  log_here = drop_tabulate (word w 0) (entry_at w) i

  pub log_end : word w 0 ≤ i → log_from w i ≡ []
  log_end = drop_past (word w 0) (entry_at w) i

  module _ (o : ℕ) where
    -- The entry stands first among them where it is of the object.
    abbrev first : Bool → List (Entry Operation Answer)
    first own = cond own ((entry_at w i).entry ∷ entries_from w o (i + 1)) (entries_from w o (i + 1))

    pub entries_own : i < word w 0 → word w (entry_start i + 1) ≡ o
        → entries_from w o i ≡ (entry_at w i).entry ∷ entries_from w o (i + 1)
    entries_own l e = ap (on_object o) (log_here l) ∙ ap first (eq-eqb (word w (entry_start i + 1)) o e)

    pub entries_other : i < word w 0 → (word w (entry_start i + 1) ≡ o → ⊥)
        → entries_from w o i ≡ entries_from w o (i + 1)
    entries_other l e = ap (on_object o) (log_here l) ∙ ap first (ne_eqb (word w (entry_start i + 1)) o e)

    pub entries_end : word w 0 ≤ i → entries_from w o i ≡ []
    entries_end l = ap (on_object o) (log_end l)
