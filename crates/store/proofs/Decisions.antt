-- Whether a transaction depends on nobody, lies on a cycle, and whether words are a sound book: each type says what is
-- decided.
use Rattle.std.specs.Prelude.{ℕ, List}
use Rattle.store.specs.Store.{Logged, Store}
use Rattle.store.specs.Dependency.{Ready, OnCycle}
use Rattle.store.specs.Layout.{base}
use Rattle.store.specs.Soundness.{Sound}
use Rattle.store.proofs.Laws.Graph.{ready, cycle}
use Rattle.store.proofs.Laws.Clauses.{base_sound}

unfoldable pub whether_ready : (log : List Logged) (t : ℕ) → Dec (Ready log t)
whether_ready = ready

unfoldable pub whether_on_cycle : (s : Store) (t : ℕ) → Dec (OnCycle s t)
whether_on_cycle = cycle

unfoldable pub whether_sound : (w : List ℕ) → Dec (Sound base w)
whether_sound = base_sound
