-- The changes of a store that calls are made of.
use Rattle.std.specs.Prelude.{ℕ, ◌-◌, cond, List, [], ◌∷◌, ◌++◌, map, ltb, set}
use Rattle.operations.specs.Operations.{Operation, next}
use Rattle.operations.specs.Log.{one, others}
use Rattle.store.specs.Store.{Status, absent, active, pseudo_committed, Object, Logged, Store, object_of}
use Rattle.store.specs.Store.{operations_of}

-- ---- A store with another log, other objects or other statuses: all changes are made of these

abbrev pub with_log : List Logged → Store → Store
with_log log s = record { statuses = s.statuses; objects = s.objects; log = log }

abbrev pub with_objects : List Object → Store → Store
with_objects objects s = record { statuses = s.statuses; objects = objects; log = s.log }

abbrev pub with_statuses : List Status → Store → Store
with_statuses statuses s = record { statuses = statuses; objects = s.objects; log = s.log }

-- ---- The log

-- An entry put last.
abbrev pub appended : Logged → Store → Store
appended l s = with_log (s.log ++ (l ∷ [])) s

-- The log without a transaction's entries.
abbrev pub without : ℕ → List Logged → List Logged
without t = operations_of (others (one t))

-- The transaction's status stays.
abbrev pub dropped : ℕ → Store → Store
dropped t s = with_log (without t s.log) s

-- ---- Objects

-- An operation carried into an object's rows.
abbrev pub carried : Operation → Object → Object
carried o x = record { kind = x.kind; rows = next o x.rows }

abbrev pub folded : ℕ → Operation → Store → Store
folded object o s = with_objects (set s.objects object (carried o (object_of s object))) s

-- ---- Statuses

abbrev pub with_status : ℕ → Status → Store → Store
with_status t status s = with_statuses (set s.statuses t status) s

-- Ranks close up when one has been taken out: those above it go down by one, others stay.
abbrev pub lowered : ℕ → Status → Status
lowered out absent = absent
lowered out active = active
lowered out (pseudo_committed rank) = pseudo_committed (cond (ltb out rank) (rank - 1) rank)

abbrev pub closed_up : ℕ → Store → Store
closed_up out s = with_statuses (map (lowered out) s.statuses) s
