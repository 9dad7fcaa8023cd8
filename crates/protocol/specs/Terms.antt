-- What the theorems speak of, besides the definitions of the calls.
use Rattle.std.specs.Prelude.{ℕ, ◌+◌, ◌*◌, ◌%◌, ◌≤◌, ◌<◌, ◌≡◌, true, false, cond, List, [], ◌∷◌, ◌++◌, eqb, length}
use Rattle.std.specs.Prelude.{get_or, take}
use Rattle.std.proofs.Math.Option.{some}
use Rattle.operations.specs.Operations.{Kind, Operation, Answer, All, kind_of, stored}
use Rattle.operations.specs.PairRules.{recoverable, commutes}
use Rattle.operations.specs.Log.{Entry, only, one}
use Rattle.operations.specs.Operations.{adds}
use Rattle.store.specs.Store.{transaction_count, object_count, entry_limit, list_length}
use Rattle.store.specs.Store.{absent, pseudo_committed, Logged, Store, status_of, object_of, Active, on_object}
use Rattle.store.specs.Layout.{BookLong, Format, decode, additions, base}
use Rattle.store.specs.Dependency.{Any, Ready}
use Rattle.store.specs.Soundness.{Sound}
use Rattle.store.specs.Steps.{without}
use Rattle.protocol.specs.Calls.{LentOperation, lent_operation, operation_words, batch_limit, operations_in}
use Rattle.protocol.specs.Calls.{without_kind, not_of_kind, request, requested, run}

-- ---- Where a call may be served, clause by clause

pub record SetUpAccepted (w kinds : List ℕ) : Type 0 where
  pub words : BookLong w
  pub sixteen : length kinds ≡ object_count
  pub known : All (λ k. k ≤ 3) kinds

module _ (format : Format) where
  pub record BeginAccepted (w : List ℕ) (t : ℕ) : Type 0 where
    pub words : BookLong w
    pub sound : Sound format w
    pub below : t < transaction_count
    pub new : status_of (decode format w) t ≡ absent

  pub record OperateAccepted (w : List ℕ) (t o number k v : ℕ) : Type 0 where
    pub words : BookLong w
    pub sound : Sound format w
    pub below : t < transaction_count
    pub active : Active (decode format w) t
    pub named : stored format.reduce number k v ≡ some (request format number k v)
    pub kind : (object_of (decode format w) o).kind ≡ some (kind_of (request format number k v))
    pub entries : length (decode format w).log < entry_limit
    pub room : adds (request format number k v) ≡ true → format.used (decode format w) o < format.limit

  -- One of several operations, on the store as those before it leave it.
  pub record OperationAccepted (s : Store) (q : LentOperation) : Type 0 where
    pub named : stored format.reduce q.number q.key q.value ≡ some (requested format q)
    pub kind : (object_of s q.object).kind ≡ some (kind_of (requested format q))
    pub entries : length s.log < entry_limit
    pub room : adds (requested format q) ≡ true → format.used s q.object < format.limit

  abbrev pub EachAccepted : ℕ → Store → List LentOperation → Type 0
  EachAccepted t s [] = Unit {0}
  EachAccepted t s (q ∷ qs) = OperationAccepted s q × EachAccepted t (run format t q s) qs

  -- The book is sound and the transaction active: 1, 4, 5 and 7 do not apply.
  pub record Standing (w : List ℕ) (t : ℕ) : Type 0 where
    pub sound : Sound format w
    pub below : t < transaction_count
    pub active : Active (decode format w) t

  -- Nor does 12, so that a batch's operations are looked at.
  pub record BatchPremises (w : List ℕ) (t : ℕ) (operations : List ℕ) : Type 0 where
    pub stands : Standing w t
    pub few : length operations ≤ operation_words * batch_limit
    pub whole : length operations % operation_words ≡ 0

  pub record BatchAccepted (w : List ℕ) (t : ℕ) (operations : List ℕ) : Type 0 where
    pub words : BookLong w
    pub sound : Sound format w
    pub below : t < transaction_count
    pub few : length operations ≤ operation_words * batch_limit
    pub whole : length operations % operation_words ≡ 0
    pub active : Active (decode format w) t
    pub each : EachAccepted t (decode format w) (operations_in operations)

  -- Of finish and of cancel.
  pub record EndAccepted (w : List ℕ) (t : ℕ) (list : List ℕ) : Type 0 where
    pub words : BookLong w
    pub fits : list_length ≤ length list
    pub sound : Sound format w
    pub below : t < transaction_count
    pub active : Active (decode format w) t

  pub record ContentsAccepted (w : List ℕ) (o : ℕ) : Type 0 where
    pub words : BookLong w
    pub sound : Sound format w
    pub kind : (kind : Kind) × ((object_of (decode format w) o).kind ≡ some kind)

-- ---- Operate and batch

module _ (t : ℕ) (requested : Operation) where
  -- The entry is its own, or one that the request is recoverable against: all others make it wait.
  abbrev pub Passes : Entry Operation Answer → Type 0
  Passes e = (e.transaction ≡ t → ⊥) → recoverable requested e.operation ≡ true

  -- The entry is u's, and one that the request is not recoverable against.
  abbrev pub Bars : ℕ → Entry Operation Answer → Type 0
  Bars u e = (e.transaction ≡ u) × (recoverable requested e.operation ≡ false)

  -- Another transaction that owns such an entry.
  abbrev pub Owner : List (Entry Operation Answer) → ℕ → Type 0
  Owner l u = (u ≡ t → ⊥) × Any (Bars u) l

module _ (s : Store) where
  -- An operation has an 8 of its own; a 9 and no 8; neither.
  abbrev pub Has8 : LentOperation → Type 0
  Has8 q = without_kind s q.object ≡ true

  abbrev pub Has9 : LentOperation → Type 0
  Has9 q = (without_kind s q.object ≡ false) × (not_of_kind s q.object q.number ≡ true)

  abbrev pub HasNeither : LentOperation → Type 0
  HasNeither q = (without_kind s q.object ≡ false) × (not_of_kind s q.object q.number ≡ false)

  -- Some operation is such, and none before it has an 8 or 9.
  abbrev pub FirstOwn : (LentOperation → Type 0) → List LentOperation → Type 0
  FirstOwn Such qs =
      (i : ℕ) × (i < length qs) × Such (get_or qs i (lent_operation 0 0 0 0)) × All HasNeither (take i qs)

-- 1 where the operation is a push or insert on object o, else 0.
abbrev pub needing : LentOperation → ℕ → ℕ
needing q o = cond (eqb q.object o) (cond (adds (requested base q)) 1 0) 0

-- How many of these operations are pushes or inserts on object o.
abbrev pub needed_of : ℕ → List LentOperation → ℕ
needed_of o [] = 0
needed_of o (q ∷ qs) = needing q o + needed_of o qs

-- Some push or insert finds the rows of its object, the logged pushes and inserts on it and those before it among these
-- operations at 64.
abbrev pub SomeCrowded : Store → List LentOperation → Type 0
SomeCrowded s qs =
    (i : ℕ) × (i < length qs)
    × (let q = get_or qs i (lent_operation 0 0 0 0) in
    (adds (requested base q) ≡ true)
    × (64 ≤ length (object_of s q.object).rows + additions (on_object q.object s.log)
    + needed_of q.object (take i qs)))

-- Each is below every later one.
abbrev pub Ascends : List ℕ → Type 0
Ascends [] = Unit {0}
Ascends (t ∷ ts) = All (λ u. t < u) ts × Ascends ts

-- Two places of the log: the earlier entry is b's, the later one is a's, both are of one object, and they do not
-- commute.
pub record Places (d : Logged) (log : List Logged) (a b : ℕ) : Type 0 where
  pub earlier : ℕ
  pub later : ℕ
  pub in_order : earlier < later
  pub within : later < length log
  pub owner : (get_or log earlier d).entry.transaction ≡ b
  pub own : (get_or log later d).entry.transaction ≡ a
  pub object : (get_or log later d).object ≡ (get_or log earlier d).object
  pub conflicting : commutes (get_or log later d).entry.operation (get_or log earlier d).entry.operation ≡ false

-- ---- Who commits

-- The one that commits next.
pub record LowestReady (s : Store) (t : ℕ) : Type 0 where
  pub rank : ℕ
  pub ranked : status_of s t ≡ pseudo_committed rank
  pub ready : Ready s.log t
  pub lowest : (u r : ℕ) → status_of s u ≡ pseudo_committed r → Ready s.log u → rank ≤ r

-- The entries of those listed, one transaction after the other, each one's own in order.
abbrev pub in_order : List ℕ → List (Entry Operation Answer) → List (Entry Operation Answer)
in_order [] l = []
in_order (t ∷ ts) l = only (one t) l ++ in_order ts l

-- The log without the entries of those listed.
abbrev pub without_all : List ℕ → List Logged → List Logged
without_all [] log = log
without_all (t ∷ ts) log = without_all ts (without t log)

-- It is listed.
abbrev pub Among : ℕ → List ℕ → Type 0
Among u l = Any (λ (x : ℕ). x ≡ u) l

-- None is listed twice.
abbrev pub Distinct : List ℕ → Type 0
Distinct [] = Unit {0}
Distinct (t ∷ ts) = (Among t ts → ⊥) × Distinct ts
