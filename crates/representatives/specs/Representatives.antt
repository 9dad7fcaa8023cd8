-- Entries of the log by index, and the entries that represent those like them.
use Rattle.std.specs.Prelude.{ℕ, ◌+◌, ◌*◌, ◌%◌, ◌≤◌, ◌<◌, ◌≡◌, Bool, true, false, cond, List, length, get_or, Option}
use Rattle.std.specs.Prelude.{None, Some}
use Rattle.operations.specs.Operations.{kind_of}
use Rattle.store.specs.Layout.{BookLong}
use Rattle.store.specs.Layout.{word, entry_start, operation_at, AsStored}
use Rattle.representatives.specs.declared.Chains.{Chains}

-- ---- Entries by index

abbrev pub entry_transaction : List ℕ → ℕ → ℕ
entry_transaction w i = word w (entry_start i)

abbrev pub entry_object : List ℕ → ℕ → ℕ
entry_object w i = word w (entry_start i + 1)

abbrev pub entry_number : List ℕ → ℕ → ℕ
entry_number w i = word w (entry_start i + 2)

abbrev pub entry_key : List ℕ → ℕ → ℕ
entry_key w i = word w (entry_start i + 3)

abbrev pub entry_value : List ℕ → ℕ → ℕ
entry_value w i = word w (entry_start i + 4)

-- What words hold whose log is read by index: from `Packed`, `EntriesLive` and `EntriesFit`.
pub record Readable (w : List ℕ) : Type 0 where
  pub words : BookLong w
  pub entries : word w 0 ≤ 256
  pub stored : (i : ℕ) → i < word w 0 → AsStored w i
  pub transactions : (i : ℕ) → i < word w 0 → entry_transaction w i < 64
  pub objects : (i : ℕ) → i < word w 0 → entry_object w i < 16
  pub kinds : (i j : ℕ) → i < word w 0 → j < word w 0 → entry_object w j ≡ entry_object w i
      → kind_of (operation_at w j) ≡ kind_of (operation_at w i)

-- Entry i is in a log that can be read.
abbrev pub InLog : List ℕ → ℕ → Type 0
InLog w i = Readable w × (i < word w 0)

-- ---- Representatives

-- Entry j has the object and key of entry i.
abbrev pub Alike : List ℕ → ℕ → ℕ → Type 0
Alike w i j = (entry_object w j ≡ entry_object w i) × (entry_key w j ≡ entry_key w i)

-- Where values count, its operation and value too.
abbrev pub AlikeBy : (valued : Bool) → List ℕ → ℕ → ℕ → Type 0
AlikeBy false w i j = Alike w i j
AlikeBy true w i j = Alike w i j × (entry_number w j ≡ entry_number w i) × (entry_value w j ≡ entry_value w i)

-- No entry before entry j is like it.
abbrev pub FirstBy : (valued : Bool) → List ℕ → ℕ → Type 0
FirstBy valued w j = (k : ℕ) → k < j → AlikeBy valued w j k → ⊥

abbrev pub First : List ℕ → ℕ → Type 0
First = FirstBy false

-- Entry j represents entry i: the first that is like it.
pub record RepresentativeBy (valued : Bool) (w : List ℕ) (i j : ℕ) : Type 0 where
  pub within : j ≤ i
  pub alike : AlikeBy valued w i j
  pub first : FirstBy valued w j

abbrev pub Representative : List ℕ → ℕ → ℕ → Type 0
Representative = RepresentativeBy false

-- Each entry below n has its representative.
pub record Represented (w : List ℕ) (n : ℕ) (representatives : List ℕ) : Type 0 where
  pub entries : length representatives ≡ 256
  pub each : (i : ℕ) → i < n → Representative w i (get_or representatives i 0)

-- ---- Chains

-- On the way down from n: entry p - 1 is P, or p is 0, and no entry from p on is Q.
pub record DownTo (P Q : ℕ → Type 0) (n p : ℕ) : Type 0 where
  pub within : p ≤ n
  pub such : (j : ℕ) → p ≡ j + 1 → P j
  pub later : (j : ℕ) → p ≤ j → j < n → Q j → ⊥

-- The latest entry below n that is P is entry p - 1; none is, where p is 0.
abbrev pub Latest : (ℕ → Type 0) → ℕ → ℕ → Type 0
Latest P n p = DownTo P P n p

-- The chain of an object and key, and of a value too where values count. Any numbers below 256 would do.
unfoldable pub slot_of : (valued : Bool) → ℕ → ℕ → ℕ → ℕ
slot_of valued object key value = (key % 256 + 16 * object + cond valued (value % 256) 0) % 256

abbrev pub slot_at : (valued : Bool) → List ℕ → ℕ → ℕ
slot_at valued w i = slot_of valued (entry_object w i) (entry_key w i) (entry_value w i)

-- The entries that are looked at.
abbrev pub Counted : (valued : Bool) → List ℕ → ℕ → Type 0
Counted false w j = Unit {0}
Counted true w j = entry_number w j ≡ 11

-- Entry j is in a chain: one that is looked at, and is the first like it.
abbrev pub InChain : (valued : Bool) → List ℕ → ℕ → ℕ → Type 0
InChain valued w s j = Counted valued w j × FirstBy valued w j × (slot_at valued w j ≡ s)

-- An entry as it is written: its index plus one, or 0 for none.
abbrev pub written : Option ℕ → ℕ
written None = 0
written (Some j) = j + 1

-- The latest entry of each chain, and at j + 1, where entry j is written, the one before it in its chain.
pub record Chained (valued : Bool) (w : List ℕ) (n : ℕ) {b : ℕ} (chains : Chains b) : Type 0 where
  pub of_latest : length chains.latest ≡ 256
  pub of_before : length chains.before ≡ 257
  pub latest : (s : ℕ) → s < 256 → Latest (InChain valued w s) n (get_or chains.latest s 0)
  pub before : (j : ℕ) → j < n → Counted valued w j → FirstBy valued w j
      → Latest (InChain valued w (slot_at valued w j)) j (get_or chains.before (j + 1) 0)

-- Entry j represents entry i, which is in the chains.
abbrev pub RepresentedBy : (valued : Bool) → List ℕ → ℕ → ℕ → {b : ℕ} → Chains b → Type 0
RepresentedBy valued w i j chains = RepresentativeBy valued w i j × Chained valued w (i + 1) chains

-- Entry j represents entry i where values count, if that is a modify.
pub record Twin (w : List ℕ) (i j : ℕ) : Type 0 where
  pub within : j ≤ i
  pub represents : entry_number w i ≡ 11 → RepresentativeBy true w i j

-- It does, and entry i is in the chains.
abbrev pub TwinBy : List ℕ → ℕ → ℕ → {b : ℕ} → Chains b → Type 0
TwinBy w i j chains = Twin w i j × Chained true w (i + 1) chains
