-- A code found in the tables, and the rule of the two operations.
use Rattle.std.specs.Prelude.{ℕ, ◌-◌, ◌≡◌, refl, Bool, true, false, not, eqb}
use Rattle.std.proofs.Common.{sym, ap, ap₂, ◌∙◌, arith, eq-eqb, ne_eqb}
use Rattle.std.proofs.Math.Option.{some, some-injective}
use Rattle.operations.specs.Operations as model
use Rattle.operations.specs.declared.Operation.{Operation}
use Rattle.operations.specs.PairRules.{Rule, always, never, apart, equal, agreeing, recoverable}
use Rattle.operations.specs.PairRules.{recoverable_rules, first_number, kind_numbered}
use Rattle.operations.specs.Stored.{operation_of}
use Rattle.operations.proofs.Laws.Storing.{read_back}
use Rattle.operations.proofs.Laws.Numbers.{numbers, kind_numbered_lem}
use Rattle.pairs.specs.Pairs.{code_of, code_at, ByKeys, allows_keys, both}
use Rattle.pairs.specs.Laws.{Within, recoverable_keyed, decided}
use Rattle.entry_log.specs.Log.{StoredAs}

-- What is stored for an operation names it, and no other.
pub named : (operation : Operation) (o : model.Operation) → StoredAs operation o → operation_of operation ≡ some o
named operation o (n, k, v) = cc (read_back o)

pub one_named : (operation : Operation) (o p : model.Operation) → StoredAs operation o → StoredAs operation p → o ≡ p
one_named operation o p s t = some-injective o p (sym (named operation o s) ∙ named operation p t)

-- Requested and logged operation, as stored, of one kind.
pub record Pair (requested logged : Operation) (o p : model.Operation) : Type 0 where
  pub requested_as : StoredAs requested o
  pub logged_as : StoredAs logged p
  pub alike : model.kind_of p ≡ model.kind_of o

-- It is the kind that the requested number tells.
pub within : {requested logged : Operation} {o p : model.Operation} → Pair requested logged o p → {kind : model.Kind}
    → some kind ≡ some (kind_numbered requested.number) → Within kind requested.number logged.number
within {o = o} {p = p} pair {kind} told =
    let own : model.kind_of o ≡ kind =
    sym (kind_numbered_lem o) ∙ ap kind_numbered (sym pair.requested_as.0) ∙ sym (some-injective _ _ told) in
    let a = rw (own, ← pair.requested_as.0) at (numbers o) in
    let b = rw (pair.alike ∙ own, ← pair.logged_as.0) at (numbers p) in
    (a.0, a.1, b.0, b.1)

-- Besides, the code that the tables have for the two.
pub record Ruled (requested logged : Operation) (o p : model.Operation) (found : ℕ) : Type 0 where
  pub kind : model.Kind
  pub told : some kind ≡ some (kind_numbered requested.number)
  pub pair : Pair requested logged o p
  pub code : found ≡ code_at (recoverable_rules kind) (requested.number - first_number kind)
      (logged.number - first_number kind)

pub coded : {requested logged : Operation} {o p : model.Operation} {found : ℕ} → Pair requested logged o p
    → {kind : model.Kind} → some kind ≡ some (kind_numbered requested.number)
    → found ≡ code_at (recoverable_rules kind) (requested.number - first_number kind)
    (logged.number - first_number kind)
    → Ruled requested logged o p found
coded pair {kind} told code = record { kind = kind; told = told; pair = pair; code = code }

module _ {requested logged : Operation} {o p : model.Operation} {found : ℕ}
    (ruled : Ruled requested logged o p found) where
  said : (r : Bool)
      → ((rule : Rule) → ByKeys rule → found ≡ code_of rule → r ≡ allows_keys rule requested.key logged.key)
      → recoverable o p ≡ r
  said r allowed =
      let pair = ruled.pair in
      sym (decided recoverable_rules recoverable_keyed ruled.kind requested logged (within pair ruled.told) ruled.code
      allowed ∙ ap₂ (both recoverable) (named requested o pair.requested_as) (named logged p pair.logged_as))

  pub always_yes : found ≡ 1 → recoverable o p ≡ true
  always_yes e = said true by
    where
      by : (rule : Rule) → ByKeys rule → found ≡ code_of rule → true ≡ allows_keys rule requested.key logged.key
      by always k c = refl
      by never k c = absurd (omega arith)
      by apart k c = absurd (omega arith)
      by equal k c = absurd k
      by agreeing k c = absurd k

  by_keys : found ≡ 2 → recoverable o p ≡ not (eqb requested.key logged.key)
  by_keys e = said (not (eqb requested.key logged.key)) by
    where
      by : (rule : Rule) → ByKeys rule → found ≡ code_of rule
          → not (eqb requested.key logged.key) ≡ allows_keys rule requested.key logged.key
      by always k c = absurd (omega arith)
      by never k c = absurd (omega arith)
      by apart k c = refl
      by equal k c = absurd k
      by agreeing k c = absurd k

  pub same_keys : found ≡ 2 → requested.key ≡ logged.key → recoverable o p ≡ false
  same_keys e k = by_keys e ∙ ap not (eq-eqb requested.key logged.key k)

  pub other_keys : found ≡ 2 → (requested.key ≡ logged.key → ⊥) → recoverable o p ≡ true
  other_keys e n = by_keys e ∙ ap not (ne_eqb requested.key logged.key n)

  pub otherwise_no : (found ≡ 1 → ⊥) → (found ≡ 2 → ⊥) → recoverable o p ≡ false
  otherwise_no n1 n2 = said false by
    where
      by : (rule : Rule) → ByKeys rule → found ≡ code_of rule → false ≡ allows_keys rule requested.key logged.key
      by always k c = absurd (n1 c)
      by never k c = refl
      by apart k c = absurd (n2 c)
      by equal k c = absurd k
      by agreeing k c = absurd k
