-- Laws of the pair tables, for the functions of `pairs`.
use Rattle.std.specs.Prelude.{ℕ, zero, suc, ◌+◌, ◌-◌, ◌≤◌, ◌≡◌, Bool}
use Rattle.std.proofs.Common.{◌∙◌, sym, subst, not-suc-le-zero, le_of_suc-le-suc, arith}
use Rattle.operations.specs.Operations as model
use Rattle.operations.specs.PairRules.{Rule, Rules, rule_at, related, first_number, last_number}
use Rattle.operations.specs.PairRules.{kind_numbered, recoverable_rules}
use Rattle.operations.proofs.Laws.Numbers.{numbered_as}
use Rattle.operations.specs.declared.Operation.{Operation}
use Rattle.pairs.specs.Pairs.{code_of, code_at, ByKeys, allows_keys, OneKind, both, pair_of}

-- Both numbers are of the kind.
abbrev pub Within : model.Kind → ℕ → ℕ → Type 0
Within kind requested logged =
    (first_number kind ≤ requested) × (requested ≤ last_number kind) × (first_number kind ≤ logged)
    × (logged ≤ last_number kind)

-- The kind of the requested number is that of both.
pub within : (requested logged : Operation) → OneKind requested logged → (kind : model.Kind)
    → kind_numbered requested.number ≡ kind → Within kind requested.number logged.number
within requested logged (of, p, q) kind e =
    subst (λ k. Within k requested.number logged.number) (sym (numbered_as requested.number of p) ∙ e)
    (p.0, p.1, q.0, q.1)

-- What holds of each number up to the last, as a product.
abbrev EachUpTo : ℕ → (ℕ → Type 0) → Type 0
EachUpTo zero P = P 0
EachUpTo (suc last) P = P 0 × EachUpTo last (λ n. P (suc n))

each_up_to : (last : ℕ) (P : ℕ → Type 0) → EachUpTo last P → (n : ℕ) → n ≤ last → P n
each_up_to zero P h zero l = h
each_up_to zero P h (suc n) l = absurd (not-suc-le-zero l)
each_up_to (suc last) P h zero l = h.0
each_up_to (suc last) P h (suc n) l = each_up_to last (λ m. P (suc m)) h.1 n (le_of_suc-le-suc l)

-- The stored keys alone decide at each pair of a kind: no pair is "apart" of which one operation has no key.
abbrev KeysDecide : (model.Kind → Rules) → Type 0
KeysDecide rules =
    (kind : model.Kind) (k v k' v' : ℕ) →
    (let last = last_number kind - first_number kind in
    EachUpTo last (λ i. EachUpTo last (λ j.
    ByKeys (rule_at (rules kind) i j)
    × (allows_keys (rule_at (rules kind) i j) k k'
    ≡ both (related rules) (model.stored (λ x. x) (first_number kind + i) k v)
    (model.stored (λ x. x) (first_number kind + j) k' v')))))

pub recoverable_keyed : KeysDecide recoverable_rules
recoverable_keyed model.Stack k v k' v' = search depth 8
recoverable_keyed model.Set k v k' v' = search depth 8
recoverable_keyed model.Table k v k' v' = search depth 8

-- `recoverable`: what `allowed` says of the code found is the relation of the two operations.
pub decided : (rules : model.Kind → Rules) → KeysDecide rules → (kind : model.Kind) (requested logged : Operation) →
    Within kind requested.number logged.number →
    {found : ℕ} →
    found ≡ code_at (rules kind) (requested.number - first_number kind) (logged.number - first_number kind) →
    {r : Bool} →
    ((rule : Rule) → ByKeys rule → found ≡ code_of rule → r ≡ allows_keys rule requested.key logged.key) →
    r ≡ pair_of (related rules) requested logged
decided rules keyed kind requested logged w found allowed =
    let first = first_number kind in
    let last = last_number kind - first in
    let i = requested.number - first in
    let j = logged.number - first in
    let atI : first + i ≡ requested.number = omega arith in
    let atJ : first + j ≡ logged.number = omega arith in
    let row = each_up_to last _ (keyed kind requested.key requested.value logged.key logged.value) i
    (omega arith) in
    let (by_keys, says) = each_up_to last _ row j (omega arith) in
    allowed (rule_at (rules kind) i j) by_keys found ∙ (rw (atI, atJ) at says)
