-- Operations and kinds by number.
use Rattle.std.specs.Prelude.{ℕ, ◌≤◌, ◌<◌, ◌≡◌, refl, true, false, leb}
use Rattle.std.proofs.Common.{sym, ap, ◌∙◌}
use Rattle.std.proofs.Math.Option.{some, some-injective}
use native.Mathlib.Omega.{arith}
use borrow.Author.Tests.{leb-true, leb-false, le-leb, lt-leb}
use Rattle.operations.specs.PairRules.{OfKind, Numbered, kind_numbered}
use Rattle.operations.specs.Operations.{Kind, Stack, Set, Table, kind_number}
use Rattle.operations.specs.Operations.{push, pop, top, set_insert, set_delete, member, table_insert, table_delete}
use Rattle.operations.specs.Operations.{lookup, size, modify, Operation, on_stack, on_set, on_table, kind_of}
use Rattle.operations.specs.Operations.{number_of}
use Rattle.operations.specs.Kinds.{kind_in_model, number_of_kind}
use Rattle.operations.specs.declared.Kind.{Kind as Named}
use Rattle.operations.specs.declared.Kind.TheVariants as named
use Rattle.operations.proofs.Laws.Cases.{split}

-- ---- The kind that a kind's number tells

pub kinds : (kind : Kind) → (1 ≤ kind_number kind) × (kind_number kind ≤ 3)
kinds Stack = omega arith
kinds Set = omega arith
kinds Table = omega arith

-- The code's kind has its number.
pub number_named : (kind : Named) (k : Kind) → kind_in_model kind ≡ some k → number_of_kind kind ≡ kind_number k
number_named named.None k e = cc
number_named named.Stack k e = ap kind_number (some-injective _ _ e)
number_named named.Set k e = ap kind_number (some-injective _ _ e)
number_named named.Table k e = ap kind_number (some-injective _ _ e)

pub named_stack : (kind : Named) → number_of_kind kind ≡ 1 → kind ≡ named.Stack
named_stack named.None e = absurd (omega (arith, e))
named_stack named.Stack e = refl
named_stack named.Set e = absurd (omega (arith, e))
named_stack named.Table e = absurd (omega (arith, e))

-- ---- The kind that an operation's number tells

module _ (number : ℕ) where
  numbered_stack : number ≤ 3 → kind_numbered number ≡ Stack
  unfolding kind_numbered
  numbered_stack l = rw (le-leb number 3 l)

  numbered_set : 3 < number → number ≤ 6 → kind_numbered number ≡ Set
  unfolding kind_numbered
  numbered_set l m = rw (lt-leb number 3 l, le-leb number 6 m)

  numbered_table : 6 < number → kind_numbered number ≡ Table
  unfolding kind_numbered
  numbered_table l =
      let m : 3 < number = omega arith in
      rw (lt-leb number 3 m, lt-leb number 6 l)

  pub numbered_as : (kind : Kind) → OfKind kind number → kind_numbered number ≡ kind
  numbered_as Stack (l, m) = numbered_stack m
  numbered_as Set (l, m) = numbered_set l m
  numbered_as Table (l, m) = numbered_table l

  -- An operation's number is one of the kind that it tells.
  pub within_kind : Numbered number → (kind : Kind) → kind_numbered number ≡ kind → OfKind kind number
  within_kind (l, m) kind e =
      split (leb number 3)
      (λ (f : leb number 3 ≡ true).
      let n = leb-true number 3 f in
      rw (sym e ∙ numbered_stack n) (l, n))
      (λ (f : leb number 3 ≡ false).
      let n = leb-false number 3 f in
      split (leb number 6)
      (λ (g : leb number 6 ≡ true).
      let h = leb-true number 6 g in
      rw (sym e ∙ numbered_set n h) (n, h))
      (λ (g : leb number 6 ≡ false).
      let h = leb-false number 6 g in
      rw (sym e ∙ numbered_table h) (h, m)))

-- ---- The number of an operation

-- An operation's number is one of its kind.
pub numbers : (o : Operation) → OfKind (kind_of o) (number_of o)
numbers (on_stack (push x)) = (omega arith, omega arith)
numbers (on_stack pop) = (omega arith, omega arith)
numbers (on_stack top) = (omega arith, omega arith)
numbers (on_set (set_insert k)) = (omega arith, omega arith)
numbers (on_set (set_delete k)) = (omega arith, omega arith)
numbers (on_set (member k)) = (omega arith, omega arith)
numbers (on_table (table_insert k v)) = (omega arith, omega arith)
numbers (on_table (table_delete k)) = (omega arith, omega arith)
numbers (on_table (lookup k)) = (omega arith, omega arith)
numbers (on_table size) = (omega arith, omega arith)
numbers (on_table (modify k v)) = (omega arith, omega arith)

pub kind_numbered_lem : (o : Operation) → kind_numbered (number_of o) ≡ kind_of o
kind_numbered_lem o = numbered_as (number_of o) (kind_of o) (numbers o)

pub is_numbered : (o : Operation) → Numbered (number_of o)
is_numbered (on_stack o) = omega (arith, numbers (on_stack o))
is_numbered (on_set o) = omega (arith, numbers (on_set o))
is_numbered (on_table o) = omega (arith, numbers (on_table o))
