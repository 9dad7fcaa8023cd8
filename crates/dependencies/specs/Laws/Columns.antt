-- Columns of the rows by key: no rule tells operations apart that share one.
use Rattle.std.specs.Prelude.{ℕ, suc, ◌+◌, ◌-◌, ◌≤◌, ◌<◌, ◌≡◌, refl, Bool, true, false, not, cond, ◌&&◌, ◌||◌, ltb}
use Rattle.std.proofs.Math.Path.{sym}
use Rattle.std.proofs.Common.{ap, ◌∙◌, true≢false, ltb-true, eqb-true, eq-eqb, ne_eqb}
use Rattle.std.proofs.Math.Bool.{and-eq-true_iff}
use native.Mathlib.Omega.{arith}
use Rattle.std.proofs.Math.Dec.{eqb}
use Rattle.operations.specs.Operations.{Kind, Stack, Set, Table}
use Rattle.operations.specs.PairRules.{Rule, always, never, apart, equal, agreeing, Rules, rule_at, first_number}
use Rattle.operations.specs.PairRules.{last_number, recoverable_rules, commuting_rules}
use Rattle.operations.proofs.Laws.Cases.{same}
use Rattle.operations.proofs.Laws.Grid.{below, below_at}
use Rattle.pairs.specs.Pairs.{code_of}
use Rattle.dependencies.specs.Dependencies.{key_column}

-- A rule is "apart" only where the column tells something, and then for all operations of the column.
abbrev told : Rule → Rule → ℕ → ℕ → Bool
told apart other a b = ltb a 4 && (eqb (code_of other) (code_of apart) || not (eqb a b))
told always other a b = true
told never other a b = true
told equal other a b = true
told agreeing other a b = true

told_apart : (other : Rule) (a b : ℕ) → told apart other a b ≡ true → (a < 4) × (b ≡ a → other ≡ apart)
told_apart other a b e = let both = (and-eq-true_iff (ltb a 4) _).0 e in (ltb-true a 4 both.0, shared other both.1)
  where
    shared : (other : Rule) → (eqb (code_of other) (code_of apart) || not (eqb a b)) ≡ true → b ≡ a → other ≡ apart
    shared apart f q = refl
    shared always f q = absurd (true≢false (sym f ∙ rw (eq-eqb a b (sym q))))
    shared never f q = absurd (true≢false (sym f ∙ rw (eq-eqb a b (sym q))))
    shared equal f q = absurd (true≢false (sym f ∙ rw (eq-eqb a b (sym q))))
    shared agreeing f q = absurd (true≢false (sym f ∙ rw (eq-eqb a b (sym q))))

-- It goes by items for two pushes alone, and by values for two modifies alone.
abbrev rewritten : Rule → ℕ → ℕ → Bool
rewritten equal n m = eqb n 1 && eqb m 1
rewritten agreeing n m = eqb n 11 && eqb m 11
rewritten always n m = true
rewritten never n m = true
rewritten apart n m = true

module _ (rules : Kind → Rules) (kind : Kind) where
  abbrev last : ℕ
  last = last_number kind - first_number kind

  abbrev first : ℕ
  first = first_number kind

  abbrev told_at : ℕ → ℕ → ℕ → Bool
  told_at i m n =
      told (rule_at (rules kind) i m) (rule_at (rules kind) i n) (key_column (first + m)) (key_column (first + n))

  -- of a requested operation and a logged one, with each other of the kind
  abbrev told_of : ℕ → ℕ → Bool
  told_of i m = rewritten (rule_at (rules kind) i m) (first + i) (first + m) && below (suc last) (told_at i m)

-- The test at each pair of a kind.
abbrev pub Told : (Kind → Rules) → Type 0
Told rules =
    (kind : Kind) →
    below (suc (last rules kind)) (λ i. below (suc (last rules kind)) (told_of rules kind i)) ≡ true

pub recoverable_told : Told recoverable_rules
unfolding key_column
recoverable_told Stack = refl
recoverable_told Set = refl
recoverable_told Table = refl

pub commuting_told : Told commuting_rules
unfolding key_column
commuting_told Stack = refl
commuting_told Set = refl
commuting_told Table = refl

module _ (rules : Kind → Rules) (all_told : Told rules) (kind : Kind) (i m : ℕ)
    (l : i ≤ last_number kind - first_number kind) (k : m ≤ last_number kind - first_number kind) where
  at_pair : (rewritten (rule_at (rules kind) i m) (first_number kind + i) (first_number kind + m) ≡ true)
      × (below (suc (last rules kind)) (told_at rules kind i m) ≡ true)
  at_pair =
      let count = suc (last rules kind) in
      (and-eq-true_iff _ _).0
      (below_at count (told_of rules kind i)
      (below_at count (λ i. below count (told_of rules kind i)) (all_told kind) i (omega arith)) m (omega arith))

  -- An operation for which the rule is "apart" has a column, and so is the rule for each other of the column.
  pub apart_shared : (n : ℕ) → n ≤ last_number kind - first_number kind → rule_at (rules kind) i m ≡ apart
      → (key_column (first_number kind + m) < 4)
      × (key_column (first_number kind + n) ≡ key_column (first_number kind + m) → rule_at (rules kind) i n ≡ apart)
  apart_shared n h e =
      told_apart (rule_at (rules kind) i n) _ _
      (rw e at (below_at (suc (last rules kind)) (told_at rules kind i m) at_pair.1 n (omega arith)))

  pub equal_pushes : rule_at (rules kind) i m ≡ equal → (first_number kind + i ≡ 1) × (first_number kind + m ≡ 1)
  equal_pushes e =
      let both = (and-eq-true_iff _ _).0 (rw e at at_pair.0) in
      (eqb-true _ _ both.0, eqb-true _ _ both.1)

  pub agreeing_modifies : rule_at (rules kind) i m ≡ agreeing → (first_number kind + i ≡ 11) × (first_number kind + m
      ≡ 11)
  agreeing_modifies e =
      let both = (and-eq-true_iff _ _).0 (rw e at at_pair.0) in
      (eqb-true _ _ both.0, eqb-true _ _ both.1)

-- ---- The column of a number

not_three : (a b c : Bool) → ◌≡◌ {A = ℕ} (cond a 0 (cond b 1 (cond c 2 4))) 3 → ⊥
not_three true b c e = omega arith
not_three false true c e = omega arith
not_three false false true e = omega arith
not_three false false false e = omega arith

no_column : (n : ℕ) → (n ≡ 1 → ⊥) → (n ≡ 4 → ⊥) → (n ≡ 5 → ⊥) → (n ≡ 6 → ⊥) → (n ≡ 7 → ⊥) → (n ≡ 8 → ⊥)
    → (n ≡ 9 → ⊥) → (n ≡ 11 → ⊥) → 4 ≡ key_column n
unfolding key_column
no_column n p a b c d e f g =
    rw (
      ne_eqb n 1 p,
      ne_eqb n 4 a,
      ne_eqb n 5 b,
      ne_eqb n 6 c,
      ne_eqb n 7 d,
      ne_eqb n 8 e,
      ne_eqb n 9 f,
      ne_eqb n 11 g,
    )

module _ (n : ℕ) where
  -- None is that of the values.
  pub column_other : key_column n ≡ 3 → ⊥
  unfolding key_column
  column_other e =
      not_three (eqb n 1 || (eqb n 4 || (eqb n 7 || eqb n 8))) (eqb n 5 || eqb n 9) (eqb n 6 || eqb n 11) e

  -- A stack's operation with the column of push, and a table's with that of modify.
  pub push_column : n ≤ 3 → key_column n ≡ 0 → n ≡ 1
  push_column l e =
      same n 1 (λ (f : n ≡ 1). f)
      (λ (f : n ≡ 1 → ⊥).
      absurd (omega (
        arith,
        e,
        no_column n f (λ q. omega arith) (λ q. omega arith) (λ q. omega arith)
            (λ q. omega arith) (λ q. omega arith) (λ q. omega arith) (λ q. omega arith),
      )))

  pub modify_column : 7 ≤ n → key_column n ≡ 2 → n ≡ 11
  unfolding key_column
  modify_column l e =
      same n 11 (λ (a : n ≡ 11). a)
      (λ (a : n ≡ 11 → ⊥).
      same n 7 (λ (b : n ≡ 7). absurd (omega (arith, sym (ap key_column b) ∙ e)))
      (λ (b : n ≡ 7 → ⊥).
      same n 8 (λ (c : n ≡ 8). absurd (omega (arith, sym (ap key_column c) ∙ e)))
      (λ (c : n ≡ 8 → ⊥).
      same n 9 (λ (d : n ≡ 9). absurd (omega (arith, sym (ap key_column d) ∙ e)))
      (λ (d : n ≡ 9 → ⊥).
      absurd (omega (
        arith,
        e,
        no_column n (λ q. omega arith) (λ q. omega arith) (λ q. omega arith) (λ q. omega arith)
            b c d a,
      ))))))
