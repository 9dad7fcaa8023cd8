-- Operations by number: their kinds and columns, and what the rules pick.
use Rattle.std.specs.Prelude.{ℕ, ◌+◌, ◌-◌, ◌≤◌, ◌<◌, ◌≡◌, refl, true, false, ◌||◌, ◌⊎◌, List, eqb, get_or}
use Rattle.std.proofs.Common.{ap, ◌∙◌, true≢false, arith, eqb-true}
use Rattle.std.proofs.lemmas.Bool.{eqb-false, not-false}
use Rattle.operations.specs.Operations.{Kind, Stack, Set, Table, Operation, key_of, value_of}
use Rattle.operations.specs.PairRules.{Rule, always, never, apart, equal, agreeing, Rules, allows, rule_at}
use Rattle.operations.specs.PairRules.{first_number}
use Rattle.operations.specs.PairRules.{last_number, Numbered, kind_numbered}
use Rattle.operations.proofs.Laws.Cases.{split}
use Rattle.operations.proofs.Laws.Numbers.{within_kind}
use Rattle.bitset.specs.Bitset.{has, Members, Holds}
use Rattle.bitset.specs.Laws.{nobody_in, holds_none, holds_same, holds_join}
use Rattle.pairs.specs.Pairs.{code_of, code_at, first_of, last_of, column_of}
use Rattle.dependencies.specs.Dependencies.{key_column, picked, picked_at, Picked}
use Rattle.dependencies.specs.Laws.Sets.{some_none, some_more}

-- ---- Kinds

-- The range of a number's kind.
pub record Ranged (number : ℕ) : Type 0 where
  pub least : first_of number ≤ number
  pub most : number ≤ last_of number
  pub width : last_of number ≤ first_of number + 4

pub ranged : (number : ℕ) → Numbered number → Ranged number
ranged number numbered =
    let range = within_kind number numbered (kind_numbered number) refl in
    record { least = range.0; most = range.1; width = widths (kind_numbered number) }
  where
    widths : (kind : Kind) → last_number kind ≤ first_number kind + 4
    widths Stack = omega arith
    widths Set = omega arith
    widths Table = omega arith

-- Its place among the operations of its kind.
pub column_within : (number : ℕ) → Numbered number → (first : ℕ) → first ≡ first_of number → number - first < 6
column_within number numbered first e = let r = ranged number numbered in omega (arith, e, r.most, r.width)

-- ---- What a rule picks

module _ (whole same others b : ℕ) where
  pub picked_of : (o p : Operation) (rule : Rule) → allows rule o p ≡ false → has whole b ≡ true
      → (rule ≡ apart → key_of o ≡ key_of p → has same b ≡ true)
      → (rule ≡ equal → (key_of o ≡ key_of p → ⊥) → has others b ≡ true)
      → (rule ≡ agreeing → key_of o ≡ key_of p → (value_of o ≡ value_of p → ⊥) → has others b ≡ true)
      → has (picked rule whole same others) b ≡ true
  picked_of o p never e h k d v = h
  picked_of o p always e h k d v = absurd (true≢false e)
  picked_of o p apart e h k d v = k refl (eqb-true (key_of o) (key_of p) (not-false (eqb (key_of o) (key_of p)) e))
  picked_of o p equal e h k d v = d refl (eqb-false (key_of o) (key_of p) e)
  picked_of o p agreeing e h k d v =
      split (eqb (key_of o) (key_of p))
      (λ (f : eqb (key_of o) (key_of p) ≡ true).
      v refl (eqb-true (key_of o) (key_of p) f) (eqb-false (value_of o) (value_of p) (rw f at e)))
      (λ (f : eqb (key_of o) (key_of p) ≡ false). absurd (true≢false (rw f at e)))

  pub picked_from : {A : Type 0} (rule : Rule) → has (picked rule whole same others) b ≡ true
      → (rule ≡ never → has whole b ≡ true → A) → (rule ≡ apart → has same b ≡ true → A)
      → (rule ≡ equal → has others b ≡ true → A) → (rule ≡ agreeing → has others b ≡ true → A) → A
  picked_from never h on_object_lem by_key by-item by_value = on_object_lem refl h
  picked_from always h on_object_lem by_key by-item by_value = absurd (nobody_in 0 b refl h)
  picked_from apart h on_object_lem by_key by-item by_value = by_key refl h
  picked_from equal h on_object_lem by_key by-item by_value = by-item refl h
  picked_from agreeing h on_object_lem by_key by-item by_value = by_value refl h

-- ---- The columns in turn

module _ (rules : Kind → Rules) (number : ℕ) (whole same : List ℕ) (others : ℕ) where
  abbrev PickedTo : ℕ → ℕ → Type 0
  PickedTo = Picked rules number whole same others

  pub picked_none : Holds 0 (PickedTo 0)
  picked_none =
      holds_none (PickedTo 0) (λ b. some_none (λ m. has (picked_at rules number whole same others m) b ≡ true))

  pub picked_more : (m first alike code chosen u v : ℕ) → first ≡ first_of number
      → alike ≡ get_or same (key_column (first + m)) 0 → code ≡ code_at (rules (kind_numbered number))
      (column_of number) m
      → ((which : Rule) → code ≡ code_of which → chosen ≡ picked which (get_or whole m 0) alike others)
      → Holds u (PickedTo m) → Members v (λ b. has u b || has chosen b) → Holds v (PickedTo (m + 1))
  picked_more m first alike code chosen u v start found coded chose h joined =
      let rule = rule_at (rules (kind_numbered number)) (column_of number) m in
      let own : alike ≡ get_or same (key_column (first_of number + m)) 0 =
      found ∙ ap (λ (n : ℕ). get_or same (key_column (n + m)) 0) start in
      let e : chosen ≡ picked_at rules number whole same others m =
      chose rule coded ∙ ap (λ (s : ℕ). picked rule (get_or whole m 0) s others) own in
      holds_same (λ b. PickedTo m b ⊎ (has chosen b ≡ true)) (PickedTo (m + 1)) v
      (holds_join (PickedTo m) (λ b. has chosen b ≡ true) u chosen v h (λ b. (λ x. x, λ x. x)) joined)
      (λ b. rw e (some_more (λ k. has (picked_at rules number whole same others k) b ≡ true) m))
