-- The commuting tables, from one test over each kind's cells: by the recoverable ones, and by what operations do.
use Rattle.std.specs.Prelude.{ℕ, zero, suc, ◌+◌, ◌-◌, ◌<◌, ◌≡◌, refl, ◌↔◌, Bool, true, false, not, ◌&&◌, ◌||◌, eqb}
use Rattle.std.proofs.Common.{sym, ap, ◌∙◌, true≢false, arith, ne_eqb}
use Rattle.std.specs.Bool.{beq}
use Rattle.std.proofs.Math.Bool.{and-eq-true_iff, or-true}
use Rattle.std.proofs.lemmas.Bool.{not-true}
use Rattle.operations.specs.Operations.{Kind, Stack, Set, Table, push, pop, top, set_insert, set_delete, member}
use Rattle.operations.specs.Operations.{table_insert, table_delete, lookup, size, modify, Operation, on_stack, on_set}
use Rattle.operations.specs.Operations.{on_table, kind_of, number_of, key_of, value_of}
use Rattle.operations.specs.PairRules.{Rules, says, rule_at, first_number, last_number, recoverable_rules}
use Rattle.operations.specs.PairRules.{commuting_rules, recoverable, commutes, rewriting, rewrites}
use Rattle.operations.proofs.Laws.Cases.{split, by_key}

-- ---- A test of every number below a bound

abbrev pub below : ℕ → (ℕ → Bool) → Bool
below zero f = true
below (suc n) f = f n && below n f

pub below_at : (n : ℕ) (f : ℕ → Bool) → below n f ≡ true → (i : ℕ) → i < n → f i ≡ true
below_at zero f e i h = absurd (omega arith)
below_at (suc n) f e i h =
    let both : (f n ≡ true) × (below n f ≡ true) = (and-eq-true_iff (f n) (below n f)).0 e in
    by_key (λ (j : ℕ). j < suc n → f j ≡ true) i n (λ h'. both.0) (λ ne h'. below_at n f both.1 i (omega arith)) h

-- and of both truth values.
abbrev on_both : (Bool → Bool) → Bool
on_both f = f true && f false

on_both_lem : (f : Bool → Bool) → on_both f ≡ true → (b : Bool) → f b ≡ true
on_both_lem f e true = ((and-eq-true_iff (f true) (f false)).0 e).0
on_both_lem f e false = ((and-eq-true_iff (f true) (f false)).0 e).1

beq_true : (a b : Bool) → beq a b ≡ true → a ≡ b
beq_true true true e = refl
beq_true true false e = sym e
beq_true false true e = e
beq_true false false e = refl

eqb_swap : (j k : ℕ) → eqb j k ≡ eqb k j
eqb_swap j k = by_key (λ (i : ℕ). eqb i k ≡ eqb k i) j k refl (λ n. ne_eqb j k n ∙ sym (ne_eqb k j (λ q. n (sym q))))

-- ---- Operations that reach the same rows in both orders

-- An operation that leaves the rows as they are, by its number: top, member, lookup, size.
abbrev pub reading : ℕ → Bool
reading n = eqb n 3 || (eqb n 6 || (eqb n 9 || eqb n 10))

-- Rows that stand by key.
abbrev pub keyed : Kind → Bool
keyed Stack = false
keyed Set = true
keyed Table = true

-- One of the two reads, or their keys differ, or they are one operation.
abbrev pub unordered : (kind : Kind) (requested logged : ℕ) (same_key same_value : Bool) → Bool
unordered kind requested logged same_key same_value =
    reading requested
    || (reading logged || ((keyed kind && not same_key) || (eqb requested logged && (same_key && same_value))))

-- ---- The tables

abbrev operation_count : Kind → ℕ
operation_count kind = suc (last_number kind) - first_number kind

place : (o : Operation) → (i : ℕ) × (i < operation_count (kind_of o)) × (number_of o ≡ first_number (kind_of o) + i)
place (on_stack (push x)) = (0, omega arith, refl)
place (on_stack pop) = (1, omega arith, refl)
place (on_stack top) = (2, omega arith, refl)
place (on_set (set_insert k)) = (0, omega arith, refl)
place (on_set (set_delete k)) = (1, omega arith, refl)
place (on_set (member k)) = (2, omega arith, refl)
place (on_table (table_insert k v)) = (0, omega arith, refl)
place (on_table (table_delete k)) = (1, omega arith, refl)
place (on_table (lookup k)) = (2, omega arith, refl)
place (on_table size) = (3, omega arith, refl)
place (on_table (modify k v)) = (4, omega arith, refl)

-- A kind whose operations have values; those of the others are 0.
abbrev valued : Kind → Bool
valued Stack = false
valued Set = false
valued Table = true

value_free : (o : Operation) → valued (kind_of o) ≡ false → value_of o ≡ 0
value_free (on_stack (push x)) e = refl
value_free (on_stack pop) e = refl
value_free (on_stack top) e = refl
value_free (on_set (set_insert k)) e = refl
value_free (on_set (set_delete k)) e = refl
value_free (on_set (member k)) e = refl
value_free (on_table o) e = absurd (true≢false e)

module _ (kind : Kind) (same_key same_value : Bool) where
  -- what the tables say at the places a and b
  abbrev says_at : Rules → ℕ → ℕ → Bool
  says_at rules a b = says (rule_at rules a b) same_key same_value

  abbrev mutual_at : ℕ → ℕ → Bool
  mutual_at a b =
      says_at (recoverable_rules kind) a b
      && (says_at (recoverable_rules kind) b a
      && not (rewriting (first_number kind + a) (first_number kind + b) same_key same_value))

  abbrev unordered_at : ℕ → ℕ → Bool
  unordered_at a b = unordered kind (first_number kind + a) (first_number kind + b) same_key same_value

  -- the test of a cell
  abbrev holds_at : ℕ → ℕ → Bool
  holds_at a b =
      beq (says_at (commuting_rules kind) a b) (mutual_at a b)
      && (not (says_at (commuting_rules kind) a b) || unordered_at a b)

  abbrev holds_in : ℕ → Bool
  holds_in a = below (operation_count kind) (holds_at a)

  -- where the values can be the same, or not
  abbrev holds : Bool
  holds = not (valued kind || same_value) || below (operation_count kind) holds_in

every_cell : (kind : Kind) → on_both (λ same_key. on_both (holds kind same_key)) ≡ true
every_cell Stack = refl
every_cell Set = refl
every_cell Table = refl

module _ (o p : Operation) (k : kind_of p ≡ kind_of o) where
  abbrev kind : Kind
  kind = kind_of o

  abbrev same_key : Bool
  same_key = eqb (key_of o) (key_of p)

  abbrev same_value : Bool
  same_value = eqb (value_of o) (value_of p)

  values_alike : (valued kind || same_value) ≡ true
  values_alike =
      split (valued kind) (λ (e : valued kind ≡ true). rw e)
      (λ (e : valued kind ≡ false). rw (value_free o e, value_free p (rw k e)) (or-true (valued kind)))

  -- the test of their cell
  tested : (commutes o p ≡ (recoverable o p && (recoverable p o && not (rewrites o p))))
      × ((not (commutes o p) || unordered kind (number_of o) (number_of p) same_key same_value) ≡ true)
  tested =
      let (a, ha, ea) = place o in
      let (b, hb, eb) = place p in
      let n = operation_count kind in
      let row : number_of o - first_number kind ≡ a = omega arith in
      let second : number_of p ≡ first_number kind + b = rw k at eb in
      let column : number_of p - first_number kind ≡ b = omega arith in
      let all : below n (holds_in kind same_key same_value) ≡ true =
      rw values_alike at
      (on_both_lem (holds kind same_key)
      (on_both_lem (λ same. on_both (holds kind same)) (every_cell kind) same_key) same_value) in
      let (agree, unordered) = (and-eq-true_iff _ _).0 (below_at n (holds_at kind same_key same_value a)
      (below_at n (holds_in kind same_key same_value) all a ha) b (rw k at hb)) in
      rw (k, row, column, eqb_swap (key_of p) (key_of o), eqb_swap (value_of p) (value_of o), ea, second)
      (beq_true _ _ agree, unordered)

  -- Two operations commute where each is recoverable against the other, and the rows do not tell which came last.
  pub commuting_mutual : (commutes o p ≡ true)
      ↔ ((recoverable o p ≡ true) × (recoverable p o ≡ true) × (rewrites o p ≡ false))
  commuting_mutual =
      let all = and-eq-true_iff (recoverable o p) (recoverable p o && not (rewrites o p)) in
      let rest = and-eq-true_iff (recoverable p o) (not (rewrites o p)) in (
        λ e. let h = all.0 (sym tested.0 ∙ e) in
            let i = rest.0 h.1 in
            (h.0, i.0, not-true (rewrites o p) i.1),
        λ h. tested.0 ∙ all.1 (h.0, rest.1 (h.1, ap not h.2)),
      )

  pub commuting_unordered : commutes o p ≡ true
      → unordered kind (number_of o) (number_of p) same_key same_value ≡ true
  commuting_unordered e = rw e at tested.1
