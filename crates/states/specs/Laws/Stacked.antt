-- An entry of a stack, and the state after it.
use Rattle.std.specs.Prelude.{ℕ, ◌+◌, ◌-◌, ◌≤◌, ◌<◌, ◌≡◌, refl, Bool, Option, List, [], ◌∷◌, length, get_or, set}
use Rattle.std.proofs.Common.{sym, ap, ◌∙◌, subst, arith, length-set, length-append, length-take, get_or-set_same}
use Rattle.std.proofs.Common.{get_or-set_other, eq-eqb, ne_eqb}
use Rattle.std.proofs.Math.Option.{some, some-injective}
use Rattle.std.proofs.lemmas.List.{set-get_or}
use Rattle.operations.specs.Operations.{Stack, Row, row, Operation, on_stack, push, pop, top, Answer, answering, valued}
use Rattle.operations.specs.Operations.{found, top_item, stack_next, next, answer, kind_of, stored}
use Rattle.operations.specs.PairRules.{first_number, last_number}
use Rattle.operations.specs.Stored.{found_of}
use Rattle.operations.proofs.Laws.Cases.{same, denied}
use Rattle.operations.proofs.Laws.Numbers.{numbers}
use Rattle.store.specs.Layout.{word, or_pop, entry_start, operation_at, rows_at}
use Rattle.representatives.specs.Representatives.{entry_object, entry_number, entry_key, First}
use Rattle.representatives.specs.Laws.Reading.{of_kind_lem}
use Rattle.answers.specs.Laws.Whole.{row_count}
use Rattle.states.specs.declared.State.{State}
use Rattle.states.specs.States.{kind_at, Keyed, Stacked, cell_in, Serving, AfterEntry, StackEntry, StackAt}
use Rattle.states.specs.States.{TopBy, pushed, popped}
use Rattle.states.specs.Laws.Stacks.{top_within, depth_of_first, stacked_push, stacked_top}
use Rattle.states.specs.Laws.Stacks.{popped_pushed, popped_first}
use Rattle.states.specs.Laws.Serving as serving

module _ {w : List ℕ} {i o : ℕ} {state : State} (k : StackEntry w i o state) where
  abbrev s : Serving w i state
  s = k.served

  pub placed : o < 16
  placed = serving.placed k.entry

  is_stack : kind_at w o ≡ some Stack
  is_stack = serving.kind_here k.entry ∙ ap some k.of_stack

  -- ---- The bounds that indices need

  stack_here : Stacked w i (rows_at w o) (s.rows o) (get_or state.tops o 0) state.below
  stack_here = s.stack o placed is_stack

  pub inside : i < 256
  inside = omega (arith, k.entry.inside, k.entry.formed.packed.log.entries)

  pub here : StackAt o state
  here =
      record {
        within = placed;
        sized = s.sized;
        count = omega (arith, s.counted o placed, s.few o placed, inside);
        top = omega (arith, top_within stack_here, inside);
      }

  pub first_rows : get_or state.tops o 0 ≡ 0 → get_or state.counts o 0 ≤ 64
  first_rows z =
      let rows = (k.entry.formed.packed.objects o placed).rows in
      omega (arith, s.counted o placed, depth_of_first stack_here z, row_count w o, rows)

  -- ---- The state after it

  module _ (right : serving.Right k.entry s) (n t b : ℕ) (counted : n ≡ length (next (operation_at w i) (s.rows o)))
      (stacked : Stacked w (i + 1) (rows_at w o) (next (operation_at w i) (s.rows o)) t (set state.below i b)) where
    abbrev rows_after : ℕ → List Row
    rows_after = serving.rows_after k.entry s

    -- an object that is no stack
    rows_kept : (q : ℕ) → (kind_at w q ≡ some Stack → ⊥) → rows_after q ≡ s.rows q
    rows_kept q z = serving.rows_other k.entry s q (λ d. z (ap (kind_at w) d ∙ is_stack))

    cells_right : (j : ℕ) → j < i + 1 → First w j → Keyed w j
        → cell_in state.cells j ≡ valued (found (entry_key w j) (rows_after (entry_object w j)))
    cells_right j m f kj =
        same j i (λ (d : j ≡ i). absurd (kj (ap (λ (x : ℕ). kind_of (operation_at w x)) d ∙ k.of_stack)))
        (λ (d : j ≡ i → ⊥).
        let h : j < i = omega arith in
        let kind = of_kind_lem w k.entry.formed.fits j (omega (arith, h, k.entry.inside)) in
        let keyed : kind_at w (entry_object w j) ≡ some Stack → ⊥ =
        λ z. kj (some-injective (kind_of (operation_at w j)) Stack (sym kind ∙ z)) in
        s.cell j h f kj
        ∙ ap (λ (rs : List Row). valued (found (entry_key w j) rs)) (sym (rows_kept (entry_object w j) keyed)))

    stacks_right : (q : ℕ) → q < 16 → kind_at w q ≡ some Stack
        → Stacked w (i + 1) (rows_at w q) (rows_after q) (get_or (set state.tops o t) q 0) (set state.below i b)
    stacks_right q m z =
        let small : o < length state.tops = omega (arith, placed, s.sized.of_tops) in
        same q o (λ (d : q ≡ o). rw (d, serving.rows_own k.entry s, get_or-set_same state.tops o t 0 small) stacked)
        (λ (d : q ≡ o → ⊥).
        rw (serving.rows_other k.entry s q d, get_or-set_other state.tops o q t 0 d) (stacked_top (s.stack q m z) b))

    turn : Serving w (i + 1) (record {
      cells = state.cells;
      counts = set state.counts o n;
      tops = set state.tops o t;
      below = set state.below i b;
    })
    turn =
        record {
          sized = record {
            of_cells = s.sized.of_cells;
            of_counts = length-set state.counts o n ∙ s.sized.of_counts;
            of_tops = length-set state.tops o t ∙ s.sized.of_tops;
            of_below = length-set state.below i b ∙ s.sized.of_below;
          };
          rows = rows_after;
          ordered = serving.ordered_after k.entry s;
          few = serving.few_after k.entry s;
          counted = serving.counted_after k.entry s n counted;
          cell = cells_right;
          fresh = λ q x u z. ap (found x) (rows_kept q z) ∙ s.fresh q x (λ j m. u j (omega arith)) z;
          stack = stacks_right;
          left = serving.left_after k.entry s right;
        }

  -- ---- What the code leaves

  module _ (number : ℕ) (numbered : number ≡ entry_number w i) (given : Answer) (test : Bool)
      (tested : serving.Tests w i given test) where
    -- The operation that a number names.
    named : (n : ℕ) → number ≡ n
        → operation_at w i ≡ or_pop (stored (λ x. x) n (entry_key w i) (word w (entry_start i + 4)))
    named n e = ap (λ (m : ℕ). or_pop (stored (λ x. x) m (entry_key w i) (word w (entry_start i + 4)))) (sym numbered
        ∙ e)

    -- The test, where the answer is that of an operation that is known, and the arrays are those after it.
    judged : (op : Operation) → operation_at w i ≡ op → given ≡ answer op (s.rows o) → (n t b : ℕ)
        → n ≡ length (next op (s.rows o)) → Stacked w (i + 1) (rows_at w o) (next op (s.rows o)) t (set state.below i b)
        → (counts tops below : List ℕ) → set state.counts o n ≡ counts → set state.tops o t ≡ tops
        → set state.below i b ≡ below
        → AfterEntry w i (record { cells = state.cells; counts = counts; tops = tops; below = below }) test
    judged op is from n t b counted stacked counts tops below ec et eb =
        let gives : given ≡ answer (operation_at w i) (s.rows o) =
        from ∙ ap (λ (p : Operation). answer p (s.rows o)) (sym is) in
        let counts-it : n ≡ length (next (operation_at w i) (s.rows o)) =
        counted ∙ ap (λ (p : Operation). length (next p (s.rows o))) (sym is) in (
          λ e.
              rw (← ec, ← et, ← eb)
              (turn (sym gives ∙ tested.0 e) n t b counts-it
              (subst (λ (p : Operation). Stacked w (i + 1) (rows_at w o) (next p (s.rows o)) t (set state.below i b))
              (sym is) stacked)),
          λ e. serving.wrong k.entry s (λ right. denied tested e (gives ∙ right)),
        )

    pub pushed_right : number ≡ 1 → given ≡ answering 1 0 → AfterEntry w i (pushed state i o) test
    pushed_right one gives =
        judged (on_stack (push (entry_key w i))) (named 1 one) gives (get_or state.counts o 0 + 1) (i + 1)
        (get_or state.tops o 0)
        (omega (arith, s.counted o placed, length-append (s.rows o) (row (entry_key w i) 0 ∷ [])))
        (stacked_push stack_here (omega (arith, inside, s.sized.of_below))) _ _ _ refl refl refl

    module _ (item : Option ℕ) (top-is : TopBy w o state item) (gives : given ≡ valued (found_of item)) where
      top_right : given ≡ valued (top_item (s.rows o))
      top_right = gives ∙ top-is i (s.rows o) stack_here (sym (s.counted o placed))

      fewer : get_or state.counts o 0 - 1 ≡ length (stack_next pop (s.rows o))
      fewer = omega (arith, s.counted o placed, length-take (length (s.rows o) - 1) (s.rows o))

      pub popped_right : number ≡ 2 → AfterEntry w i (popped state o) test
      popped_right two =
          same (get_or state.tops o 0) 0
          (λ (z : get_or state.tops o 0 ≡ 0).
          rw (eq-eqb (get_or state.tops o 0) 0 z)
          (judged (on_stack pop) (named 2 two) top_right (get_or state.counts o 0 - 1) (get_or state.tops o 0)
          (get_or state.below i 0) fewer (popped_first stack_here (get_or state.below i 0) z) _ _ _ refl
          (set-get_or state.tops o 0) (set-get_or state.below i 0)))
          (λ (n : get_or state.tops o 0 ≡ 0 → ⊥).
          rw (ne_eqb (get_or state.tops o 0) 0 n)
          (judged (on_stack pop) (named 2 two) top_right (get_or state.counts o 0 - 1)
          (get_or state.below (get_or state.tops o 0 - 1) 0) (get_or state.below i 0) fewer
          (popped_pushed stack_here (get_or state.below i 0) n) _ _ _ refl refl (set-get_or state.below i 0)))

      is_top : (number ≡ 1 → ⊥) → (number ≡ 2 → ⊥) → number ≡ 3
      is_top one two =
          let bounds = numbers (operation_at w i) in
          let stored = (k.entry.formed.packed.log.as_stored i k.entry.inside).0 in
          let first = ap first_number k.of_stack in
          let last = ap last_number k.of_stack in omega (arith, numbered, stored, bounds, first, last, one, two)

      pub looked_at : (number ≡ 1 → ⊥) → (number ≡ 2 → ⊥) → AfterEntry w i state test
      looked_at one two =
          judged (on_stack top) (named 3 (is_top one two)) top_right (get_or state.counts o 0) (get_or state.tops o 0)
          (get_or state.below i 0) (s.counted o placed) (stacked_top stack_here (get_or state.below i 0)) _ _ _
          (set-get_or state.counts o 0) (set-get_or state.tops o 0) (set-get_or state.below i 0)
