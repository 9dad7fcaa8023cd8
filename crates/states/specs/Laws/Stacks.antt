-- A stack's rows as rows of the book with the items of linked entries on them.
use Rattle.std.specs.Prelude.{ℕ, zero, suc, ◌+◌, ◌-◌, ◌≤◌, ◌<◌, ◌≡◌, refl, List, [], ◌∷◌, length, get_or, take, set}
use Rattle.std.proofs.Common.{sym, ap, ◌∙◌, subst, arith, get_or-take, get_or-set_same, get_or-set_other}
use Rattle.std.proofs.Common.{take-take, length-take-le}
use Rattle.std.proofs.Math.Option.{some}
use Rattle.std.specs.Prelude.{Some}
use Rattle.std.proofs.lemmas.List.{set-get_or}
use Rattle.std.proofs.Math.Seq.{take-length}
use Rattle.operations.specs.Operations.{Row, row, answering, valued, push, pop, stack_next, top_item}
use Rattle.operations.proofs.Laws.Stacks.{top_of_pushed, popped_of_pushed}
use Rattle.store.specs.Layout.{word, object_start, row_at, rows_at}
use Rattle.store.proofs.Laws.Lists.{get_d_tabulate}
use Rattle.representatives.specs.Representatives.{entry_key}
use Rattle.answers.specs.Laws.Whole.{row_count}
use Rattle.states.specs.declared.State.{State}
use Rattle.states.specs.States.{pushed_on, LinkedDown, Stacked, TopBy}

-- Entries below i are linked as before, whatever is written at i.
linked_kept : (below : List ℕ) (i b top : ℕ) (es : List ℕ) → LinkedDown below i top es
    → LinkedDown (set below i b) (i + 1) top es
linked_kept below i b top [] l = l
linked_kept below i b top (e ∷ es) (h, m, l) =
    (h, omega arith, rw (get_or-set_other below i e b 0 (omega arith)) (linked_kept below i b (get_or below e 0) es l))

pub stacked_start : (w : List ℕ) (rs : List Row) (top : ℕ) (below : List ℕ) → top ≡ 0 → Stacked w 0 rs rs top below
stacked_start w rs top below e =
    record { low = length rs; pushes = []; within = omega arith; linked = e; stacked = sym (take-length rs) }

module _ {w : List ℕ} {i : ℕ} {first rows : List Row} {top : ℕ} {below : List ℕ}
    (s : Stacked w i first rows top below) where
  -- the rows of the book that are left
  abbrev bottom : List Row
  bottom = take s.low first

  -- The item on top is a row of the book, or it was pushed.
  by_top : {A : Type 0} → (top ≡ 0 → rows ≡ bottom → A)
      → ((e : ℕ) (es : List ℕ) → LinkedDown below i top (e ∷ es) → rows ≡ pushed_on w bottom (e ∷ es) → A) → A
  by_top {A} none-on some-on = by s.pushes s.linked s.stacked
    where
      by : (es : List ℕ) → LinkedDown below i top es → rows ≡ pushed_on w bottom es → A
      by [] l h = none-on l h
      by (e ∷ es) l h = some-on e es l h

  of_first : top ≡ 0 → rows ≡ bottom
  of_first z = by_top (λ t h. h) (λ e es l h. absurd (omega (arith, l.0)))

  pub top_within : top ≤ i
  top_within = by_top (λ t h. omega arith) (λ e es l h. omega (arith, l.0, l.1))

  pub depth_of_first : top ≡ 0 → length rows ≤ length first
  depth_of_first z = omega (arith, ap length (of_first z), length-take-le s.low first s.within, s.within)

  -- ---- After an operation; b is what is written at i

  pub stacked_push : i < length below
      → Stacked w (i + 1) first (stack_next (push (entry_key w i)) rows) (i + 1) (set below i top)
  stacked_push l =
      record {
        low = s.low;
        pushes = i ∷ s.pushes;
        within = s.within;
        linked =
            let kept = linked_kept below i top top s.pushes s.linked in
            (refl, omega arith, rw (get_or-set_same below i top 0 l) kept);
        stacked = ap (stack_next (push (entry_key w i))) s.stacked;
      }

  module _ (b : ℕ) where
    pub stacked_top : Stacked w (i + 1) first rows top (set below i b)
    stacked_top =
        record {
          low = s.low;
          pushes = s.pushes;
          within = s.within;
          linked = linked_kept below i b top s.pushes s.linked;
          stacked = s.stacked;
        }

    pub popped_pushed : (top ≡ 0 → ⊥)
        → Stacked w (i + 1) first (stack_next pop rows) (get_or below (top - 1) 0) (set below i b)
    popped_pushed n =
        by_top (λ t h. absurd (n t))
        (λ e es l h.
        let at : top - 1 ≡ e = omega (arith, l.0) in
        record {
          low = s.low;
          pushes = es;
          within = s.within;
          linked = rw at (linked_kept below i b (get_or below e 0) es l.2);
          stacked = ap (stack_next pop) h ∙ popped_of_pushed (entry_key w e) (pushed_on w bottom es);
        })

    pub popped_first : top ≡ 0 → Stacked w (i + 1) first (stack_next pop rows) top (set below i b)
    popped_first z =
        record {
          low = s.low - 1;
          pushes = [];
          within = omega (arith, s.within);
          linked = z;
          stacked = ap (stack_next pop) (of_first z)
              ∙ ap (λ (n : ℕ). take (n - 1) bottom) (length-take-le s.low first s.within)
              ∙ take-take (s.low - 1) s.low first (omega arith);
        }

  -- An entry of another object.
  pub stacked_past : Stacked w (i + 1) first rows top below
  stacked_past = subst (Stacked w (i + 1) first rows top) (set-get_or below i 0) (stacked_top (get_or below i 0))

-- ---- The item on top

top_at : (rs : List Row) (t : ℕ) → length rs ≡ suc t → top_item rs ≡ some (get_or rs t (row 0 0)).key
top_at [] t e = absurd (omega arith)
top_at (r ∷ rs) t e =
    let n : length rs ≡ t = omega arith in
    ap (λ (q : Row). some q.key) (get_d_any (r ∷ rs) (length rs) r (row 0 0) (omega arith))
    ∙ ap (λ (p : ℕ). some (get_or (r ∷ rs) p (row 0 0)).key) n
  where
    get_d_any : (l : List Row) (p : ℕ) (d e : Row) → p < length l → get_or l p d ≡ get_or l p e
    get_d_any [] p d e m = absurd (omega arith)
    get_d_any (x ∷ l) zero d e m = refl
    get_d_any (x ∷ l) (suc p) d e m = get_d_any l p d e (omega arith)

module _ (w : List ℕ) (o : ℕ) (state : State) where
  pub top_pushed : (j x : ℕ) → j + 1 ≡ get_or state.tops o 0 → x ≡ entry_key w j → TopBy w o state (Some x)
  top_pushed j x at named i rows s c =
      by_top s (λ t h. absurd (omega arith))
      (λ e es l h.
      let same : j ≡ e = omega (arith, l.0) in
      ap (λ (v : ℕ). answering 1 v) (named ∙ ap (entry_key w) same)
      ∙ ap valued (sym (ap top_item h ∙ top_of_pushed (entry_key w e) (pushed_on w (take s.low (rows_at w o)) es))))

  pub top_first : get_or state.tops o 0 ≡ 0 → (t x : ℕ) → get_or state.counts o 0 ≡ t + 1 → x ≡ (row_at w o t).key
      → TopBy w o state (Some x)
  top_first z t x q named i rows s c =
      let h : rows ≡ take s.low (rows_at w o) = of_first s z in
      let m : length rows ≡ s.low = ap length h ∙ length-take-le s.low (rows_at w o) s.within in
      ap (λ (j : ℕ). answering 1 j) named
      ∙ ap valued
      (sym
      (top_at rows t (omega (arith, c, q))
      ∙ ap (λ (r : Row). some r.key)
      (ap (λ (l : List Row). get_or l t (row 0 0)) h ∙ get_or-take s.low (rows_at w o) t (row 0 0)
      (omega (arith, c, m, q))
      ∙ get_d_tabulate (word w (object_start o + 1)) (row_at w o) t (row 0 0)
      (omega (arith, c, m, q, s.within, row_count w o)))))
