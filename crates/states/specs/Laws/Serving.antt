-- The state while entries are served: at the start, at an entry, after it, and at the end.
use Rattle.std.specs.Prelude.{ℕ, ◌+◌, ◌≤◌, ◌<◌, ◌≡◌, refl, Bool, true, cond, ◌&&◌, ◌↔◌, List, ◌∷◌, eqb, length}
use Rattle.std.specs.Prelude.{get_or, set}
use Rattle.std.proofs.Common.{sym, ap, ap₂, ◌∙◌, subst, arith, eq-eqb, ne_eqb, get_or-set_same, get_or-set_other}
use Rattle.std.proofs.Math.Option.{some, some-injective}
use Rattle.std.proofs.lemmas.Bool.Decides.{nat_tests}
use Rattle.std.specs.Cmp.Derive.{both_true}
use Rattle.operations.specs.Operations.{Kind, Stack, Set, Table, Row, Operation, Answer, answering, kind_of, key_of}
use Rattle.operations.specs.Operations.{next}
use Rattle.operations.specs.Operations.{answer, WellFormed, reduce_key}
use Rattle.operations.specs.Log.{Answered}
use Rattle.operations.specs.declared.Answer as coded
use Rattle.operations.specs.Stored.{answer_of}
use Rattle.operations.proofs.Laws.Cases.{same}
use Rattle.operations.specs.Operations.{adds}
use Rattle.store.specs.Layout.{word, entry_start, operation_at, entry_at, rows_at, base}
use Rattle.store.proofs.Laws.Reading.{kind_below}
use Rattle.store.proofs.Laws.Capacity.{grows}
use Rattle.representatives.specs.Representatives.{entry_key}
use Rattle.representatives.specs.Laws.Reading.{of_kind_lem}
use Rattle.store.proofs.Laws.Entries.{entries_from, entries_own, entries_other, entries_end}
use Rattle.answers.specs.Laws.Entries.{at_most_one}
use Rattle.answers.specs.Laws.Whole.{row_count, rows_read}
use Rattle.states.specs.declared.State.{State}
use Rattle.states.specs.States.{kind_at, Ordered, AllAnswered, Sized, Serving, Formed, EntryOn, RowCounts}
use Rattle.states.specs.Laws.Cells.{ordered_next}
use Rattle.states.specs.Laws.Stacks.{stacked_start}
use mathlib.Core.Logic.Iff

-- ---- The book

ordered_of : (kind : Kind) (rs : List Row) → WellFormed reduce_key kind rs → Ordered kind rs
ordered_of Stack rs f = tt
ordered_of Set rs f = f.2
ordered_of Table rs f = f.1

module _ {w : List ℕ} (formed : Formed w) where
  pub ordered_first : (o : ℕ) (kind : Kind) → kind_at w o ≡ some kind → Ordered kind (rows_at w o)
  ordered_first o kind k =
      ordered_of kind (rows_at w o) (rw (rows_read w o (kind_below base w o kind k)) at (formed.rows o kind k))

  pub start : (state : State) → Sized state → RowCounts w 16 state.counts
      → ((o : ℕ) → o < 16 → get_or state.tops o 0 ≡ 0) → Serving w 0 state
  start state sized counted empty =
      record {
        sized = sized;
        rows = rows_at w;
        ordered = ordered_first;
        few = λ o l. omega (arith, row_count w o, (formed.packed.objects o l).rows);
        counted = λ o l. counted.rows o l ∙ sym (row_count w o);
        cell = λ j l f k. absurd (omega arith);
        fresh = λ o k u n. refl;
        stack = λ o l k. stacked_start w (rows_at w o) (get_or state.tops o 0) state.below (empty o l);
        left = Iff.rfl;
      }

pub served_all : {w : List ℕ} {i : ℕ} {state : State} → Serving w i state → word w 0 ≤ i → AllAnswered w 0 (rows_at w)
served_all {w} {i} s l = s.left.0 (λ o m. rw (entries_end w i o l) tt)

-- ---- At an entry

-- What was read of an entry's answer.
abbrev AnswerRead : List ℕ → ℕ → coded.Answer → Type 0
AnswerRead w i answer = (answer.code ≡ word w (entry_start i + 5)) × (answer.value ≡ word w (entry_start i + 6))

-- A test says whether an answer is the entry's answer.
abbrev pub Tests : List ℕ → ℕ → Answer → Bool → Type 0
Tests w i given test = (test ≡ true) ↔ (given ≡ (entry_at w i).entry.answer)

-- The rows after an operation on object o.
moved : (ℕ → List Row) → ℕ → Operation → ℕ → List Row
moved rows o op q = cond (eqb q o) (next op (rows q)) (rows q)

module _ {w : List ℕ} {i o : ℕ} (e : EntryOn w i o) where
  pub kind_here : kind_at w o ≡ some (kind_of (operation_at w i))
  kind_here = ap (kind_at w) e.on ∙ of_kind_lem w e.formed.fits i e.inside

  pub placed : o < 16
  placed = kind_below base w o (kind_of (operation_at w i)) kind_here

  pub kind_of_lem : (kind : Kind) → kind_at w o ≡ some kind → kind_of (operation_at w i) ≡ kind
  kind_of_lem kind k = some-injective (kind_of (operation_at w i)) kind (sym kind_here ∙ k)

  pub key_stored : key_of (operation_at w i) ≡ entry_key w i
  key_stored = (e.formed.packed.log.as_stored i e.inside).1

  -- the entry's answer compared with another
  pub tests : (answer given : coded.Answer) → AnswerRead w i answer
      → Tests w i (answer_of given) (eqb answer.code given.code && eqb answer.value given.value)
  tests answer given read =
      let is : answer_of answer ≡ (entry_at w i).entry.answer = ap₂ answering read.0 read.1 in (
        λ e. ap₂ answering (grind (arith, nat_tests)) (grind (arith, nat_tests)) ∙ is,
        λ e.
            let equal : answer_of given ≡ answer_of answer = e ∙ sym is in
            both_true (eq-eqb _ _ (sym (ap (λ (r : Answer). r.code) equal)))
            (eq-eqb _ _ (sym (ap (λ (r : Answer). r.value) equal))),
      )

  module _ {state : State} (s : Serving w i state) where
    pub ordered_here : Ordered (kind_of (operation_at w i)) (s.rows o)
    ordered_here = s.ordered o (kind_of (operation_at w i)) kind_here

    entries_here : entries_from w o i ≡ (entry_at w i).entry ∷ entries_from w o (i + 1)
    entries_here = entries_own w i o e.inside (sym e.on)

    abbrev pub Right : Type 0
    Right = answer (operation_at w i) (s.rows o) ≡ (entry_at w i).entry.answer

    pub wrong : (Right → ⊥) → AllAnswered w 0 (rows_at w) → ⊥
    wrong n h = n (rw entries_here at (s.left.1 h o placed)).0

    -- ---- The rows after it, and the count

    pub rows_after : ℕ → List Row
    rows_after = moved s.rows o (operation_at w i)

    pub rows_own : rows_after o ≡ next (operation_at w i) (s.rows o)
    unfolding rows_after moved
    rows_own = rw (eq-eqb o o refl)

    pub rows_other : (q : ℕ) → (q ≡ o → ⊥) → rows_after q ≡ s.rows q
    unfolding rows_after moved
    rows_other q n = rw (ne_eqb q o n)

    pub ordered_after : (q : ℕ) (kind : Kind) → kind_at w q ≡ some kind → Ordered kind (rows_after q)
    ordered_after q kind k =
        same q o
        (λ (d : q ≡ o).
        rw (d, rows_own)
        (subst (λ (t : Kind). Ordered t (next (operation_at w i) (s.rows o)))
        (kind_of_lem kind (ap (kind_at w) (sym d) ∙ k))
        (ordered_next (s.rows o) (operation_at w i) ordered_here)))
        (λ (d : q ≡ o → ⊥). rw (rows_other q d) (s.ordered q kind k))

    pub few_after : (q : ℕ) → q < 16 → length (rows_after q) ≤ 64 + (i + 1)
    few_after q m =
        same q o
        (λ (d : q ≡ o).
        rw (d, rows_own)
        (omega (arith, grows (operation_at w i) (s.rows o), at_most_one (adds (operation_at w i)), s.few o placed)))
        (λ (d : q ≡ o → ⊥). rw (rows_other q d) (omega (arith, s.few q m)))

    pub counted_after : (n : ℕ) → n ≡ length (next (operation_at w i) (s.rows o)) → (q : ℕ) → q < 16
        → get_or (set state.counts o n) q 0 ≡ length (rows_after q)
    counted_after n c q m =
        let small : o < length state.counts = omega (arith, placed, s.sized.of_counts) in
        same q o (λ (d : q ≡ o). rw (d, rows_own) (get_or-set_same state.counts o n 0 small ∙ c))
        (λ (d : q ≡ o → ⊥). rw (rows_other q d) (get_or-set_other state.counts o q n 0 d ∙ s.counted q m))

    pub left_after : Right → AllAnswered w (i + 1) rows_after ↔ AllAnswered w 0 (rows_at w)
    left_after right = Iff.trans (λ h q m. (step q).0 (h q m), λ h q m. (step q).1 (h q m)) s.left
      where
        step : (q : ℕ) → Answered next answer (entries_from w q (i + 1)) (rows_after q)
            ↔ Answered next answer (entries_from w q i) (s.rows q)
        step q =
            same q o (λ (d : q ≡ o). rw (d, entries_here, rows_own) (λ h. (right, h), λ h. h.1))
            (λ (d : q ≡ o → ⊥).
            rw (entries_other w i q e.inside (λ x. d (sym x ∙ sym e.on)), rows_other q d) Iff.rfl)
