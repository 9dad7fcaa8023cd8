-- The loop over all entries, which counts the rows in use beside.
use Rattle.std.specs.Prelude.{ℕ, ◌+◌, ◌≤◌, ◌<◌, ◌≡◌, refl, Bool, true, false, ◌↔◌, List, length, get_or, set}
use Rattle.std.proofs.Common.{sym, ◌∙◌, arith, length-set, get_or-set_same, get_or-set_other}
use Rattle.operations.specs.declared.Operation.{Operation}
use Rattle.operations.proofs.Laws.Cases.{same, yes, no}
use Rattle.store.specs.Layout.{word, decode, object_start, base}
use Rattle.store.specs.Soundness.{EntriesAnswered, Room}
use Rattle.answers.specs.Answers.{rows_needed}
use Rattle.answers.specs.Laws.Entries.{OperationRead, EntryOperation, needed_few}
use Rattle.store.proofs.Laws.Entries.{entries_end}
use Rattle.answers.specs.Laws.Counting.{Counting, count_start, count_past, count_own, count_end}
use Rattle.answers.specs.Laws.Whole.{all_room, all_answered, each_answered}
use Rattle.states.specs.declared.State.{State}
use Rattle.states.specs.States.{Sized, Serving, Formed, EntryOn, AfterEntry}
use Rattle.states.specs.States.{RowCounts}
use Rattle.states.specs.Laws.Serving as serving

-- ---- The counts at the start

pub counts_more : (w : List ℕ) (n : ℕ) (counts : List ℕ) (x : ℕ) → n < 16 → x ≡ word w (object_start n + 1)
    → RowCounts w n counts → RowCounts w (n + 1) (set counts n x)
counts_more w n counts x l e r =
    record {
      objects = length-set counts n x ∙ r.objects;
      rows = λ o m.
          same o n (λ (d : o ≡ n). rw d (get_or-set_same counts n x 0 (omega (arith, r.objects)) ∙ e))
          (λ (d : o ≡ n → ⊥). get_or-set_other counts n o x 0 d ∙ r.rows o (omega arith));
    }

-- ---- The loop

-- The entries below i are served, their rows are counted, and there is room for these.
pub record Going (w : List ℕ) (i : ℕ) (state : State) (used : List ℕ) : Type 0 where
  pub served : Serving w i state
  pub of_used : length used ≡ 16
  pub counting : (o : ℕ) → o < 16 → Counting w o i (get_or used o 0)
  pub room : (o : ℕ) → o < 16 → get_or used o 0 ≤ 64

-- At entry i, of object o: the operation that was read, and the rows that it may need.
pub record Taken (w : List ℕ) (i o : ℕ) (operation : Operation) (needed : ℕ) : Type 0 where
  pub entry : EntryOn w i o
  pub words : OperationRead w i operation
  pub needs : needed ≡ rows_needed operation.number

-- What is decided.
abbrev Decided : List ℕ → Bool → Type 0
Decided w r = (r ≡ true) ↔ (Room base (decode base w) × EntriesAnswered (decode base w))

module _ {w : List ℕ} (formed : Formed w) where
  pub no_entries : word w 0 ≡ 0 → Decided w true
  no_entries e =
      yes refl (
        all_room w formed.fits
            (λ o l.
            let count = word w (object_start o + 1) in
            let all = count_end w o 0 (omega arith) count (count_start w formed.packed o l count refl) in
            omega (arith, all, (formed.packed.objects o l).rows)),
        all_answered w formed.fits (λ o l. rw (entries_end w 0 o (omega arith)) tt),
      )

  pub go_start : (state : State) → Sized state → RowCounts w 16 state.counts
      → ((o : ℕ) → o < 16 → get_or state.tops o 0 ≡ 0) → Going w 0 state state.counts
  go_start state sized counted empty =
      record {
        served = serving.start formed state sized counted empty;
        of_used = counted.objects;
        counting = λ o l. count_start w formed.packed o l (get_or state.counts o 0) (counted.rows o l);
        room = λ o l. omega (arith, counted.rows o l, (formed.packed.objects o l).rows);
      }

  module _ {i : ℕ} {state : State} {used : List ℕ} (g : Going w i state used) where
    pub go_end : word w 0 ≤ i → Decided w true
    go_end l =
        yes refl (
          all_room w formed.fits
              (λ o m. let all = count_end w o i l (get_or used o 0) (g.counting o m) in omega (arith, all, g.room o m)),
          all_answered w formed.fits (serving.served_all g.served l),
        )

    module _ {o : ℕ} {operation : Operation} {needed : ℕ} (t : Taken w i o operation needed) where
      read : EntryOperation w i operation
      read = record { packed = formed.packed; inside = t.entry.inside; words = t.words }

      pub go_bounds : (get_or used o 0 ≤ 64) × (needed ≤ 1)
      go_bounds = (g.room o (serving.placed t.entry), omega (arith, t.needs, needed_few operation.number))

      counted : Counting w o (i + 1) (get_or used o 0 + needed)
      counted =
          count_own read o (sym t.entry.on) (get_or used o 0) needed (g.counting o (serving.placed t.entry))
          t.needs

      pub go_full : (get_or used o 0 + needed ≤ 64 → ⊥) → Decided w false
      go_full f = no refl (λ a. f (omega (arith, a.0 o, counted.left)))

      abbrev taken : List ℕ
      taken = set used o (get_or used o 0 + needed)

      module _ {state' : State} {r : Bool} (d : AfterEntry w i state' r) where
        pub go_wrong : r ≡ false → Decided w false
        go_wrong f = no refl (λ a. d.1 f (each_answered w formed.fits a.1))

        pub go_on : r ≡ true → get_or used o 0 + needed ≤ 64 → Going w (i + 1) state' taken
        go_on f l =
            let here : get_or taken o 0 ≡ get_or used o 0 + needed =
            get_or-set_same used o (get_or used o 0 + needed) 0 (omega (arith, g.of_used, serving.placed t.entry)) in
            record {
              served = d.0 f;
              of_used = length-set used o (get_or used o 0 + needed) ∙ g.of_used;
              counting = λ q m.
                  same q o (λ (x : q ≡ o). rw (x, here) counted)
                  (λ (x : q ≡ o → ⊥).
                  rw (get_or-set_other used o q (get_or used o 0 + needed) 0 x)
                  (count_past w q i t.entry.inside (λ y. x (sym y ∙ sym t.entry.on)) (get_or used q 0)
                  (g.counting q m)));
              room = λ q m.
                  same q o (λ (x : q ≡ o). rw (x, here) l)
                  (λ (x : q ≡ o → ⊥).
                  rw (get_or-set_other used o q (get_or used o 0 + needed) 0 x) (g.room q m));
            }
