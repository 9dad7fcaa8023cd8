-- Stacks: the view that decides an answer, and what the pair rules say yes to.
use Rattle.std.specs.Prelude.{ℕ, zero, suc, ◌-◌, ◌≡◌, refl, true, List, [], ◌∷◌, ◌++◌, length, get_or, take}
use Rattle.std.proofs.Common.{ap, ◌∙◌, arith, add-one, length-append, take_at}
use Rattle.std.proofs.lemmas.Bool.{false≢true}
use Rattle.std.proofs.Math.Option.{some}
use Rattle.std.proofs.Math.Seq.{get_or-append_seam}
use Rattle.operations.specs.Operations.{Row, row, StackOperation, push, pop, top, Operation, on_stack, number_of}
use Rattle.operations.specs.Operations.{stack_next, stack_answer, top_item, valued, All, NoValue}
use Rattle.operations.specs.PairRules.{allows, rule_at, stack_recoverable, recoverable}
use Rattle.operations.proofs.Laws.Cases.{all_append}

-- ---- Last in, first out

pub top_of_pushed : (x : ℕ) (rs : List Row) → top_item (stack_next (push x) rs) ≡ some x
top_of_pushed x [] = refl
top_of_pushed x (r ∷ rs) =
    ap (λ (n : ℕ). some (get_or (stack_next (push x) (r ∷ rs)) n r).key)
    (length-append rs (row x 0 ∷ []) ∙ add-one (length rs))
    ∙ ap (λ (q : Row). some q.key) (get_or-append_seam rs (row x 0) [] r)

pub popped_of_pushed : (x : ℕ) (rs : List Row) → stack_next pop (stack_next (push x) rs) ≡ rs
popped_of_pushed x rs = take_at rs (row x 0 ∷ []) (length (rs ++ row x 0 ∷ []) - 1) (simp length-append (omega arith))

-- ---- The laws of an object type

all_take : (P : Row → Type 0) (n : ℕ) (rs : List Row) → All P rs → All P (take n rs)
all_take P zero [] a = tt
all_take P zero (r ∷ rs) a = tt
all_take P (suc n) [] a = tt
all_take P (suc n) (r ∷ rs) a = (a.0, all_take P n rs a.1)

pub stack_valid : (o : StackOperation) (rs : List Row) → All NoValue rs → All NoValue (stack_next o rs)
stack_valid (push x) rs a = all_append NoValue rs (row x 0 ∷ []) a (refl, tt)
stack_valid pop rs a = all_take NoValue (length rs - 1) rs a
stack_valid top rs a = a

abbrev pub StackView : StackOperation → Type 0
StackView (push x) = Unit {0}
StackView pop = List Row
StackView top = List Row

abbrev pub stack_view : (o : StackOperation) → List Row → StackView o
stack_view (push x) rs = tt
stack_view pop rs = rs
stack_view top rs = rs

pub stack_answer_lem : (o : StackOperation) (s t : List Row) → stack_view o s ≡ stack_view o t
    → stack_answer o s ≡ stack_answer o t
stack_answer_lem (push x) s t e = refl
stack_answer_lem pop s t e = ap (λ (rs : List Row). valued (top_item rs)) e
stack_answer_lem top s t e = ap (λ (rs : List Row). valued (top_item rs)) e

pub stack_view_next : (o p : StackOperation) (s t : List Row) → stack_view o s ≡ stack_view o t
    → stack_view o (stack_next p s) ≡ stack_view o (stack_next p t)
stack_view_next (push x) p s t e = refl
stack_view_next pop p s t e = ap (stack_next p) e
stack_view_next top p s t e = ap (stack_next p) e

-- where the rules of pop and top say yes, what is logged keeps the rows
rows_kept : (o : Operation) (p : StackOperation) (rs : List Row)
    → allows (rule_at stack_recoverable 1 (number_of (on_stack p) - 1)) o (on_stack p) ≡ true
    → stack_next p rs ≡ rs
rows_kept o (push x) rs e = absurd (false≢true e)
rows_kept o pop rs e = absurd (false≢true e)
rows_kept o top rs e = refl

pub stack_view_recoverable : (o p : StackOperation) (rs : List Row) → recoverable (on_stack o) (on_stack p) ≡ true
    → stack_view o (stack_next p rs) ≡ stack_view o rs
stack_view_recoverable (push x) p rs e = refl
stack_view_recoverable pop p rs e = rows_kept (on_stack pop) p rs e
stack_view_recoverable top p rs e = rows_kept (on_stack top) p rs e
