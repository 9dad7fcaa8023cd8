-- Stacks, sets and tables are object types: the laws of `Log`, for an object of each kind.
use Rattle.std.specs.Prelude.{ℕ, ◌≡◌, refl, true, not, ◌&&◌, List, eqb}
use Rattle.std.proofs.Common.{sym, ap, ◌∙◌, subst, arith}
use Rattle.std.proofs.lemmas.Bool.{false≢true}
use Rattle.operations.specs.Operations.{Kind, Stack, Set, Table, Row, Answer, StackOperation, push, pop, top}
use Rattle.operations.specs.Operations.{SetOperation, set_insert, set_delete, member, TableOperation, table_insert}
use Rattle.operations.specs.Operations.{table_delete, lookup, size, modify, Operation, on_stack, on_set, on_table}
use Rattle.operations.specs.Operations.{kind_of, number_of, key_of, next, answer, WellFormed, StoredKey, Fits}
use Rattle.operations.specs.PairRules.{first_number, recoverable, commutes}
use Rattle.operations.proofs.Laws.Cases.{either}
use Rattle.operations.proofs.Laws.ObjectTypes.{ObjectType}
use Rattle.operations.proofs.Laws.Stacks.{StackView, stack_view, stack_valid, stack_answer_lem, stack_view_next}
use Rattle.operations.proofs.Laws.Stacks.{stack_view_recoverable}
use Rattle.operations.proofs.Laws.Sets.{SetView, set_view, set_values, set_reduced, set_ascending, set_answer_lem}
use Rattle.operations.proofs.Laws.Sets.{set_view_next, set_view_recoverable, set_apart}
use Rattle.operations.proofs.Laws.Grid.{reading, keyed, commuting_mutual, commuting_unordered}
use Rattle.operations.proofs.Laws.Tables.{TableView, table_view, next_ascending, next_reduced, table_answer_lem}
use Rattle.operations.proofs.Laws.Tables.{table_view_next, table_view_recoverable, apart_commutes, differ}
use Rattle.operations.proofs.Laws.Storing.{one_operation}

-- ---- By the kind of one operation, and of two

pub by_kind : (P : Kind → Operation → Type 0) → ((o : StackOperation) → P Stack (on_stack o))
    → ((o : SetOperation) → P Set (on_set o))
    → ((o : TableOperation) → P Table (on_table o)) → (kind : Kind) (o : Operation) → kind_of o ≡ kind → P kind o
by_kind P f g h kind o e = subst (λ (k : Kind). P k o) e (own o)
  where
    own : (o : Operation) → P (kind_of o) o
    own (on_stack o) = f o
    own (on_set o) = g o
    own (on_table o) = h o

pub by_kinds : (P : Kind → Operation → Operation → Type 0) → ((o p : StackOperation) → P Stack (on_stack o)
    (on_stack p))
    → ((o p : SetOperation) → P Set (on_set o) (on_set p)) → ((o p : TableOperation) → P Table (on_table o)
    (on_table p))
    → (kind : Kind) (o p : Operation) → kind_of o ≡ kind → kind_of p ≡ kind → P kind o p
by_kinds P f g h kind o p e d = subst (λ (k : Kind). P k o p) e (own o p (d ∙ sym e))
  where
    own : (o p : Operation) → kind_of p ≡ kind_of o → P (kind_of o) o p
    own (on_stack o) (on_stack p) q = f o p
    own (on_stack o) (on_set p) q = absurd (omega (arith, ap first_number q))
    own (on_stack o) (on_table p) q = absurd (omega (arith, ap first_number q))
    own (on_set o) (on_stack p) q = absurd (omega (arith, ap first_number q))
    own (on_set o) (on_set p) q = g o p
    own (on_set o) (on_table p) q = absurd (omega (arith, ap first_number q))
    own (on_table o) (on_stack p) q = absurd (omega (arith, ap first_number q))
    own (on_table o) (on_set p) q = absurd (omega (arith, ap first_number q))
    own (on_table o) (on_table p) q = h o p

-- ---- The laws

abbrev pub View : Operation → Type 0
View (on_stack o) = StackView o
View (on_set o) = SetView o
View (on_table o) = TableView o

abbrev pub view : (o : Operation) → List Row → View o
view (on_stack o) rs = stack_view o rs
view (on_set o) rs = set_view o rs
view (on_table o) rs = table_view o rs

-- ---- Either order

kept_by : (o : Operation) → reading (number_of o) ≡ true → (rs : List Row) → next o rs ≡ rs
kept_by (on_stack (push x)) e rs = absurd (false≢true e)
kept_by (on_stack pop) e rs = absurd (false≢true e)
kept_by (on_stack top) e rs = refl
kept_by (on_set (set_insert k)) e rs = absurd (false≢true e)
kept_by (on_set (set_delete k)) e rs = absurd (false≢true e)
kept_by (on_set (member k)) e rs = refl
kept_by (on_table (table_insert k v)) e rs = absurd (false≢true e)
kept_by (on_table (table_delete k)) e rs = absurd (false≢true e)
kept_by (on_table (lookup k)) e rs = refl
kept_by (on_table size) e rs = refl
kept_by (on_table (modify k v)) e rs = absurd (false≢true e)

module _ (reduce : ℕ → ℕ) (kind : Kind) where
  pub valid_next : (o : Operation) (rs : List Row) → Fits reduce kind o → WellFormed reduce kind rs
      → WellFormed reduce kind (next o rs)
  valid_next o rs f =
      by_kind (λ (k : Kind) (p : Operation). StoredKey reduce p → WellFormed reduce k rs
      → WellFormed reduce k (next p rs)) (λ p red v. stack_valid p rs v)
      (λ p red v. (set_values p rs v.0, set_reduced reduce p rs red v.1, set_ascending p rs v.2))
      (λ p red v. (next_reduced reduce p rs red v.0, next_ascending p rs v.1)) kind o f.0 f.1

  pub answer_view : (o : Operation) (s t : List Row) → Fits reduce kind o → WellFormed reduce kind s
      → WellFormed reduce kind t → view o s ≡ view o t
      → answer o s ≡ answer o t
  answer_view o s t f =
      by_kind (λ (k : Kind) (q : Operation). WellFormed reduce k s → WellFormed reduce k t → view q s ≡ view q t
      → answer q s ≡ answer q t)
      (λ q v w. stack_answer_lem q s t) (λ q v w. set_answer_lem q s t) (λ q v w. table_answer_lem q s t v.1 w.1) kind o
      f.0

  module _ (o p : Operation) where
    pub view_next : (s t : List Row) → Fits reduce kind o → Fits reduce kind p → WellFormed reduce kind s
        → WellFormed reduce kind t → view o s ≡ view o t
        → view o (next p s) ≡ view o (next p t)
    view_next s t f g =
        by_kinds
        (λ (k : Kind) (q r : Operation). WellFormed reduce k s → WellFormed reduce k t → view q s ≡ view q t
        → view q (next r s) ≡ view q (next r t))
        (λ q r v w. stack_view_next q r s t) (λ q r v w. set_view_next q r s t v.2 w.2)
        (λ q r v w. table_view_next q r s t v.1 w.1) kind o p
        f.0 g.0

    pub view_recoverable : (s : List Row) → Fits reduce kind o → Fits reduce kind p → WellFormed reduce kind s
        → recoverable o p ≡ true
        → view o (next p s) ≡ view o s
    view_recoverable s f g =
        by_kinds (λ (k : Kind) (q r : Operation). WellFormed reduce k s → recoverable q r ≡ true
        → view q (next r s) ≡ view q s)
        (λ q r v. stack_view_recoverable q r s) (λ q r v. set_view_recoverable q r s v.2)
        (λ q r v. table_view_recoverable q r s v.1) kind o p
        f.0 g.0

    -- whose keys differ, of a set or a table
    apart_next : (s : List Row) → Fits reduce kind o → Fits reduce kind p → WellFormed reduce kind s
        → keyed kind && not (eqb (key_of o) (key_of p)) ≡ true → next o (next p s) ≡ next p (next o s)
    apart_next s f g =
        by_kinds (λ (k : Kind) (q r : Operation). WellFormed reduce k s → keyed k && not (eqb (key_of q) (key_of r))
        ≡ true
        → next q (next r s) ≡ next r (next q s))
        (λ q r v e. absurd (false≢true e)) (λ q r v e. set_apart q r s (differ _ _ e) v.2)
        (λ q r v e. apart_commutes q r s (differ _ _ e) v.1) kind o p f.0 g.0

    pub next_commutes : (s : List Row) → Fits reduce kind o → Fits reduce kind p → WellFormed reduce kind s
        → commutes o p ≡ true
        → next o (next p s) ≡ next p (next o s)
    next_commutes s f g v e =
        either (reading (number_of o)) (commuting_unordered o p (g.0 ∙ sym f.0) e)
        (λ reads. kept_by o reads (next p s) ∙ sym (ap (next p) (kept_by o reads s)))
        (λ rest.
        either (reading (number_of p)) rest
        (λ reads. ap (next o) (kept_by p reads s) ∙ sym (kept_by p reads (next o s)))
        (λ rest.
        either (keyed (kind_of o) && not (eqb (key_of o) (key_of p))) rest
        (λ apart. apart_next s f g v (rw f.0 at apart)) (λ same. rw (one_operation o p same))))

    pub recoverable_commutes : Fits reduce kind o → Fits reduce kind p → commutes o p ≡ true
        → (recoverable o p ≡ true) × (recoverable p o ≡ true)
    recoverable_commutes f g e =
        let h = (commuting_mutual o p (g.0 ∙ sym f.0)).0 e in
        (h.0, h.1)

  -- A stack, set or table as an object type; `reduce` is the key reduction in force.
  abbrev pub object : ObjectType
  object =
      record {
        State = List Row;
        Operation = Operation;
        Answer = Answer;
        next = next;
        answer = answer;
        recoverable = recoverable;
        commutes = commutes;
        Valid = WellFormed reduce kind;
        Fits = Fits reduce kind;
        View = View;
        view = view;
        valid_next = valid_next;
        answer_view = answer_view;
        view_next = view_next;
        view_recoverable = view_recoverable;
        next_commutes = next_commutes;
        recoverable_commutes = recoverable_commutes;
      }
