-- The fields of a line, taken one after the other: the first is the letter, and the numbers of the others are pushed.
use Rattle.std.specs.Prelude.{ℕ, ◌<◌, ◌≡◌, refl, List, [], ◌∷◌, ◌++◌, Some, None, length, get_or}
use Rattle.std.specs.Prelude.{Bool, true, false, cond, eqb, map, take, drop}
use Rattle.std.specs.Fn.{CalledAt}
use Rattle.std.specs.Iterator.{Yields}
use Rattle.std.specs.Slice.Iter.{split_rest, split_done, split_callee, split_steps}
use Rattle.std.specs.declared.slice.Split.{Split}
use Rattle.std.proofs.Common.{arith, sym, ap, ◌∙◌, subst, ne_eqb, length-append, Bor}
use Rattle.std.proofs.Math.Option as math
use Rattle.std.proofs.Math.Option.{none, some, none-ne-some}
use Rattle.std.proofs.Math.Seq.{append_snoc}
use Rattle.std.proofs.lemmas.Bool.{lt-leb}
use Rattle.std.proofs.lemmas.List.{take-append-drop, map-append}
use Rattle.std.proofs.lemmas.Iterator.{YieldsList}
use Rattle.std.proofs.lemmas.Iterator.Consumers.{YieldsList-so_far, YieldsList-end}
use Rattle.std.proofs.lemmas.Iterator.Splits.{YieldsList-from_slice_split}
use Rattle.std.proofs.iter.Next.{Yields-more}
use Rattle.text.specs.Text.{longer, split, number_in}
use Rattle.text.proofs.Laws.Splitting.{split_is}
use denote.Param.Members.{Mut}
use Rattle.lines.specs.Lines.{with_first, numbers_in, asked, asked_with, call_of_fields}
use Rattle.lines.proofs.Laws.Calls.{too_many_lem}

-- ---- The numbers of fields

-- Numbers that were read, before those of the fields that are left.
abbrev before : List ℕ → math.Option (List ℕ) → math.Option (List ℕ)
before numbers none = none
before numbers (some more) = some (numbers ++ more)

before_none : (more : math.Option (List ℕ)) → before [] more ≡ more
before_none none = refl
before_none (some more) = refl

with_before : (n : ℕ) (numbers : List ℕ) (more : math.Option (List ℕ))
    → with_first (some n) (before numbers more) ≡ before (n ∷ numbers) more
with_before n numbers none = refl
with_before n numbers (some more) = refl

numbers_behind : (fields : List (List ℕ)) (numbers : List ℕ) → numbers_in fields ≡ some numbers
    → (more : List (List ℕ)) → numbers_in (fields ++ more) ≡ before numbers (numbers_in more)
numbers_behind [] numbers e more =
    let none-read : numbers ≡ [] = cc in
    rw none-read (sym (before_none (numbers_in more)))
numbers_behind (field ∷ fields) numbers e more =
    first (number_in field) (numbers_in fields) (λ ns e. numbers_behind fields ns e more) e
  where
    first : (n : math.Option ℕ) (r : math.Option (List ℕ))
        → ((ns : List ℕ) → r ≡ some ns → numbers_in (fields ++ more) ≡ before ns (numbers_in more))
        → with_first n r ≡ some numbers
        → with_first n (numbers_in (fields ++ more)) ≡ before numbers (numbers_in more)
    first none r others e = absurd (none-ne-some numbers e)
    first (some n) none others e = absurd (none-ne-some numbers e)
    first (some n) (some ns) others e =
        let all : numbers ≡ n ∷ ns = cc in
        rw all (ap (with_first (some n)) (others ns refl) ∙ with_before n ns (numbers_in more))

-- ---- The call of a letter and fields

one_letter : (word : List ℕ) → length word ≡ 1 → word ≡ get_or word 0 0 ∷ []
one_letter [] e = absurd (omega arith)
one_letter (letter ∷ []) e = refl
one_letter (letter ∷ b ∷ word) e = absurd (omega arith)

pub other_word : (word : List ℕ) (fields : List (List ℕ)) → (length word ≡ 1 → ⊥)
    → none ≡ call_of_fields (word ∷ fields)
other_word [] fields other = refl
other_word (letter ∷ []) fields other = absurd (other refl)
other_word (letter ∷ b ∷ word) fields other = refl

-- Where the second byte is no space the first field is no letter alone.
two_bytes : (a b : ℕ) (fields : List (List ℕ)) → none ≡ call_of_fields (longer a (longer b fields))
two_bytes a b [] = refl
two_bytes a b (field ∷ fields) = refl

empty_first : (first : Bool) (fields others : List (List ℕ)) → none ≡ call_of_fields others
    → none ≡ call_of_fields (cond first ([] ∷ fields) others)
empty_first true fields others e = refl
empty_first false fields others e = e

pub no_second : (line : List ℕ) → 1 < length line → (get_or line 1 0 ≡ 32 → ⊥) → none ≡ call_of_fields (split 32 line)
no_second [] more other = absurd (omega (arith, more))
no_second (a ∷ []) more other = absurd (omega (arith, more))
no_second (a ∷ b ∷ line) more other =
    rw (ne_eqb b 32 other) (empty_first (eqb a 32) _ _ (two_bytes a b (split 32 line)))

-- A letter, and fields of which the first say these numbers.
module _ (word : List ℕ) (alone : length word ≡ 1) (fields : List (List ℕ)) {numbers : List ℕ}
    (read : numbers_in fields ≡ some numbers) where
  abbrev letter : ℕ
  letter = get_or word 0 0

  with_letter : (others : List (List ℕ)) → call_of_fields (word ∷ others) ≡ asked_with letter (numbers_in others)
  with_letter others = ap (λ (w : List ℕ). call_of_fields (w ∷ others)) (one_letter word alone)

  pub all_read : asked letter numbers ≡ call_of_fields (word ∷ fields)
  all_read = sym (with_letter fields ∙ ap (asked_with letter) read)

  module _ (field : List ℕ) (more : List (List ℕ)) where
    pub no_number : none ≡ number_in field → none ≡ call_of_fields (word ∷ fields ++ (field ∷ more))
    no_number e =
        sym (with_letter (fields ++ (field ∷ more))
        ∙ ap (asked_with letter) (numbers_behind fields numbers read (field ∷ more)
        ∙ ap (λ (o : math.Option ℕ). before numbers (with_first o (numbers_in more))) (sym e)))

    pub too_many_fields : length numbers ≡ 65 → none ≡ call_of_fields (word ∷ fields ++ (field ∷ more))
    too_many_fields full =
        sym (with_letter (fields ++ (field ∷ more))
        ∙ ap (asked_with letter) (numbers_behind fields numbers read (field ∷ more))
        ∙ refused (number_in field) (numbers_in more))
      where
        refused : (o : math.Option ℕ) (r : math.Option (List ℕ))
            → asked_with letter (before numbers (with_first o r)) ≡ none
        refused none r = refl
        refused (some n) none = refl
        refused (some n) (some ns) =
            let long : 65 < length (numbers ++ (n ∷ ns)) = simp length-append (omega arith) in
            too_many_lem letter (numbers ++ (n ∷ ns)) (lt-leb (length (numbers ++ (n ∷ ns))) 65 long)

pub numbers_pushed : (fields : List (List ℕ)) {numbers : List ℕ} → numbers_in fields ≡ some numbers → (field : List ℕ)
    {n : ℕ} → some n ≡ number_in field → numbers_in (fields ++ (field ∷ [])) ≡ some (numbers ++ (n ∷ []))
numbers_pushed fields {numbers} read field e =
    numbers_behind fields numbers read (field ∷ [])
    ∙ ap (λ (o : math.Option ℕ). before numbers (with_first o (some []))) (sym e)

-- ---- The fields, as they come

module _ {F : Type 0} {g : Mut F (Bor ℕ × Unit {0}) Bool} (s j : Split ℕ F) (first : Bor (List ℕ))
    (begun : split_steps g s (Some first) j) (line : List ℕ) (rest : split_rest s ≡ line) (done : split_done s ≡ false)
    {f : F} (test : split_callee s ≡ f)
    (computes : (x : ℕ) (b : Bool) (q : F) → CalledAt g f x b q → (q ≡ f) × (b ≡ eqb x 32)) where
  road : YieldsList (split_steps g) (λ x. x.now) s (split 32 line)
  road = rw split_is (YieldsList-from_slice_split g (λ b. eqb b 32) line rest done test computes)

  pub first_passed : (more : List (List ℕ)) × (split 32 line ≡ first.now ∷ more)
  first_passed =
      let all : List (List ℕ) = split 32 line in
      let so_far : first.now ∷ [] ≡ take 1 all = YieldsList-so_far road (first ∷ []) j (j, begun, refl) in (
        drop 1 all,
        sym (take-append-drop 1 all) ∙ ap (λ (l : List (List ℕ)). l ++ drop 1 all) (sym so_far),
      )

  pub no_letter : (length first.now ≡ 1 → ⊥) → none ≡ call_of_fields (split 32 line)
  no_letter other =
      let (more, all) = first_passed in
      other_word first.now more other ∙ ap call_of_fields (sym all)

  module _ (k t u : Split ℕ F) (same : k ≡ j) (fields : List (Bor (List ℕ)))
      (y : Yields (split_steps g) k fields t) where
    from_first : Yields (split_steps g) s (first ∷ fields) t
    from_first = (k, subst (λ (i : Split ℕ F). split_steps g s (Some first) i) (sym same) begun, y)

    pub last_passed : split_steps g t None u → split 32 line ≡ first.now ∷ map (λ x. x.now) fields
    last_passed step = sym (YieldsList-end road (first ∷ fields) t from_first None u refl step).0

    pub another : (field : Bor (List ℕ)) → split_steps g t (Some field) u
        → (more : List (List ℕ)) × (split 32 line ≡ first.now ∷ map (λ x. x.now) fields ++ (field.now ∷ more))
    another field step =
        let all : List (List ℕ) = split 32 line in
        let taken : List (Bor (List ℕ)) = first ∷ fields ++ (field ∷ []) in
        let so_far : map (λ x. x.now) taken ≡ take (length taken) all =
        YieldsList-so_far road taken u (Yields-more (split_steps g) s (first ∷ fields) t field u from_first step) in
        let more : List (List ℕ) = drop (length taken) all in (
          more,
          sym (take-append-drop (length taken) all)
              ∙ ap (λ (l : List (List ℕ)). l ++ more)
              (sym so_far ∙ ap (λ (l : List (List ℕ)). first.now ∷ l) (map-append (λ x. x.now) fields (field ∷ [])))
              ∙ ap (λ (l : List (List ℕ)). first.now ∷ l) (append_snoc (map (λ x. x.now) fields) field.now more),
        )
