-- What stands beside a reply: the list, and a batch's answers as numbers and in the places of an array.
use Rattle.std.specs.Prelude.{ℕ, ◌+◌, ◌*◌, ◌-◌, ◌≤◌, ◌<◌, min, ◌≡◌, refl, List, [], ◌∷◌, ◌++◌, map, length, take}
use Rattle.std.specs.Prelude.{get_or, replicate}
use Rattle.std.proofs.Common.{sym, ap, ◌∙◌, add-one, arith, length-append, take-suc, take_all}
use Rattle.std.proofs.lemmas.List.{map-append, length-map}
use Rattle.std.proofs.Math.Seq.{take-length}
use Rattle.operations.specs.Operations as model
use Rattle.operations.specs.Stored.{answer_of}
use Rattle.operations.specs.declared.Answer.{Answer}
use Rattle.store.proofs.Laws.Words.{below}
use Rattle.protocol.specs.Replies.{answer_numbers}
use Rattle.protocol.specs.ReplyOf.{batched_of, answers_in, Filled}
use Rattle.protocol.specs.declared.Batched.{Batched}

-- A count past the end of a list names all of it.
pub take_min : (n : ℕ) (l : List ℕ) → take (min n (length l)) l ≡ take n l
take_min n l =
    below n (length l) (λ (k : n < length l). let same : min n (length l) ≡ n = omega arith in
    ap (λ (m : ℕ). take m l) same)
    (λ (k : length l ≤ n). let all : min n (length l) ≡ length l = omega arith in
    ap (λ (m : ℕ). take m l) all ∙ take-length l ∙ sym (take_all n l k))

-- The numbers of the first i answers.
abbrev pub front_numbers : List Answer → ℕ → List ℕ
front_numbers answers i = answer_numbers (map answer_of (take i answers))

numbers_last : (answers : List model.Answer) (a : model.Answer)
    → answer_numbers (answers ++ (a ∷ [])) ≡ answer_numbers answers ++ (a.code ∷ a.value ∷ [])
numbers_last [] a = refl
numbers_last (b ∷ answers) a = ap (λ (l : List ℕ). b.code ∷ b.value ∷ l) (numbers_last answers a)

pub numbers_next : (answers : List Answer) (i : ℕ) (d : Answer) → i < length answers
    → let a = get_or answers i d in
    front_numbers answers (i + 1) ≡ front_numbers answers i ++ (a.code ∷ a.value ∷ [])
numbers_next answers i d more =
    let a = get_or answers i d in
    ap (front_numbers answers) (add-one i)
    ∙ ap (λ (l : List Answer). answer_numbers (map answer_of l)) (take-suc answers i d more)
    ∙ ap answer_numbers (map-append answer_of (take i answers) (a ∷ []))
    ∙ numbers_last (map answer_of (take i answers)) (answer_of a)

pub numbers_counted : (answers : List model.Answer) → length (answer_numbers answers) ≡ 2 * length answers
numbers_counted [] = refl
numbers_counted (a ∷ answers) = omega (arith, numbers_counted answers)

-- There is a place for each.
pub filled_within : (b : Batched) → Filled b → b.count ≤ length b.answers
filled_within b filled =
    let answers = answers_in (batched_of b) in
    let unused = replicate (16 - length answers) (model.answering 0 0) in
    omega (
      arith,
      filled.0,
      ap length filled.1,
      length-map b.answers answer_of,
      length-append answers unused,
    )
