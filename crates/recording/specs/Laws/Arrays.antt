-- Bytes and answers, put one after the other.
use Rattle.std.specs.Prelude.{ℕ, ◌+◌, ◌*◌, ◌≤◌, ◌<◌, ◌≡◌, List, [], ◌∷◌, ◌++◌, length, get_or, map, take, set}
use Rattle.std.proofs.Common.{sym, ap, ◌∙◌, append_assoc, arith, add-one, length-take-le, take-suc, take-suc-set}
use Rattle.std.proofs.lemmas.List.{length-map}
use Rattle.operations.specs.Stored.{answer_of}
use Rattle.operations.specs.declared.Answer.{Answer}
use Rattle.protocol.proofs.Laws.Beside.{front_numbers, numbers_next, numbers_counted}

pub pushed_long : (answers : List Answer) (i : ℕ) → i ≤ length answers → length (front_numbers answers i) ≡ 2 * i
pushed_long answers i within =
    numbers_counted (map answer_of (take i answers))
    ∙ ap (λ (n : ℕ). 2 * n) (length-map (take i answers) answer_of ∙ length-take-le i answers within)

pub answer_pushed : (answers : List Answer) (i : ℕ) (d : Answer) {numbers with_code both : List ℕ}
    → numbers ≡ front_numbers answers i → i < length answers
    → with_code ≡ numbers ++ ((get_or answers i d).code ∷ [])
    → both ≡ with_code ++ ((get_or answers i d).value ∷ [])
    → both ≡ front_numbers answers (i + 1)
answer_pushed answers i d {numbers} so more first second =
    let a = get_or answers i d in
    second ∙ ap (λ (l : List ℕ). l ++ (a.value ∷ [])) first
    ∙ append_assoc numbers (a.code ∷ []) (a.value ∷ [])
    ∙ ap (λ (l : List ℕ). l ++ (a.code ∷ a.value ∷ [])) so ∙ sym (numbers_next answers i d more)

pub byte_put : (bytes numbers : List ℕ) (i : ℕ) → take i numbers ≡ take i bytes → i < length bytes
    → length bytes ≤ length numbers → take (i + 1) (set numbers i (get_or bytes i 0)) ≡ take (i + 1) bytes
byte_put bytes numbers i so more fits =
    let byte : ℕ = get_or bytes i 0 in
    ap (λ (n : ℕ). take n (set numbers i byte)) (add-one i) ∙ take-suc-set numbers i byte (omega arith)
    ∙ ap (λ (l : List ℕ). l ++ (byte ∷ [])) so ∙ sym (take-suc bytes i 0 more)
    ∙ ap (λ (n : ℕ). take n bytes) (sym (add-one i))
