-- The front of an array.
use Rattle.std.specs.Prelude.{ℕ, zero, suc, ◌≤◌, ◌≡◌, refl, List, [], ◌∷◌, ◌++◌, length, take}
use Rattle.std.proofs.Common.{sym, ap, ◌∙◌, arith, length-take-le}
use Rattle.journal.specs.Coded.{front}

pub length_front : (n : ℕ) (numbers : List ℕ) → length (front n numbers) ≡ n
length_front zero numbers = refl
length_front (suc n) [] = ap suc (length_front n [])
length_front (suc n) (first ∷ numbers) = ap suc (length_front n numbers)

-- Within the array it is what is taken of it.
pub front_taken : (n : ℕ) (numbers : List ℕ) → n ≤ length numbers → front n numbers ≡ take n numbers
front_taken zero numbers within = refl
front_taken (suc n) [] within = absurd (omega arith)
front_taken (suc n) (first ∷ numbers) within = ap (λ (l : List ℕ). first ∷ l) (front_taken n numbers (omega arith))

-- Numbers that an array begins with:
pub front_first : (first later : List ℕ) → front (length first) (first ++ later) ≡ first
front_first [] later = refl
front_first (n ∷ first) later = ap (λ (l : List ℕ). n ∷ l) (front_first first later)

pub front_first_taken : (n : ℕ) (first numbers : List ℕ) → n ≤ length numbers → take n numbers ≡ first
    → front (length first) numbers ≡ first
front_first_taken n first numbers within e =
    let long : length first ≡ n = sym (ap length e) ∙ length-take-le n numbers within in
    ap (λ (m : ℕ). front m numbers) long ∙ front_taken n numbers within ∙ e
