-- The six letters, how many arguments each has, and which reply codes its calls give.
use Rattle.std.specs.Prelude.{ℕ, ◌≤◌, ◌<◌, ◌≡◌, true, false, ◌||◌, eqb, leb}
use Rattle.std.proofs.Common.{sym, true≢false, arith, leb-true, eqb-true, ne_eqb}
use Rattle.std.proofs.Math.Bool.{and-eq-true_iff}
use Rattle.std.proofs.Math.Option.{none, some}
use Rattle.operations.proofs.Laws.Cases.{split, by_key}
use Rattle.journal.specs.Records.{arguments_of, is_batch, has_reply, gives}

-- A letter is S, I, B, G, F or C, or no call has it.
by_letter : (P : ℕ → Type 0) (letter : ℕ) → P 83 → P 73 → P 66 → P 71 → P 70 → P 67
    → (arguments_of letter ≡ none → P letter) → P letter
by_letter P letter s i b g f c other =
    by_key P letter 83 s (λ not-s. by_key P letter 73 i (λ not-i. by_key P letter 66 b (λ not-b.
    by_key P letter 71 g (λ not-g. by_key P letter 70 f (λ not_f. by_key P letter 67 c (λ not-c.
    other (rw (
      ne_eqb letter 83 not-s,
      ne_eqb letter 73 not-i,
      ne_eqb letter 66 not-b,
      ne_eqb letter 71 not-g,
      ne_eqb letter 70 not_f,
      ne_eqb letter 67 not-c,
    ))))))))

few : (k n : ℕ) → k ≤ 16 → some k ≡ some n → n ≤ 16
few k n small e = let same : k ≡ n = cc in omega arith

pub few_arguments : (letter n : ℕ) → arguments_of letter ≡ some n → n ≤ 16
few_arguments letter n =
    by_letter (λ (l : ℕ). arguments_of l ≡ some n → n ≤ 16) letter (few 16 n (omega arith)) (few 5 n (omega arith))
    (few 1 n (omega arith)) (few 1 n (omega arith)) (few 1 n (omega arith)) (few 1 n (omega arith))
    (λ no_letter is. absurd (let z : ◌≡◌ {A = ℕ} 0 1 = cc in omega arith))

-- A letter is a byte.
pub letter_byte : (letter n : ℕ) → arguments_of letter ≡ some n → letter < 256
letter_byte letter n =
    by_letter (λ (l : ℕ). arguments_of l ≡ some n → l < 256) letter (λ is. omega arith) (λ is. omega arith)
    (λ is. omega arith) (λ is. omega arith) (λ is. omega arith) (λ is. omega arith)
    (λ no_letter is. absurd (let z : ◌≡◌ {A = ℕ} 0 1 = cc in omega arith))

-- A letter whose calls give a reply code has one.
pub gives_reply : (letter replyCode : ℕ) → gives letter replyCode ≡ true → has_reply letter ≡ true
gives_reply letter replyCode given =
    split (eqb letter 83) (λ (s : eqb letter 83 ≡ true). absurd (true≢false (sym (rw (eqb-true letter 83 s) at given))))
    (λ (other : eqb letter 83 ≡ false).
    split (eqb letter 66)
    (λ (b : eqb letter 66 ≡ true). absurd (true≢false (sym (rw (eqb-true letter 66 b) at given))))
    (λ (another : eqb letter 66 ≡ false). rw (other, another)))

pub small_code : (letter replyCode : ℕ) → gives letter replyCode ≡ true → replyCode ≤ 5
small_code letter replyCode given =
    split (eqb letter 73 || eqb letter 71)
    (λ (e : (eqb letter 73 || eqb letter 71) ≡ true). omega (arith, leb-true replyCode _ (rw e at given)))
    (λ (other : (eqb letter 73 || eqb letter 71) ≡ false).
    split (eqb letter 70)
    (λ (e : eqb letter 70 ≡ true).
    let both = (and-eq-true_iff (leb 2 replyCode) _).0 (rw (other, e) at given) in
    omega (arith, leb-true replyCode _ both.1))
    (λ (another : eqb letter 70 ≡ false).
    let both = (and-eq-true_iff (eqb letter 67) _).0 (rw (other, another) at given) in
    omega (arith, eqb-true replyCode 5 both.1)))

pub not_batch : (letter replyCode : ℕ) → gives letter replyCode ≡ true → 2 ≤ replyCode → is_batch letter ≡ false
not_batch letter replyCode given two =
    split (is_batch letter)
    (λ (batch : is_batch letter ≡ true).
    absurd (omega (arith, leb-true replyCode 1 (rw (eqb-true letter 71 batch) at given))))
    (λ (plain : is_batch letter ≡ false). plain)
