-- The digits of a number, which are those that the kit prints and reads.
use Rattle.std.specs.Prelude.{ℕ, zero, suc, ◌+◌, ◌/◌, ◌%◌, ◌^◌, ◌≤◌, ◌<◌, ◌≡◌, true, List, [], ◌∷◌, ◌++◌}
use Rattle.std.specs.Prelude.{ltb, length}
use Rattle.std.specs.Fmt as kit
use Rattle.std.proofs.Common.{ap, div-lt_iff_lt-mul, pow-suc, arith, rules, lt-ltb, le-ltb, ltb-true, ltb-false}
use Rattle.std.proofs.Common.{length-append}
use Rattle.std.proofs.lemmas.Fmt.{decimal_from_appends, length-decimal-le}
use Rattle.std.proofs.lemmas.Str.Parse.{IsNumeralModel, numerals_by_fold}
use borrow.Table.Steps.{cases}
use Rattle.text.specs.Text.{all_digits, value_after, decimal_within, decimal}

shorter : (k n : ℕ) → n < 10 ^ suc k → n / 10 < 10 ^ k
shorter k n few = (div-lt_iff_lt-mul {k = 10} {x = n} {y = 10 ^ k} (omega arith)).1 (rw pow-suc at few)

one_digit : (k n : ℕ) → n < 10 → decimal_within (suc k) n ≡ (48 + n) ∷ []
unfolding decimal_within
one_digit k n small = rw (lt-ltb n 10 small) (ap (λ (d : ℕ). (48 + d) ∷ []) (omega arith))

more_digits : (k n : ℕ) → 10 ≤ n → decimal_within (suc k) n ≡ decimal_within k (n / 10) ++ ((48 + n % 10) ∷ [])
unfolding decimal_within
more_digits k n large = rw (le-ltb n 10 large)

length_within : (m k n : ℕ) → 1 ≤ k → n < 10 ^ k → length (decimal_within m n) ≤ k
unfolding decimal_within
length_within zero k n some few = omega arith
length_within (suc m) zero n some few = absurd (omega arith)
length_within (suc m) (suc zero) n some few = rw (one_digit m n few) (omega arith)
length_within (suc m) (suc (suc k)) n some few =
    cases (ltb n 10)
    (λ e. rw (one_digit m n (ltb-true n 10 e)) (omega arith))
    (λ e. rw (more_digits m n (ltb-false n 10 e), length-append)
    (let rest = length_within m (suc k) (n / 10) (omega arith) (shorter (suc k) n few) in omega arith))

-- A number below 10 ^ k has at most k digits.
pub length_decimal : (k n : ℕ) → 1 ≤ k → n < 10 ^ k → length (decimal n) ≤ k
unfolding decimal
length_decimal = length_within 10

-- One of 32 bits has at most ten.
pub decimal_few : (n : ℕ) → n < 4_294_967_296 → length (decimal n) ≤ 10
decimal_few n fits = length_decimal 10 n (omega arith) (omega arith)

-- What the kit prints of a number.
pub decimal_printed : (n : ℕ) → n < 10_000_000_000 → decimal n ≡ kit.decimal n
unfolding decimal
decimal_printed n fits =
    decimal_from_appends decimal_within (record { one = one_digit; more = more_digits }) 10 n (omega arith)
    (length-decimal-le 10 n (omega arith) (omega arith) (omega arith))

-- What the kit reads as a number.
pub numerals : IsNumeralModel (λ (text : List ℕ). all_digits text ≡ true) (value_after 0)
numerals = numerals_by_fold _ (search rules) value_after (search rules)
