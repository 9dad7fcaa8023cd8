-- What holds of texts.
use Rattle.std.specs.Prelude.{ℕ, ◌≤◌, ◌<◌, ◌≡◌, Bool, true, cond, List, length, get_or}
use Prim.Native.Char.{code}
use Rattle.std.proofs.Common.{ap, ◌∙◌, arith, le-leb, lt-ltb}
use Rattle.std.proofs.Math.Option.{none, some}
use Rattle.std.proofs.lemmas.Fmt.{decimal_nonempty, digits_decimal, digits_value-decimal, first_decimal}
use Rattle.std.proofs.lemmas.Str.Parse.{digits_value_short}
use Rattle.text.specs.Text.{all_digits, value_after, is_number, number_in, decimal}
use Rattle.text.proofs.Laws.Decimals.{length_decimal, decimal_printed, numerals}

module _ (n : ℕ) (fits : n < 4_294_967_296) where
  value_back : value_after 0 (decimal n) ≡ n
  value_back = rw (decimal_printed n (omega arith)) (digits_value-decimal numerals n (omega arith))

  is_number_back : is_number (decimal n) ≡ true
  is_number_back =
      let some_digits : 1 ≤ length (decimal n) =
      omega (arith, ap length (decimal_printed n (omega arith)), decimal_nonempty n (omega arith)) in
      let digits : all_digits (decimal n) ≡ true =
      rw (decimal_printed n (omega arith)) (digits_decimal numerals n (omega arith)) in
      let few = length_decimal 10 n (omega arith) (omega arith) in
      rw (
        le-leb 1 (length (decimal n)) some_digits,
        le-leb (length (decimal n)) 10 few,
        digits,
        value_back,
        lt-ltb n 4_294_967_296 fits,
      )

-- A number printed is read back.
pub read_back : (n : ℕ) → n < 4_294_967_296 → number_in (decimal n) ≡ some n
unfolding number_in
read_back n fits =
    ap (λ (t : Bool). cond t (some (value_after 0 (decimal n))) none) (is_number_back n fits)
    ∙ ap some (value_back n fits)

-- Digits that say a number are at least as many as are printed.
pub as_few : (text : List ℕ) → 1 ≤ length text → all_digits text ≡ true
    → length (decimal (value_after 0 text)) ≤ length text
as_few text more digits =
    length_decimal (length text) (value_after 0 text) more
    (digits_value_short numerals text (length text) digits (omega arith))

-- No number but 0 begins with the digit 0.
pub no_leading_zero : (n : ℕ) → 1 ≤ n → n < 10_000_000_000 → get_or (decimal n) 0 0 ≡ code "0" → ⊥
no_leading_zero n more fits zero =
    omega (arith, ap (λ (l : List ℕ). get_or l 0 0) (decimal_printed n fits), first_decimal n more (omega arith))
