-- A number read digit by digit.
use Rattle.std.specs.Prelude.{ℕ, ◌+◌, ◌*◌, ◌-◌, ◌≤◌, ◌<◌, ◌≡◌, refl, Bool, true, false, cond, ◌&&◌, List, [], ◌∷◌, leb}
use Rattle.std.specs.Prelude.{ltb, length, get_or, drop}
use Rattle.std.proofs.Common.{sym, ap, ◌∙◌, add-one, arith, drop_of_length-le, drop-cons}
use Rattle.std.proofs.Common.{lt-ltb, le-ltb, le-leb}
use Rattle.std.proofs.lemmas.Bool.{lt-leb}
use Rattle.std.proofs.Math.Bool.{and-false}
use Rattle.std.proofs.Math.Option.{none, some}
use Rattle.text.specs.Text.{is_digit, all_digits, value_after, is_number, number_in}

-- The first i bytes are digits, and say the value.
pub record DigitsRead (field : List ℕ) (value i : ℕ) : Type 0 where
  pub digits : all_digits field ≡ all_digits (drop i field)
  pub says : value_after 0 field ≡ value_after value (drop i field)
  pub fits : value < 4_294_967_296

pub start : (field : List ℕ) → DigitsRead field 0 0
start field = record { digits = refl; says = refl; fits = omega arith }

no_number : (field : List ℕ) → is_number field ≡ false → none ≡ number_in field
unfolding number_in
no_number field e = ap (λ (t : Bool). cond t (some (value_after 0 field)) none) (sym e)

not_digits : (field : List ℕ) → all_digits field ≡ false → none ≡ number_in field
not_digits field e = no_number field (simp (e, and-false))

-- Further digits make no number less.
grows : (n : ℕ) (text : List ℕ) → n ≤ value_after n text
grows n [] = omega arith
grows n (b ∷ text) = let more = grows (10 * n + (b - 48)) text in omega arith

too_large : (field : List ℕ) → 4_294_967_296 ≤ value_after 0 field → none ≡ number_in field
too_large field large =
    let last : ltb (value_after 0 field) 4_294_967_296 ≡ false = le-ltb _ 4_294_967_296 large in
    no_number field (simp (last, and-false))

module _ {field : List ℕ} {value i : ℕ} (so : DigitsRead field value i) where
  module _ (more : i < length field) where
    abbrev byte : ℕ
    byte = get_or field i 0

    rest : drop i field ≡ byte ∷ drop (i + 1) field
    rest = drop-cons field i 0 more ∙ ap (λ (n : ℕ). byte ∷ drop n field) (sym (add-one i))

    pub stops : is_digit byte ≡ false → none ≡ number_in field
    stops other =
        not_digits field
        (so.digits ∙ ap all_digits rest ∙ ap (λ (t : Bool). t && all_digits (drop (i + 1) field)) other)

    pub overflows : 4_294_967_296 ≤ 10 * value + (byte - 48) → none ≡ number_in field
    overflows large =
        too_large field
        (omega (
          arith,
          so.says ∙ ap (value_after value) rest,
          grows (10 * value + (byte - 48)) (drop (i + 1) field),
        ))

  pub said : length field ≤ i → 1 ≤ length field → length field ≤ 10 → some value ≡ number_in field
  unfolding number_in
  said end one few =
      let whole : value_after 0 field ≡ value = so.says ∙ ap (value_after value) (drop_of_length-le field end) in
      let digits : all_digits field ≡ true = so.digits ∙ ap all_digits (drop_of_length-le field end) in
      let last : ltb (value_after 0 field) 4_294_967_296 ≡ true =
      ap (λ (n : ℕ). ltb n 4_294_967_296) whole ∙ lt-ltb value 4_294_967_296 so.fits in
      let so-said : is_number field ≡ true =
      rw (le-leb 1 (length field) one, le-leb (length field) 10 few, digits, last) in
      ap some (sym whole) ∙ ap (λ (t : Bool). cond t (some (value_after 0 field)) none) (sym so-said)

pub empty : (field : List ℕ) → length field ≡ 0 → none ≡ number_in field
empty field e =
    let none-there : leb 1 (length field) ≡ false = lt-leb 1 (length field) (omega arith) in
    no_number field (rw none-there)

pub too_long : (field : List ℕ) → 10 < length field → none ≡ number_in field
too_long field long =
    let more : leb (length field) 10 ≡ false = lt-leb (length field) 10 long in
    no_number field (simp (more, and-false))
