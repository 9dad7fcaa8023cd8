-- A number, read group by group.
use Rattle.std.specs.Prelude.{ℕ, suc, ◌+◌, ◌*◌, ◌-◌, ◌^◌, ◌≤◌, ◌<◌, ◌≡◌, refl, true, false, cond, List, [], ◌∷◌, eqb}
use Rattle.std.specs.Prelude.{length, get_or}
use Rattle.std.proofs.Common.{mul-add, mul_assoc, mul-le-mul, mul-le-mul_left, pow-suc, add-one, arith, sym, ◌∙◌}
use Rattle.std.proofs.Common.{eq-eqb, ne_eqb, lt-ltb, le-ltb, drop_of_length-le, drop-cons}
use Rattle.std.proofs.Math.Nat.{pow-le-pow_right}
use Rattle.std.proofs.Math.Path.{ap}
use Rattle.std.proofs.lemmas.Bool.{eqb-false}
use Rattle.std.proofs.Math.ListN.{drop}
use Rattle.operations.proofs.Laws.Cases.{split}
use Rattle.journal.specs.Groups.{Read, found, bad, cut, long_form, width, higher, value, number_from, number}
use Rattle.journal.specs.declared.Cause.TheVariants.{Cut, LongForm, Width}
use Rattle.journal_numbers.specs.Parts.{Finds, Fails}
use Rattle.journal_numbers.specs.Laws.Reads.{damage}

-- The byte at a place, and those behind it.
pub at_byte : (bytes : List ℕ) (at : ℕ) → at < length bytes → drop at bytes ≡ get_or bytes at 0 ∷ drop (at + 1) bytes
at_byte bytes at l = rw (add-one, drop-cons bytes at 0)

-- Groups that count so many times as much, behind others, of which the last ones are more than 0.
abbrev pub carried : ℕ → ℕ → Read ℕ → Read ℕ
carried low scale (found n rest) = cond (eqb n 0) (bad long_form rest) (found (low + scale * n) rest)
carried low scale (bad cause rest) = bad cause rest

carried_first : (b : ℕ) (r : Read ℕ) → higher b r ≡ carried (b - 128) 128 r
carried_first b (found n rest) = refl
carried_first b (bad cause rest) = refl

scaled : (low scale b n : ℕ) → low + scale * (b + 128 * n) ≡ low + scale * b + scale * 128 * n
scaled low scale b n = omega (arith, mul-add scale b (128 * n), mul_assoc scale 128 n)

carried_more : (low scale b : ℕ) (r : Read ℕ)
    → carried low scale (higher b r) ≡ carried (low + scale * (b - 128)) (scale * 128) r
carried_more low scale b (bad cause rest) = refl
carried_more low scale b (found n rest) =
    split (eqb n 0) (λ (e : eqb n 0 ≡ true). rw e)
    (λ (e : eqb n 0 ≡ false).
    let some : eqb (b - 128 + 128 * n) 0 ≡ false =
    ne_eqb (b - 128 + 128 * n) 0 (λ z. eqb-false n 0 e (omega arith)) in
    rw (e, some) (ap (λ m. found m rest) (scaled low scale (b - 128) n)))

-- How far a number's groups were read.
pub record Grouping (bytes : List ℕ) (at low scale i : ℕ) : Type 0 where
  pub few : i ≤ 5
  pub within : at + i ≤ length bytes
  pub small : scale ≤ 128 ^ i
  pub below : low < scale
  pub whole : number_from (drop at bytes) (carried low scale (value (5 - i) (drop (at + i) bytes)))
      ≡ number (drop at bytes)

-- A number of one group, of more, or none.
module _ (bytes : List ℕ) (at : ℕ) where
  pub no_group : at ≤ length bytes → length bytes ≤ at → Fails bytes at (number (drop at bytes)) (damage Cut at)
  unfolding number
  no_group low high =
      record {
        said = rw (drop_of_length-le bytes high);
        onward = omega arith;
        within = low;
      }

  module _ (first : ℕ) (more : at < length bytes) (there : first ≡ get_or bytes at 0) where
    number_from_lem : (r : Read ℕ) → value 5 (first ∷ drop (at + 1) bytes) ≡ r
        → number_from (drop at bytes) r ≡ number (drop at bytes)
    unfolding number
    number_from_lem r e =
        ap (number_from (drop at bytes))
        (sym e ∙ ap (λ b. value 5 (b ∷ drop (at + 1) bytes)) there ∙ ap (value 5) (sym (at_byte bytes at more)))

    pub one_group : first < 128 → Finds bytes at (number (drop at bytes)) first (at + 1)
    one_group low =
        record {
          said =
              rw (lt-ltb first 4_294_967_296 (omega arith)) at
              (number_from_lem (found first (drop (at + 1) bytes)) (rw (lt-ltb first 128 low)));
          onward = omega arith;
          within = omega arith;
        }

    pub grouping_starts : 128 ≤ first → first < 256 → Grouping bytes at (first - 128) 128 1
    grouping_starts high low =
        record {
          few = omega arith;
          within = omega arith;
          small = omega arith;
          below = omega arith;
          whole =
              number_from_lem (carried (first - 128) 128 (value 4 (drop (at + 1) bytes)))
              (rw (le-ltb first 128 high) (carried_first first (value 4 (drop (at + 1) bytes))));
        }

module _ (bytes : List ℕ) (at low scale i : ℕ) (g : Grouping bytes at low scale i) where
  -- What the groups from here on come to is the number.
  comes_to : (r : Read ℕ) → value (5 - i) (drop (at + i) bytes) ≡ r
      → number_from (drop at bytes) (carried low scale r) ≡ number (drop at bytes)
  comes_to r e = ap (λ q. number_from (drop at bytes) (carried low scale q)) (sym e) ∙ g.whole

  pub groups_end : 5 ≤ i → Fails bytes at (number (drop at bytes)) (damage Width at)
  groups_end past =
      let none : 5 - i ≡ 0 = omega arith in
      record {
        said = comes_to (bad width (drop (at + i) bytes)) (rw none);
        onward = omega arith;
        within = omega (arith, g.within);
      }

  module _ (more : i < 5) where
    one_more : 5 - i ≡ suc (5 - (i + 1))
    one_more = omega arith

    pub groups_cut : length bytes ≤ at + i → Fails bytes at (number (drop at bytes)) (damage Cut at)
    groups_cut past =
        record {
          said = comes_to (bad cut []) (rw (one_more, drop_of_length-le bytes past));
          onward = omega arith;
          within = omega (arith, g.within);
        }

    -- Nothing is past 64 bits.
    pub within_words : (b : ℕ) → b < 128 → low + scale * b < 35_000_000_000
    within_words b l =
        let least : scale ≤ 128 ^ 4 =
        omega (arith, g.small, pow-le-pow_right {n = 128} (omega arith) {i = i} {j = 4} (omega arith)) in
        let product = mul-le-mul {n₁ = scale} {m₁ = b} {n₂ = 268_435_456} {m₂ = 127} (omega arith) (omega arith) in
        omega (arith, g.below, product)

    module _ (group : ℕ) (inside : at + i < length bytes) (there : group ≡ get_or bytes (at + i) 0) where
      group_first : (r : Read ℕ) → value (suc (5 - (i + 1))) (group ∷ drop (at + i + 1) bytes) ≡ r
          → number_from (drop at bytes) (carried low scale r) ≡ number (drop at bytes)
      group_first r e =
          comes_to r
          (ap (λ n. value n (drop (at + i) bytes)) one_more
          ∙ ap (value (suc (5 - (i + 1)))) (at_byte bytes (at + i) inside)
          ∙ ap (λ b. value (suc (5 - (i + 1))) (b ∷ drop (at + i + 1) bytes)) (sym there) ∙ e)

      last_group : group < 128
          → number_from (drop at bytes) (carried low scale (found group (drop (at + i + 1) bytes)))
          ≡ number (drop at bytes)
      last_group l = group_first (found group (drop (at + i + 1) bytes)) (rw (lt-ltb group 128 l))

      pub long_form_lem : group < 128 → group ≡ 0 → Fails bytes at (number (drop at bytes)) (damage LongForm at)
      long_form_lem l none =
          record {
            said = rw (eq-eqb group 0 none) at (last_group l);
            onward = omega arith;
            within = omega arith;
          }

      module _ (last : group < 128) (some : group ≡ 0 → ⊥) where
        ends_in : number_from (drop at bytes) (found (low + scale * group) (drop (at + i + 1) bytes))
            ≡ number (drop at bytes)
        ends_in = rw (ne_eqb group 0 some) at (last_group last)

        pub too_wide : 4_294_967_295 < low + scale * group
            → Fails bytes at (number (drop at bytes)) (damage Width at)
        too_wide l =
            record {
              said = rw (le-ltb (low + scale * group) 4_294_967_296 (omega arith)) at ends_in;
              onward = omega arith;
              within = omega arith;
            }

        pub number_is : (n : ℕ) → n ≡ low + scale * group → n < 4_294_967_296
            → Finds bytes at (number (drop at bytes)) n (at + i + 1)
        number_is n same l =
            record {
              said = rw same (rw (lt-ltb (low + scale * group) 4_294_967_296 (omega arith)) at ends_in);
              onward = omega arith;
              within = omega arith;
            }

      pub grouping_goes_on : 128 ≤ group → group < 256
          → Grouping bytes at (low + scale * (group - 128)) (scale * 128) (i + 1)
      grouping_goes_on high l =
          let place : at + i + 1 ≡ at + (i + 1) = omega arith in
          let power : 128 ^ (i + 1) ≡ 128 ^ i * 128 = ap (λ n. 128 ^ n) (add-one i) ∙ pow-suc 128 i in
          record {
            few = omega arith;
            within = omega arith;
            small = omega (arith, g.small, power);
            below = omega (arith, g.below, mul-le-mul_left {m = group - 128} {n = 127} scale (omega arith));
            whole =
                let rest = value (5 - (i + 1)) (drop (at + (i + 1)) bytes) in
                ap (number_from (drop at bytes)) (sym (carried_more low scale group rest))
                ∙ group_first (higher group rest) (rw (le-ltb group 128 high, place));
          }
