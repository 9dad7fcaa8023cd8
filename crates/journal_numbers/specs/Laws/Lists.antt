-- Numbers read one by one: those that are there, before those that are left, are the whole.
use Rattle.std.specs.Prelude.{ℕ, suc, ◌+◌, ◌-◌, ◌≤◌, ◌<◌, ◌≡◌, refl, List, [], ◌∷◌, ◌++◌, length, take, drop, set}
use Rattle.std.proofs.Common.{arith, sym, ap, ◌∙◌, append-nil, length-set, add-one, take_all}
use Rattle.std.proofs.Math.Seq.{append_snoc, take-suc-set}
use Rattle.journal.specs.Groups.{Read, found, bad, then, number, numbers}
use Rattle.journal.specs.declared.Damage.{Damage}
use Rattle.journal_numbers.specs.Parts.{Finds, Fails}

-- Numbers that are there, before those that are read.
abbrev pub after : List ℕ → Read (List ℕ) → Read (List ℕ)
after there read = then read (λ more rest. found (there ++ more) rest)

pub after_none : (read : Read (List ℕ)) → after [] read ≡ read
after_none (found more rest) = refl
after_none (bad cause rest) = refl

-- One more, and those behind it.
pub after_more : (there : List ℕ) (n : ℕ) (read : Read (List ℕ))
    → after there (then read (λ others left. found (n ∷ others) left)) ≡ after (there ++ (n ∷ [])) read
after_more there n (found others left) = ap (λ q. found q left) (sym (append_snoc there n others))
after_more there n (bad cause left) = refl

-- How far numbers were read into an array.
pub record Collecting (bytes : List ℕ) (at n : ℕ) (array : List ℕ) (place i : ℕ) : Type 0 where
  pub long : length array ≡ n
  pub onward : at ≤ place
  pub within : place ≤ length bytes
  pub whole : after (take i array) (numbers (n - i) (drop place bytes)) ≡ numbers n (drop at bytes)

pub collecting_starts : (bytes array : List ℕ) (at : ℕ) → at ≤ length bytes
    → Collecting bytes at (length array) array at 0
collecting_starts bytes array at l =
    record {
      long = refl;
      onward = omega arith;
      within = l;
      whole =
          let all : length array - 0 ≡ length array = omega arith in
          rw all (after_none (numbers (length array) (drop at bytes)));
    }

module _ {bytes array : List ℕ} {at n place i : ℕ} (c : Collecting bytes at n array place i) where
  pub collecting_ends : n ≤ i → Finds bytes at (numbers n (drop at bytes)) array place
  collecting_ends past =
      let none : n - i ≡ 0 = omega arith in
      record {
        said =
            let all : take i array ++ [] ≡ array =
            append-nil (take i array) ∙ take_all i array (omega (arith, c.long)) in
            ap (λ l. found l (drop place bytes)) (sym all)
            ∙ rw none at c.whole;
        onward = c.onward;
        within = c.within;
      }

  module _ (left : i < n) where
    -- The next number, and what is behind it.
    next_first : (r : Read ℕ) → r ≡ number (drop place bytes)
        → after (take i array)
        (then r (λ m rest. then (numbers (n - (i + 1)) rest) (λ others left. found (m ∷ others) left)))
        ≡ numbers n (drop at bytes)
    next_first r e =
        let one_more : n - i ≡ suc (n - (i + 1)) = omega arith in
        ap (λ q. after (take i array)
        (then q (λ m rest. then (numbers (n - (i + 1)) rest) (λ others left. found (m ∷ others) left)))) e
        ∙ rw one_more at c.whole

    pub collecting_stops : {d : Damage} → Fails bytes place (number (drop place bytes)) d
        → Fails bytes at (numbers n (drop at bytes)) d
    collecting_stops {d} fails =
        record {
          said = next_first _ fails.said;
          onward = omega (arith, c.onward, fails.onward);
          within = fails.within;
        }

    pub collecting_goes_on : {m end : ℕ} → Finds bytes place (number (drop place bytes)) m end
        → Collecting bytes at n (set array i m) end (i + 1)
    collecting_goes_on {m} {end} r =
        record {
          long = length-set array i m ∙ c.long;
          onward = omega (arith, c.onward, r.onward);
          within = r.within;
          whole =
              let rest = numbers (n - (i + 1)) (drop end bytes) in
              let put : take (i + 1) (set array i m) ≡ take i array ++ (m ∷ []) =
              rw add-one (take-suc-set array i m (omega (arith, c.long))) in
              ap (λ q. after q rest) put
              ∙ sym (after_more (take i array) m rest) ∙ next_first (found m (drop end bytes)) r.said;
        }
