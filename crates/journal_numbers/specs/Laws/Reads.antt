-- What is read behind what was read; and a count.
use Rattle.std.specs.Prelude.{ℕ, ◌≤◌, ◌<◌, ◌≡◌, refl, cond, List, leb, drop}
use Rattle.std.proofs.Common.{le_refl, arith, ap, ◌∙◌, le-leb}
use Rattle.std.proofs.Math.Path.{subst⁻¹}
use Rattle.std.proofs.lemmas.Bool.{lt-leb}
use Rattle.journal.specs.Groups.{Read, found, bad, then, number}
use Rattle.journal.specs.Reading.{count}
use Rattle.journal.specs.Coded.{cause_of}
use Rattle.journal.specs.declared.Cause.{Cause}
use Rattle.journal.specs.declared.Damage.{Damage}
use Rattle.journal_numbers.specs.Parts.{Finds, Fails}

abbrev pub damage : Cause → ℕ → Damage
damage cause place = record { cause = cause; place = place }

-- Three things behind each other.
pub then_then : {A B C : Type 0} (read : Read A) (more : A → List ℕ → Read B) (last : B → List ℕ → Read C)
    → then read (λ x rest. then (more x rest) last) ≡ then (then read more) last
then_then (found x rest) more last = refl
then_then (bad cause rest) more last = refl

module _ {A : Type 0} {bytes : List ℕ} {at : ℕ} {what : Read A} where
  -- Which damage it is.
  pub failed : {d e : Damage} → d ≡ e → Fails bytes at what e → Fails bytes at what d
  failed {d} {e} same fails = subst⁻¹ (λ (x : Damage). Fails bytes at what x) same fails

  module _ {B : Type 0} (more : A → List ℕ → Read B) where
    -- Nothing is read behind what cannot be.
    pub stops : {d : Damage} → Fails bytes at what d → Fails bytes at (then what more) d
    stops fails =
        record { said = ap (λ x. then x more) fails.said; onward = fails.onward; within = fails.within }

    module _ {value : A} {behind : ℕ} (first : Finds bytes at what value behind) where
      pub goes_on : {next : B} {end : ℕ} → Finds bytes behind (more value (drop behind bytes)) next end
          → Finds bytes at (then what more) next end
      goes_on second =
          record {
            said = second.said ∙ ap (λ x. then x more) first.said;
            onward = omega (arith, first.onward, second.onward);
            within = second.within;
          }

      pub stops_behind : {d : Damage} → Fails bytes behind (more value (drop behind bytes)) d
          → Fails bytes at (then what more) d
      stops_behind fails =
          record {
            said = fails.said ∙ ap (λ x. then x more) first.said;
            onward = omega (arith, first.onward, fails.onward);
            within = fails.within;
          }

-- A count that is not past its limit, and one that is.
module _ {bytes : List ℕ} {at n end : ℕ} (most : ℕ) (past : Cause)
    (first : Finds bytes at (number (drop at bytes)) n end) where
  pub counted : n ≤ most → Finds bytes at (count most (cause_of past) (drop at bytes)) n end
  counted l =
      goes_on _ first
      record { said = rw (le-leb n most l); onward = le_refl end; within = first.within }

  pub past_limit : most < n → Fails bytes at (count most (cause_of past) (drop at bytes)) (damage past at)
  past_limit l =
      record {
        said =
            rw (lt-leb n most l) at
            (ap (λ x. then x (λ m rest. cond (leb m most) (found m rest) (bad (cause_of past) (drop at bytes))))
            first.said);
        onward = le_refl at;
        within = omega (arith, first.onward, first.within);
      }
