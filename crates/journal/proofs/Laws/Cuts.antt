-- More bytes behind those that are read: what was found stays found, and what was turned away for another cause than
-- a cut stays turned away.
use Rattle.std.specs.Prelude.{ℕ, zero, suc, ◌+◌, ◌*◌, ◌-◌, ◌≡◌, Bool, true, false, cond, ◌&&◌, ◌⊎◌, eqb, ltb, leb}
use Rattle.std.proofs.Math.Path.{refl}
use Rattle.std.proofs.Common.{ap, inr}
use Rattle.std.proofs.Math.Logic.{inl}
use Rattle.std.proofs.Math.Option.{Option, none, some}
use mathlib.Core.List.{List, [], ◌∷◌, ◌++◌}
use Rattle.journal.specs.Groups as groups
use Rattle.journal.specs.Groups.{Cause, cut, long_form, width, Read, found, bad, then, higher, value}
use Rattle.journal.specs.Groups.{number_from, number, numbers}
use Rattle.journal.specs.Records.{nothing, arguments_of}
use Rattle.journal.specs.Records.{is_batch, has_reply, gives, operations_of}
use Rattle.journal.specs.Reading.{count, owners_from, list_in, operations_in, arguments_in, reply_of, reply_in}
use Rattle.journal.specs.Reading.{record_in}

-- What is read of some bytes, and what is read where more bytes stand behind them.
abbrev pub Grown : {A : Type 0} → List ℕ → Read A → Read A → Type 0
Grown more (found a rest) after = after ≡ found a (rest ++ more)
Grown more (bad cause rest) after = (cause ≡ cut) ⊎ (after ≡ bad cause (rest ++ more))

module _ {A : Type 0} (more : List ℕ) where
  grown_cond : (t : Bool) (r s after otherwise : Read A) → Grown more r after → Grown more s otherwise
      → Grown more (cond t r s) (cond t after otherwise)
  grown_cond true r s after otherwise p q = p
  grown_cond false r s after otherwise p q = q

  grown_then : {B : Type 0} (r after : Read A) (f g : A → List ℕ → Read B) → Grown more r after
      → ((a : A) (rest : List ℕ) → Grown more (f a rest) (g a (rest ++ more))) → Grown more (then r f) (then after g)
  grown_then (found a rest) after f g p q = rw p (q a rest)
  grown_then (bad cause rest) after f g (inl e) q = inl e
  grown_then (bad cause rest) after f g (inr e) q = inr (ap (λ (r : Read A). then r g) e)

module _ (more : List ℕ) where
  higher_grown : (b : ℕ) (r after : Read ℕ) → Grown more r after → Grown more (higher b r) (higher b after)
  higher_grown b (found v rest) after p =
      rw p (grown_cond more (eqb v 0) (bad long_form rest) (found (b - 128 + 128 * v) rest) _ _ (inr refl) refl)
  higher_grown b (bad cause rest) after (inl e) = inl e
  higher_grown b (bad cause rest) after (inr e) = inr (ap (higher b) e)

  value_grown : (k : ℕ) (bytes : List ℕ) → Grown more (value k bytes) (value k (bytes ++ more))
  value_grown zero bytes = inr refl
  value_grown (suc k) [] = inl refl
  value_grown (suc k) (b ∷ bytes) =
      grown_cond more (ltb b 128) (found b bytes) (higher b (value k bytes)) _ _ refl
      (higher_grown b (value k bytes) (value k (bytes ++ more)) (value_grown k bytes))

  from_grown : (bytes : List ℕ) (r after : Read ℕ) → Grown more r after
      → Grown more (number_from bytes r) (number_from (bytes ++ more) after)
  from_grown bytes (found n rest) after p =
      rw p (grown_cond more (ltb n 4_294_967_296) (found n rest) (bad width bytes) _ _ refl (inr refl))
  from_grown bytes (bad cause rest) after (inl e) = inl e
  from_grown bytes (bad cause rest) after (inr e) = inr (ap (number_from (bytes ++ more)) e)

  number_grown : (bytes : List ℕ) → Grown more (number bytes) (number (bytes ++ more))
  unfolding number
  number_grown bytes = from_grown bytes (value 5 bytes) (value 5 (bytes ++ more)) (value_grown 5 bytes)

  numbers_grown : (n : ℕ) (bytes : List ℕ) → Grown more (numbers n bytes) (numbers n (bytes ++ more))
  numbers_grown zero bytes = refl
  numbers_grown (suc n) bytes =
      grown_then more (number bytes) (number (bytes ++ more)) _ _ (number_grown bytes)
      (λ first rest. grown_then more (numbers n rest) (numbers n (rest ++ more)) _ _ (numbers_grown n rest)
      (λ others left. refl))

  count_grown : (most : ℕ) (past : Cause) (bytes : List ℕ)
      → Grown more (count most past bytes) (count most past (bytes ++ more))
  count_grown most past bytes =
      grown_then more (number bytes) (number (bytes ++ more)) _ _ (number_grown bytes)
      (λ n rest. grown_cond more (leb n most) (found n rest) (bad past bytes) _ _ refl (inr refl))

  owners_grown : (n least : ℕ) (bytes : List ℕ)
      → Grown more (owners_from n least bytes) (owners_from n least (bytes ++ more))
  owners_grown zero least bytes = refl
  owners_grown (suc n) least bytes =
      grown_then more (number bytes) (number (bytes ++ more)) _ _ (number_grown bytes)
      (λ owner rest.
      grown_cond more (leb least owner && ltb owner 64) _ (bad groups.owners bytes) _ _
      (grown_then more (owners_from n (owner + 1) rest) (owners_from n (owner + 1) (rest ++ more)) _ _
      (owners_grown n (owner + 1) rest) (λ others left. refl))
      (inr refl))

  list_grown : (bytes : List ℕ) → Grown more (list_in bytes) (list_in (bytes ++ more))
  list_grown bytes =
      grown_then more (count 64 groups.list bytes) (count 64 groups.list (bytes ++ more)) _ _
      (count_grown 64 groups.list bytes) numbers_grown

  operations_grown : (bytes : List ℕ) → Grown more (operations_in bytes) (operations_in (bytes ++ more))
  operations_grown bytes =
      grown_then more (count 16 groups.batch bytes) (count 16 groups.batch (bytes ++ more)) _ _
      (count_grown 16 groups.batch bytes) (λ n rest. numbers_grown (4 * n) rest)

  arguments_grown : (first : ℕ) (known : Option ℕ) (bytes : List ℕ)
      → Grown more (arguments_in first known bytes) (arguments_in first known (bytes ++ more))
  arguments_grown first none bytes = inr refl
  arguments_grown first (some n) bytes =
      grown_then more (numbers n bytes) (numbers n (bytes ++ more)) _ _ (numbers_grown n bytes)
      (λ arguments rest.
      grown_cond more (is_batch first) _ (found arguments rest) _ _
      (grown_then more (operations_in rest) (operations_in (rest ++ more)) _ _ (operations_grown rest)
      (λ operations left. refl))
      refl)

  coded_grown : (operations replyCode : ℕ) (bytes : List ℕ)
      → Grown more (reply_of operations replyCode bytes) (reply_of operations replyCode (bytes ++ more))
  coded_grown operations replyCode bytes =
      grown_cond more (eqb replyCode 0) _ _ _ _
      (grown_then more (count 64 groups.list bytes) (count 64 groups.list (bytes ++ more)) _ _
      (count_grown 64 groups.list bytes)
      (λ n rest.
      grown_then more (owners_from n 0 rest) (owners_from n 0 (rest ++ more)) _ _ (owners_grown n 0 rest)
      (λ waited left. refl)))
      (grown_cond more (eqb replyCode 1) _ _ _ _
      (grown_then more (numbers (2 * operations) bytes) (numbers (2 * operations) (bytes ++ more)) _ _
      (numbers_grown (2 * operations) bytes) (λ answers left. refl))
      (grown_then more (list_in bytes) (list_in (bytes ++ more)) _ _ (list_grown bytes) (λ listed left. refl)))

  reply_grown : (first operations : ℕ) (bytes : List ℕ)
      → Grown more (reply_in first operations bytes) (reply_in first operations (bytes ++ more))
  reply_grown first operations bytes =
      grown_cond more (has_reply first) _ (found nothing bytes) _ _
      (grown_then more (number bytes) (number (bytes ++ more)) _ _ (number_grown bytes)
      (λ replyCode rest.
      grown_cond more (gives first replyCode) _ (bad groups.code bytes) _ _ (coded_grown operations replyCode rest)
      (inr refl)))
      refl

  pub record_grown : (bytes : List ℕ) → Grown more (record_in bytes) (record_in (bytes ++ more))
  unfolding record_in
  record_grown [] = inl refl
  record_grown (first ∷ bytes) =
      grown_then more (arguments_in first (arguments_of first) bytes)
      (arguments_in first (arguments_of first) (bytes ++ more)) _ _
      (arguments_grown first (arguments_of first) bytes)
      (λ arguments rest.
      grown_then more (reply_in first (operations_of first arguments) rest)
      (reply_in first (operations_of first arguments) (rest ++ more)) _ _
      (reply_grown first (operations_of first arguments) rest) (λ reply left. refl))
