-- The call of a letter and its numbers: a set up kind by kind, and the others by their letters.
use Rattle.std.specs.Prelude.{ℕ, suc, ◌+◌, ◌-◌, ◌≤◌, ◌<◌, ◌≡◌, refl, Bool, true, false, cond, List, [], ◌∷◌, ◌++◌}
use Rattle.std.specs.Prelude.{leb, length, get_or, take, drop, set, replicate}
use Rattle.std.proofs.Common.{add-one, arith, sym, ap, ◌∙◌, ne_eqb, leb-false, lt-ltb, le-ltb}
use Rattle.std.proofs.Common.{drop-cons, length-take-le, take-suc}
use Rattle.std.proofs.Math.Option.{none, some}
use Rattle.std.proofs.lemmas.Grind.{common_steps}
use Rattle.std.proofs.Math.Seq.{append_snoc}
use Rattle.std.proofs.lemmas.List.{set_at}
use Rattle.protocol.specs.Calls.{some_above, too_many}
use Rattle.protocol.specs.Call.{batch}
use Rattle.lines.specs.Lines.{set_up_of, batch_of, asked}

abbrev pub zeros : ℕ → List ℕ
zeros n = replicate n 0

-- ---- Set up

-- How far kinds were written, over a list of zeros.
pub record KindsRead (arguments kinds : List ℕ) (i : ℕ) : Type 0 where
  pub front : kinds ≡ take i arguments ++ zeros (16 - i)
  pub left : some_above 255 (drop i arguments) ≡ some_above 255 arguments

module _ {arguments kinds : List ℕ} {i : ℕ} (few : length arguments ≤ 16) (w : KindsRead arguments kinds i)
    (more : i < length arguments) where
  at_kind : drop i arguments ≡ get_or arguments i 0 ∷ drop (i + 1) arguments
  at_kind = rw add-one (drop-cons arguments i 0 more)

  pub writing_goes_on : get_or arguments i 0 ≤ 255
      → KindsRead arguments (set kinds i (get_or arguments i 0)) (i + 1)
  writing_goes_on l =
      let value = get_or arguments i 0 in
      let n = 16 - (i + 1) in
      let e : 16 - i ≡ suc n = omega arith in
      let next : take (i + 1) arguments ≡ take i arguments ++ (value ∷ []) =
      rw add-one (take-suc arguments i 0 (omega arith)) in
      record {
        front =
            ap (λ q. set q i value) (w.front ∙ ap (λ m. take i arguments ++ zeros m) e)
            ∙ set_at (take i arguments) 0 (zeros n) value i (length-take-le i arguments (omega arith))
            ∙ sym (append_snoc (take i arguments) value (zeros n))
            ∙ ap (λ q. q ++ zeros n) (sym next);
        left = sym (rw (le-ltb 255 value l) at (ap (some_above 255) at_kind)) ∙ w.left;
      }

-- ---- Any call, by its letter

pub same_both : {A : Type 0} (b : Bool) (x : A) → cond b x x ≡ x
same_both true x = refl
same_both false x = refl

-- No set up has so many kinds, and no batch so many words.
set_up_long : (numbers : List ℕ) → 65 < length numbers → set_up_of numbers ≡ none
set_up_long numbers long = grind (arith, common_steps)

more_refused : (operations : List ℕ) → 64 < length operations → too_many operations ≡ true
more_refused operations more = rw (lt-ltb 64 (length operations) more)

batch_long : (numbers : List ℕ) → 65 < length numbers → batch_of numbers ≡ none
batch_long [] long = refl
batch_long (t ∷ operations) long =
    ap (λ b. cond b none (some (batch t operations))) (more_refused operations (omega arith))

-- No call takes more than 65 numbers.
pub too_many_lem : (letter : ℕ) (numbers : List ℕ) → leb (length numbers) 65 ≡ false → asked letter numbers ≡ none
too_many_lem letter numbers e =
    let more = leb-false (length numbers) 65 e in
    simp (
      set_up_long numbers more,
      ne_eqb (length numbers) 1 (omega arith),
      ne_eqb (length numbers) 5 (omega arith),
      batch_long numbers more,
      same_both,
    )
