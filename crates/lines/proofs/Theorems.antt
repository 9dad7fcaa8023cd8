-- What holds of lines.
use Rattle.std.specs.Prelude.{ℕ, ◌<◌, ◌≡◌, refl, ltb, length, take, replicate}
use Prim.Native.Char.{code}
use Rattle.std.proofs.Common.{sym, ap, ◌∙◌, arith, ltb-true, ltb-false, take_all, length-take-le}
use Rattle.std.proofs.Math.Option.{none, some}
use mathlib.Core.List.{List, ◌∷◌, flatten}
use borrow.Table.Steps.{cases}
use Rattle.protocol.specs.Call.{batch, contents}
use Rattle.text.specs.Text.{ascii, split, number_in}
use Rattle.lines.specs.Lines.{call_in}
use Rattle.lines.proofs.Laws.Lengths.{spread_split, long_none}
use Rattle.lines.proofs.Laws.Letters.{none_contents}

-- A call has a letter and at most 65 fields, each a space and at most ten digits.
pub no_long_call : (line : List ℕ) → 716 < length line → call_in line ≡ none
unfolding call_in
no_long_call line long = long_none (split (code " ") line) (omega (arith, spread_split (code " ") line))

-- There is one of 716.
pub longest_call : let line : List ℕ = code "G" ∷ flatten (replicate 65 (ascii " 0000000001")) in
    (length line ≡ 716) × (call_in line ≡ some (batch 1 (replicate 64 1)))
unfolding call_in number_in flatten
longest_call = (refl, refl)

-- 717 bytes of a line are enough to read it.
pub front_enough : (line : List ℕ) → call_in (take 717 line) ≡ call_in line
front_enough line =
    cases (ltb 717 (length line))
    (λ e.
    let long : 717 < length line = ltb-true 717 (length line) e in
    no_long_call (take 717 line) (omega (arith, length-take-le 717 line (omega arith)))
    ∙ sym (no_long_call line (omega arith)))
    (λ e. ap call_in (take_all 717 line (ltb-false 717 (length line) e)))

-- No line asks for contents.
pub never_contents : (line : List ℕ) (o : ℕ) → call_in line ≡ some (contents o) → ⊥
unfolding call_in
never_contents line = none_contents (split (code " ") line)
