-- Texts put one after the other.
use Rattle.std.specs.Prelude.{ℕ, ◌+◌, ◌≤◌, ◌≡◌, List, [], ◌++◌, length, take, drop}
use Rattle.std.proofs.Common.{sym, ap, ap₂, ◌∙◌, append_assoc, append-nil, arith, add-zero, length-append}
use Rattle.std.proofs.Common.{length-drop, take-append-drop, take_at, drop_at, drop-drop}
use Rattle.std.proofs.Common.{length-take-le}
use Rattle.text.specs.Text.{put}
use Rattle.text.specs.Fields.{Put}

module _ (out : List ℕ) (at : ℕ) (text : List ℕ) (fits : at + length text ≤ length out) where
  head_length : length (take at out ++ text) ≡ at + length text
  head_length = length-append (take at out) text ∙ ap (λ (n : ℕ). n + length text) (length-take-le at out (omega arith))

  pub length_put : length (put out at text) ≡ length out
  length_put =
      length-append (take at out ++ text) (drop (at + length text) out)
      ∙ omega (arith, head_length, length-drop (at + length text) out)

  pub front : take (at + length text) (put out at text) ≡ take at out ++ text
  front = take_at (take at out ++ text) (drop (at + length text) out) (at + length text) head_length

  back : drop (at + length text) (put out at text) ≡ drop (at + length text) out
  back = drop_at (take at out ++ text) (drop (at + length text) out) (at + length text) head_length

  put_put : (more : List ℕ) → put (put out at text) (at + length text) more ≡ put out at (text ++ more)
  put_put more =
      let sum : at + length text + length more ≡ at + length (text ++ more) = omega (arith, length-append text more) in
      ap₂ (λ (x y : List ℕ). x ++ more ++ y) front
      (sym (drop-drop (length more) (at + length text) (put out at text)) ∙ ap (drop (length more)) back
      ∙ drop-drop (length more) (at + length text) out)
      ∙ ap₂ (λ (x : List ℕ) (n : ℕ). x ++ drop n out) (append_assoc (take at out) text more) sum

-- Nothing is put.
pub nothing : (out : List ℕ) (at : ℕ) → Put out at [] out at
nothing out at =
    record {
      buffer =
          sym (ap₂ (λ (x : List ℕ) (n : ℕ). x ++ drop n out) (append-nil (take at out)) (add-zero at)
          ∙ take-append-drop at out);
      behind = sym (add-zero at);
    }

-- One text behind another.
pub then : {out text out₁ more out₂ : List ℕ} {at end end₂ : ℕ} → Put out at text out₁ end
    → at + length text ≤ length out → Put out₁ end more out₂ end₂
    → Put out at (text ++ more) out₂ end₂
then {out} {text} {out₁} {more} {out₂} {at} {end} first fits second =
    record {
      buffer =
          second.buffer ∙ ap₂ (λ (o : List ℕ) (n : ℕ). put o n more) first.buffer first.behind
          ∙ put_put out at text fits more;
      behind = second.behind ∙ omega (arith, first.behind, length-append text more);
    }
