-- The pieces of a text, and where the first ends.
use Rattle.std.specs.Prelude.{ℕ, ◌≤◌, ◌≡◌, refl, Bool, true, false, cond, List, [], ◌∷◌, eqb, length, drop}
use Rattle.std.specs.List.{slice_split, onto_first}
use Rattle.std.proofs.Common.{ap, ◌∙◌, arith, eqb-true}
use Rattle.std.proofs.lemmas.List.Splits.{length-slice_split}
use Rattle.text.specs.Finding.{index_after, index_of}
use Rattle.text.specs.Text.{longer, split}

-- Nothing, or a separator first.
abbrev pub Separated : ℕ → List ℕ → Type 0
Separated separator [] = Unit
Separated separator (b ∷ text) = b ≡ separator

module _ (separator : ℕ) where
  separated_step : (b : ℕ) (text : List ℕ) (k : ℕ) → Separated separator (drop k text) → (found : Bool)
      → eqb b separator ≡ found
      → Separated separator (drop (index_after found k) (b ∷ text))
  unfolding index_after
  separated_step b text k rest true e = eqb-true b separator e
  separated_step b text k rest false e = rest

  pub separated : (text : List ℕ) → Separated separator (drop (index_of separator text) text)
  unfolding index_of
  separated [] = tt
  separated (b ∷ text) = separated_step b text (index_of separator text) (separated text) (eqb b separator) refl

  put_first : (b : ℕ) (pieces : List (List ℕ)) → 1 ≤ length pieces → longer b pieces ≡ onto_first b pieces
  put_first b [] more = absurd (omega arith)
  put_first b (piece ∷ pieces) more = refl

  -- The pieces are those of the kit's `split`.
  pub split_is : (text : List ℕ) → split separator text ≡ slice_split (λ b. eqb b separator) text
  split_is [] = refl
  split_is (b ∷ text) =
      let pieces : List (List ℕ) = slice_split (λ c. eqb c separator) text in
      (λ i. cond (eqb b separator) ([] ∷ split_is text i) (longer b (split_is text i)))
      ∙ ap (λ l. cond (eqb b separator) ([] ∷ pieces) l)
      (put_first b pieces (omega (arith, length-slice_split (λ c. eqb c separator) text)))
