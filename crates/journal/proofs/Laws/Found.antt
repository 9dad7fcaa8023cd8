-- What holds of whatever a reader finds: for readers put together, and for tests.
use Rattle.std.specs.Prelude.{ℕ, ◌≡◌, refl, Bool, true, false, cond, List}
use Rattle.std.proofs.Common.{subst}
use Rattle.journal.specs.Groups.{Read, found, bad, then}

-- So it is where something is found.
abbrev pub Found : {A : Type 0} → (A → List ℕ → Type 0) → Read A → Type 0
Found P (found a rest) = P a rest
Found P (bad cause rest) = Unit {0}

module _ {A : Type 0} (P : A → List ℕ → Type 0) where
  pub of_found : {r : Read A} {a : A} {rest : List ℕ} → Found P r → r ≡ found a rest → P a rest
  of_found p e = subst (λ (r : Read A). Found P r) e p

  pub found_cond : (t : Bool) (r s : Read A) → (t ≡ true → Found P r) → (t ≡ false → Found P s) → Found P (cond t r s)
  found_cond true r s p q = p refl
  found_cond false r s p q = q refl

  pub found_so : (Q : A → List ℕ → Type 0) (r : Read A) → Found P r
      → ((a : A) (rest : List ℕ) → P a rest → Q a rest) → Found Q r
  found_so Q (found a rest) p q = q a rest p
  found_so Q (bad cause rest) p q = tt

  module _ {B : Type 0} (Q : B → List ℕ → Type 0) where
    pub found_then : (r : Read A) (more : A → List ℕ → Read B) → Found P r
        → ((a : A) (rest : List ℕ) → P a rest → Found Q (more a rest)) → Found Q (then r more)
    found_then (found a rest) more p q = q a rest p
    found_then (bad cause rest) more p q = tt
