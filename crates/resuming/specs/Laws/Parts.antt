-- More bytes behind those that are replayed.
use Rattle.std.specs.Prelude.{ℕ, ◌≡◌, List, [], ◌∷◌, ◌++◌}
use Rattle.std.proofs.Common.{ap, subst}
use Rattle.protocol.proofs.Laws.Protocol.{clash}
use Rattle.journal.specs.Groups.{Read, found, bad}
use Rattle.journal.specs.Records.{Record}
use Rattle.journal.specs.Reading.{record_in, next, step, step_of}
use Rattle.journal.proofs.Laws.Cuts.{Grown, record_grown}
use Rattle.resuming.specs.Resuming.{Confirmed, Replayed, here, more}

found_of : (x : Read Record) {r : Record} {rest : List ℕ} → step_of x ≡ next r rest → x ≡ found r rest
found_of (found s left) e = cc
found_of (bad cause left) e = clash cc

-- The record that a step gives begins the bytes.
pub step_found : (bytes : List ℕ) {r : Record} {rest : List ℕ} → step bytes ≡ next r rest
    → record_in bytes ≡ found r rest
step_found [] e = clash cc
step_found (b ∷ bytes) e = found_of (record_in (b ∷ bytes)) e

module _ (others : List ℕ) where
  step_grown : (bytes : List ℕ) {r : Record} {rest : List ℕ} → step bytes ≡ next r rest
      → step (bytes ++ others) ≡ next r (rest ++ others)
  step_grown [] e = clash cc
  step_grown (b ∷ bytes) e =
      ap step_of
      (subst (λ (x : Read Record). Grown others x (record_in ((b ∷ bytes) ++ others))) (step_found (b ∷ bytes) e)
      (record_grown others (b ∷ bytes)))

  confirmed_grown : {w bytes book rest : List ℕ} → Confirmed w bytes book rest
      → Confirmed w (bytes ++ others) book (rest ++ others)
  confirmed_grown {w} {bytes} c =
      record { first = c.first; read = step_grown bytes c.read; same = c.same; left = c.left }

  pub replayed_grown : {w bytes book rest : List ℕ} → Replayed w bytes book rest
      → Replayed w (bytes ++ others) book (rest ++ others)
  replayed_grown here = here
  replayed_grown (more before last) = more (replayed_grown before) (confirmed_grown last)
