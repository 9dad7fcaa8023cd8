-- Replaying has no choice: of two replays of the same bytes from the same book, one goes on where the other stops.
use Rattle.std.specs.Prelude.{ℕ, ◌≡◌, refl, ◌⊎◌, List, [], ◌∷◌, drop, Result, Ok, Err}
use Rattle.std.proofs.Common.{sym, ap, ◌∙◌, subst, inl, inr, ⊎_elim}
use Rattle.protocol.proofs.Laws.Protocol.{clash}
use Rattle.journal.specs.Groups as groups
use Rattle.journal.specs.Records.{Record}
use Rattle.journal.specs.Reading.{step, next, end, stopped}
use Rattle.journal.specs.Coded.{cause_of}
use Rattle.journal.specs.declared.Cause.{Cause}
use Rattle.journal.specs.declared.Cause.TheVariants.{Cut, Letter, Code, Owners, List as Listed, Batch, LongForm}
use Rattle.journal.specs.declared.Cause.TheVariants.{Width}
use Rattle.resuming.specs.Resuming.{served_again, Confirmed, Replayed, here, more, Other, Ended}
use Rattle.resuming.specs.Laws.Chains.{behind}
use Rattle.journal.specs.declared.Damage.{Damage}
use Rattle.resuming.specs.declared.Stop.{Stop}
use Rattle.resuming.specs.declared.Stop.TheVariants.{Damaged, Differs}

-- A replay of nothing.
nothing : {w bytes w₁ bytes₁ : List ℕ} → (w ≡ w₁) × (bytes ≡ bytes₁) → Replayed w bytes w₁ bytes₁
nothing {w} {bytes} {w₁} (same, too) =
    subst (λ (l : List ℕ). Replayed w bytes w₁ l) too (subst (λ (l : List ℕ). Replayed w bytes l bytes) same here)

-- A replay is of nothing, or begins with a record.
abbrev Begins : List ℕ → List ℕ → List ℕ → List ℕ → Type 0
Begins w bytes w₂ bytes₂ =
    ((w ≡ w₂) × (bytes ≡ bytes₂))
    ⊎ ((w₁ : List ℕ) × (bytes₁ : List ℕ) × Confirmed w bytes w₁ bytes₁ × Replayed w₁ bytes₁ w₂ bytes₂)

one_more : {w bytes w₁ bytes₁ w₂ bytes₂ : List ℕ} → Begins w bytes w₁ bytes₁ → Confirmed w₁ bytes₁ w₂ bytes₂
    → Begins w bytes w₂ bytes₂
one_more {w} {bytes} {w₁} {bytes₁} {w₂} {bytes₂} (inl (same, too)) last =
    let moved : Confirmed w bytes w₂ bytes₂ =
    subst (λ (l : List ℕ). Confirmed w l w₂ bytes₂) (sym too)
    (subst (λ (l : List ℕ). Confirmed l bytes₁ w₂ bytes₂) (sym same) last) in
    inr (w₂, bytes₂, moved, here)
one_more (inr (between, left, first, others)) last = inr (between, left, first, more others last)

begins : {w bytes w₂ bytes₂ : List ℕ} → Replayed w bytes w₂ bytes₂ → Begins w bytes w₂ bytes₂
begins here = inl (refl, refl)
begins (more others last) = one_more (begins others) last

-- One record leads to one book.
same_confirmed : {w bytes w₁ bytes₁ w₂ bytes₂ : List ℕ} → Confirmed w bytes w₁ bytes₁ → Confirmed w bytes w₂ bytes₂
    → (w₁ ≡ w₂) × (bytes₁ ≡ bytes₂)
same_confirmed {w} {bytes} {w₁} {bytes₁} {w₂} {bytes₂} c d =
    let read : next c.first bytes₁ ≡ next d.first bytes₂ = sym c.read ∙ d.read in
    let first : c.first ≡ d.first = cc in
    (c.left ∙ ap (λ (r : Record). (served_again r w).book) first ∙ sym d.left, cc)

-- The shorter of two is a beginning of the longer.
past : {w bytes w₁ bytes₁ w₂ bytes₂ : List ℕ} → Confirmed w bytes w₁ bytes₁ → Begins w bytes w₂ bytes₂
    → Replayed w₁ bytes₁ w₂ bytes₂ ⊎ Replayed w₂ bytes₂ w₁ bytes₁
past c (inl (same, too)) = inr (behind (nothing (sym same, sym too)) (more here c))
past c (inr (between, left, first, others)) = inl (behind (nothing (same_confirmed c first)) others)

one_way : {w bytes w₁ bytes₁ w₂ bytes₂ : List ℕ} → Replayed w bytes w₁ bytes₁ → Replayed w bytes w₂ bytes₂
    → Replayed w₁ bytes₁ w₂ bytes₂ ⊎ Replayed w₂ bytes₂ w₁ bytes₁
one_way here second = inl second
one_way (more others last) second =
    ⊎_elim (λ longer. past last (begins longer)) (λ shorter. inr (more shorter last)) (one_way others second)

-- ---- Where no record follows

-- What stands there is no record.
abbrev pub Stops : List ℕ → Type 0
Stops bytes = (r : Record) (rest : List ℕ) → step bytes ≡ next r rest → ⊥

pub end_stops : (bytes : List ℕ) → step bytes ≡ end → Stops bytes
end_stops bytes e r rest read = clash cc

pub bad_stops : (bytes : List ℕ) {cause : groups.Cause} {left : List ℕ} → step bytes ≡ stopped cause left → Stops bytes
bad_stops bytes e r rest read = clash cc

stuck : {w bytes w₁ bytes₁ : List ℕ} → Stops bytes → Replayed w bytes w₁ bytes₁ → (w ≡ w₁) × (bytes ≡ bytes₁)
stuck stops all =
    ⊎_elim (λ same. same) (λ (between, left, first, others). absurd (stops first.first left first.read))
    (begins all)

pub only_so : {w bytes w₁ bytes₁ w₂ bytes₂ : List ℕ} → Replayed w bytes w₁ bytes₁ → Stops bytes₁
    → Replayed w bytes w₂ bytes₂ → Stops bytes₂
    → (w₁ ≡ w₂) × (bytes₁ ≡ bytes₂)
only_so first stops second too =
    ⊎_elim (stuck stops) (λ back. let (same, left) = stuck too back in (sym same, sym left)) (one_way first second)

-- No record differs on the way to where none follows.
pub never_other : {w bytes w₁ bytes₁ w₂ bytes₂ : List ℕ} → Replayed w bytes w₁ bytes₁ → Other w₁ bytes₁
    → Replayed w bytes w₂ bytes₂ → Stops bytes₂
    → ⊥
never_other {w} {bytes} {w₁} {bytes₁} {w₂} {bytes₂} first other second stops =
    let met : bytes₁ ≡ bytes₂ → ⊥ = λ e. stops other.first other.rest (sym (ap step e) ∙ other.read) in
    ⊎_elim
    (λ longer. ⊎_elim (λ same. met same.1) (λ (between, left, confirmed, others). differ confirmed) (begins longer))
    (λ shorter. met (sym (stuck stops shorter).1))
    (one_way first second)
  where
    differ : {book rest : List ℕ} → Confirmed w₁ bytes₁ book rest → ⊥
    differ {book} {rest} c =
        let read : next c.first rest ≡ next other.first other.rest = sym c.read ∙ other.read in
        let same : c.first ≡ other.first = cc in
        other.other (subst (λ (r : Record). (served_again r w₁).records ≡ r ∷ []) same c.same)

-- ---- What the code finds there

is_cut : (cause : Cause) → cause_of cause ≡ groups.cut → cause ≡ Cut
is_cut Cut e = refl
is_cut Letter e = clash cc
is_cut Code e = clash cc
is_cut Owners e = clash cc
is_cut Listed e = clash cc
is_cut Batch e = clash cc
is_cut LongForm e = clash cc
is_cut Width e = clash cc

-- Where the bytes are known to lead to a place at which no record follows, it finds that place and that book.
module _ {w bytes w₁ rest : List ℕ} (all : Replayed w bytes w₁ rest) (stops : Stops rest) (at : ℕ) (book : List ℕ) where
  pub found_so : (found : Result (Unit {0}) Stop) → Ended w bytes at book found → (book ≡ w₁) × (drop at bytes ≡ rest)
  found_so (Ok whole) (replayed, told) = only_so replayed (end_stops (drop at bytes) told) all stops
  found_so (Err (Damaged d)) (replayed, told) = only_so replayed (bad_stops (drop at bytes) told) all stops
  found_so (Err Differs) (before, replayed, other) = absurd (never_other replayed other all stops)

  pub found_end : (found : Result (Unit {0}) Stop) → Ended w bytes at book found → step rest ≡ end → found ≡ Ok tt
  found_end (Ok whole) so e = refl
  found_end (Err (Damaged d)) so e =
      let same = (found_so (Err (Damaged d)) so).1 in
      let told : stopped (cause_of d.cause) (drop d.place bytes) ≡ end = sym so.1 ∙ ap step same ∙ e in
      clash cc
  found_end (Err Differs) (before, replayed, other) e = absurd (never_other replayed other all stops)

  abbrev err : Damage → Result (Unit {0}) Stop
  err d = Err (Damaged d)

  pub found_cut : (found : Result (Unit {0}) Stop) {left : List ℕ} → Ended w bytes at book found
      → step rest ≡ stopped groups.cut left
      → (place : ℕ) × (found ≡ Err (Damaged (record { cause = Cut; place = place })))
  found_cut (Ok whole) {left} so e =
      let told : end ≡ stopped groups.cut left = sym so.1 ∙ ap step (found_so (Ok whole) so).1 ∙ e in clash cc
  found_cut (Err (Damaged d)) {left} so e =
      let same = (found_so (Err (Damaged d)) so).1 in
      let told : stopped (cause_of d.cause) (drop d.place bytes) ≡ stopped groups.cut left =
      sym so.1 ∙ ap step same ∙ e in
      let cut : d.cause ≡ Cut = is_cut d.cause cc in
      (d.place, ap err (ap (λ (c : Cause). record d { cause = c }) cut))
  found_cut (Err Differs) (before, replayed, other) e = absurd (never_other replayed other all stops)
