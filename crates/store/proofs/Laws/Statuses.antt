-- Statuses told apart, and the numbers that transactions with a status and objects with a kind have.
use Rattle.std.specs.Prelude.{ℕ, ◌≤◌, ◌<◌, ◌≡◌, refl, length}
use Rattle.std.proofs.Common.{sym, ap, ◌∙◌, lt_of_not-le, arith}
use Rattle.std.proofs.Math.Option.{some, none-ne-some}
use Rattle.std.proofs.Math.ListN.{get_or-eq_default}
use Rattle.operations.specs.Operations.{Kind}
use Rattle.store.specs.Store.{Status, absent, active, pseudo_committed, Object, no_object, Store, status_of}
use Rattle.store.specs.Store.{object_of, Live, Active, PseudoCommitted}
use Rattle.store.specs.Layout.{status_word}

pub absent_inactive : absent ≡ active → ⊥
absent_inactive e = omega (arith, ap status_word e)

pub absent_unranked : (rank : ℕ) → absent ≡ pseudo_committed rank → ⊥
absent_unranked rank e = omega (arith, ap status_word e)

pub active_unranked : (rank : ℕ) → active ≡ pseudo_committed rank → ⊥
active_unranked rank e = omega (arith, ap status_word e)

pub same_rank : (a b : ℕ) → pseudo_committed a ≡ pseudo_committed b → a ≡ b
same_rank a b e = omega (arith, ap status_word e)

-- Neither absent nor active.
pub live_ranked : (status : Status) → (status ≡ absent → ⊥) → (status ≡ active → ⊥)
    → (rank : ℕ) × (status ≡ pseudo_committed rank)
live_ranked absent live inactive = absurd (live refl)
live_ranked active live inactive = absurd (inactive refl)
live_ranked (pseudo_committed rank) live inactive = (rank, refl)

module _ (s : Store) where
  pub active_live : (t : ℕ) → Active s t → Live s t
  active_live t e f = absent_inactive (sym f ∙ e)

  pub pseudo_committed_live : (t : ℕ) → PseudoCommitted s t → Live s t
  pseudo_committed_live t (rank, e) f = absent_unranked rank (sym f ∙ e)

  pub active_apart : (t u : ℕ) → Active s t → PseudoCommitted s u → u ≡ t → ⊥
  active_apart t u e (rank, f) same = active_unranked rank (sym e ∙ ap (status_of s) (sym same) ∙ f)

  -- Past the end of the lists transactions are absent, and objects have no kind.
  pub live_within : (t : ℕ) → Live s t → t < length s.statuses
  live_within t live =
      lt_of_not-le (λ (past : length s.statuses ≤ t). live (get_or-eq_default s.statuses absent past))

  pub pseudo_committed_within : (t : ℕ) → PseudoCommitted s t → t < length s.statuses
  pseudo_committed_within t p = live_within t (pseudo_committed_live t p)

  pub object_past : (o : ℕ) → length s.objects ≤ o → object_of s o ≡ no_object
  object_past o past = get_or-eq_default s.objects no_object past

  pub kind_within : (o : ℕ) (kind : Kind) → (object_of s o).kind ≡ some kind → o < length s.objects
  kind_within o kind e =
      lt_of_not-le (λ (past : length s.objects ≤ o). none-ne-some kind
      (sym (ap (λ (x : Object). x.kind) (object_past o past)) ∙ e))
