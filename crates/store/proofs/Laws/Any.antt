-- Some element of a list is such.
use Rattle.std.specs.Prelude.{◌≡◌, Bool, true, false, ◌↔◌, ◌⊎◌, List, [], ◌∷◌, ◌++◌}
use Rattle.std.proofs.Common.{inl, inr, ⊎_elim}
use Rattle.operations.specs.Operations.{All}
use Rattle.operations.specs.Log.{filter}
use Rattle.operations.proofs.Laws.Cases.{split, all_map}
use Rattle.store.specs.Dependency.{Any, Follows}

module _ {A : Type 0} where
  pub any_some : (P : A → Type 0) (l : List A) → Any P l → (x : A) × P x
  any_some P [] p = absurd p
  any_some P (x ∷ l) (inl p) = (x, p)
  any_some P (x ∷ l) (inr p) = any_some P l p

  pub each_any : (P : A → Type 0) (l : List A) → All (λ (x : A). P x → Any P l) l
  each_any P [] = tt
  each_any P (x ∷ l) = (inl, all_map (λ y f p. inr (f p)) l (each_any P l))

  pub any_map : (P Q : A → Type 0) → ((x : A) → P x → Q x) → (l : List A) → Any P l → Any Q l
  any_map P Q f [] p = p
  any_map P Q f (x ∷ l) (inl p) = inl (f x p)
  any_map P Q f (x ∷ l) (inr p) = inr (any_map P Q f l p)

  -- where the elements are such besides
  any_all : (P Q S : A → Type 0) → ((x : A) → P x → Q x → S x) → (l : List A) → All P l → Any Q l → Any S l
  any_all P Q S f [] a p = p
  any_all P Q S f (x ∷ l) a (inl p) = inl (f x a.0 p)
  any_all P Q S f (x ∷ l) a (inr p) = inr (any_all P Q S f l a.1 p)

  pub follows_all : (P : A → Type 0) (R S : A → A → Type 0) → ((e x : A) → P e → P x → R e x → S e x) → (l : List A)
      → All P l → Follows R l → Follows S l
  follows_all P R S f [] a p = p
  follows_all P R S f (e ∷ l) a (inl p) = inl (any_all P (R e) (S e) (λ x q. f e x a.0 q) l a.1 p)
  follows_all P R S f (e ∷ l) a (inr p) = inr (follows_all P R S f l a.1 p)

  pub any_append : (P : A → Type 0) (l m : List A) → Any P (l ++ m) ↔ (Any P l ⊎ Any P m)
  any_append P [] m = (inr, ⊎_elim (λ p. absurd p) (λ p. p))
  any_append P (x ∷ l) m = (
    ⊎_elim (λ p. inl (inl p)) (λ p. ⊎_elim (λ q. inl (inr q)) inr ((any_append P l m).0 p)),
    ⊎_elim (⊎_elim inl (λ p. inr ((any_append P l m).1 (inl p)))) (λ p. inr ((any_append P l m).1 (inr p))),
  )

  pub any_filter : (P : A → Type 0) (picked : A → Bool) (l : List A) → Any P (filter picked l)
      → Any (λ (x : A). P x × (picked x ≡ true)) l
  any_filter P picked [] p = p
  any_filter P picked (x ∷ l) p =
      split (picked x)
      (λ (b : picked x ≡ true).
      let either : P x ⊎ Any P (filter picked l) = rw b at p in
      ⊎_elim (λ q. inl (q, b)) (λ q. inr (any_filter P picked l q)) either)
      (λ (b : picked x ≡ false). inr (any_filter P picked l (rw b at p)))
