-- Books that hold a store, through the changes that the writers make.
use Rattle.std.specs.Prelude.{ℕ, ◌≡◌, List}
use Rattle.std.proofs.Common.{sym, ap, ◌∙◌, subst}
use Rattle.store.specs.Store.{Store}
use Rattle.store.specs.Layout.{Packed, Representable, base, decode, encode}
use Rattle.store.proofs.Theorems.{encoded, representable, decoded, packed}

-- The words are those of the store, which fits into a book.
pub record Encodes (w : List ℕ) (s : Store) : Type 0 where
  pub words : w ≡ encode base s
  pub fits : Representable base s

pub held : (w : List ℕ) → Packed base w → Encodes w (decode base w)
held w p = record { words = sym (encoded w p); fits = representable w p }

module _ (w : List ℕ) (s : Store) (h : Encodes w s) where
  pub is_packed : Packed base w
  is_packed = subst (Packed base) (sym h.words) (packed s h.fits)

  pub is_decoded : decode base w ≡ s
  is_decoded = ap (decode base) h.words ∙ decoded s h.fits

  -- A change of what the words hold is one of the store.
  pub changed : (f : Store → Store) (after : List ℕ) → after ≡ encode base (f (decode base w))
      → Representable base (f s) → Encodes after (f s)
  changed f after e r = record { words = e ∙ ap (λ (x : Store). encode base (f x)) is_decoded; fits = r }
