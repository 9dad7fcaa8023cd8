-- Where a byte stands first in a text.
use Rattle.std.specs.Prelude.{ℕ, zero, suc, Bool, true, false, List, [], ◌∷◌, eqb, take, drop}

-- The place of the first of a text's bytes that is the separator, by whether the text begins with it and by its place
-- behind the first byte; the text's length where none is.
unfoldable pub index_after : Bool → ℕ → ℕ
index_after true k = zero
index_after false k = suc k

unfoldable pub index_of : ℕ → List ℕ → ℕ
index_of separator [] = zero
index_of separator (b ∷ text) = index_after (eqb b separator) (index_of separator text)

-- The part of a text from one place to another.
abbrev pub slice : ℕ → ℕ → List ℕ → List ℕ
slice from to text = drop from (take to text)
