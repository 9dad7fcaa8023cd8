-- A walk over the members of a set.
use Rattle.std.specs.Prelude.{ℕ, ◌≡◌, ◌&&◌, not, eqb, List, Option, MatchOption}
use Rattle.bitset.specs.declared.Walk.{Walk}
use Rattle.bitset.specs.Bitset.{has, Members, Lowest, members}

-- The members that are still to come, ascending.
abbrev pub left : Walk → List ℕ
left walk = members walk.set

-- A step gives the lowest of them and leaves the others, until there are none.
abbrev pub Steps : Walk → Option ℕ → Walk → Type 0
Steps before given after =
    MatchOption given ((before.set ≡ 0) × (after.set ≡ 0))
    (λ t. Lowest before.set t × Members after.set (λ h. has before.set h && not (eqb h t)))
