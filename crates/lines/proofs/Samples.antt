-- Lines that are calls, and lines that are none.
use Rattle.std.specs.Prelude.{ℕ, ◌≡◌, refl, replicate}
use Prim.Native.Char.{code}
use Prim.Native.String.{String}
use Rattle.std.proofs.Math.Option.{Option, none, some}
use mathlib.Core.List.{[], ◌∷◌, ◌++◌, flatten}
use Rattle.protocol.specs.Call.{Call, set_up, begin, operate, batch, finish, cancel}
use Rattle.text.specs.Text.{ascii, number_in}
use Rattle.lines.specs.Lines.{lent, call_in}

abbrev pub read : String → Option Call
read line = call_in (ascii line)

-- A line with a byte behind it that is no printed character.
abbrev pub read_with : String → ℕ → Option Call
read_with line b = call_in (ascii line ++ (b ∷ []))

-- Each call, with as few and as many fields and digits as it takes.
pub calls : (read "S" ≡ some (set_up (replicate 16 0)))
    × (read "S 1 2 3" ≡ some (set_up (1 ∷ 2 ∷ 3 ∷ replicate 13 0)))
    × (read "S 1 2 3 4 5 6 7 8 9 10 11 12 13 14 15 16"
    ≡ some (set_up (1 ∷ 2 ∷ 3 ∷ 4 ∷ 5 ∷ 6 ∷ 7 ∷ 8 ∷ 9 ∷ 10 ∷ 11 ∷ 12 ∷ 13 ∷ 14 ∷ 15 ∷ 16 ∷ [])))
    × (read "S 255" ≡ some (set_up (255 ∷ replicate 15 0)))
    × (read "S 0000000255" ≡ some (set_up (255 ∷ replicate 15 0)))
    × (read "B 0" ≡ some (begin 0))
    × (read "B 63" ≡ some (begin 63))
    × (read "B 0000000063" ≡ some (begin 63))
    × (read "B 4294967295" ≡ some (begin 4_294_967_295))
    × (read "I 0 0 1 7 0" ≡ some (operate 0 0 1 7 0))
    × (read "I 1 2 3 4 5" ≡ some (operate 1 2 3 4 5))
    × (read "G 0" ≡ some (batch 0 []))
    × (read "G 0 1 2 3 4" ≡ some (batch 0 (1 ∷ 2 ∷ 3 ∷ 4 ∷ [])))
    × (read "G 9 0 1 7 0 0 3 0 0" ≡ some (batch 9 (0 ∷ 1 ∷ 7 ∷ 0 ∷ 0 ∷ 3 ∷ 0 ∷ 0 ∷ [])))
    × (read "F 7" ≡ some (finish 7 lent))
    × (read "C 7" ≡ some (cancel 7 lent))
unfolding call_in number_in
calls = (refl, refl, refl, refl, refl, refl, refl, refl, refl, refl, refl, refl, refl, refl, refl, refl)

-- Numbers that are too large or too long or none; fields that are missing, extra or empty; a part of an operation,
-- and seventeen operations; other bytes and letters.
pub none_of_these : (read "S 256" ≡ none)
    × (read "S 1 2 3 4 5 6 7 8 9 10 11 12 13 14 15 16 0" ≡ none)
    × (read "B 4294967296" ≡ none)
    × (read "B 00000000063" ≡ none)
    × (read "B -1" ≡ none)
    × (read "B +1" ≡ none)
    × (read "B x" ≡ none)
    × (read "B" ≡ none)
    × (read "B 1 2" ≡ none)
    × (read "I 0 0 1 7" ≡ none)
    × (read "I 0 0 1 7 0 0" ≡ none)
    × (read "G" ≡ none)
    × (read "G 0 1" ≡ none)
    × (read "G 0 1 2 3 4 5" ≡ none)
    × (call_in (code "G" ∷ flatten (replicate 69 (ascii " 1"))) ≡ none)
    × (read "F" ≡ none)
    × (read "F 1 2" ≡ none)
    × (read "C" ≡ none)
    × (read "C 1 2" ≡ none)
    × (read "" ≡ none)
    × (read " " ≡ none)
    × (read " B 1" ≡ none)
    × (read "B 1 " ≡ none)
    × (read "S " ≡ none)
    × (read "B  1" ≡ none)
    × (read "B\t1" ≡ none)
    × (read_with "B 1" 13 ≡ none)
    × (read_with "B 1" 0 ≡ none)
    × (read "b 1" ≡ none)
    × (read "H 1" ≡ none)
    × (read "B1" ≡ none)
    × (read "SS" ≡ none)
unfolding call_in number_in flatten
none_of_these = (
  refl,
  refl,
  refl,
  refl,
  refl,
  refl,
  refl,
  refl,
  refl,
  refl,
  refl,
  refl,
  refl,
  refl,
  refl,
  refl,
  refl,
  refl,
  refl,
  refl,
  refl,
  refl,
  refl,
  refl,
  refl,
  refl,
  refl,
  refl,
  refl,
  refl,
  refl,
  refl,
)
