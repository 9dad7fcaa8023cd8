-- A script served as it is read, block by block.
use Rattle.std.specs.Prelude.{ℕ, cond, List, [], ◌∷◌, ◌++◌, eqb, length, take}
use Prim.Native.Char.{code}
use Rattle.dispatch.specs.Served.{LineServed, line_served}

-- How many bytes are kept of a line: no call is longer than 716.
abbrev pub line_kept : ℕ
line_kept = 717

-- The book, and what was read of a line that has not ended, as far as it is kept.
pub record Session : Type 0 where
  pub book : List ℕ
  pub line : List ℕ

abbrev pub session : List ℕ → List ℕ → Session
session book line = record { book = book; line = line }

-- No line was begun.
abbrev pub opening : List ℕ → Session
opening book = session book []

-- What reading leaves: the session, and the lines that have ended, served.
pub record Turn : Type 0 where
  pub after : Session
  pub ended : List LineServed

abbrev pub turn : Session → List LineServed → Turn
turn after ended = record { after = after; ended = ended }

abbrev pub behind : List LineServed → Turn → Turn
behind served t = turn t.after (served ++ t.ended)

-- A line feed: the line is served.
abbrev pub line_ended : Session → Turn
line_ended s =
    let a = line_served s.book s.line in
    turn (session a.book []) (a ∷ [])

-- What bytes do, one after the other.
abbrev pub taken : Session → List ℕ → Turn
taken s [] = turn s []
taken s (b ∷ bytes) =
    cond (eqb b (code "\n")) (behind (line_ended s).ended (taken (line_ended s).after bytes))
    (taken (session s.book (take line_kept (s.line ++ (b ∷ [])))) bytes)

-- The input has ended, and with it a line that was begun.
abbrev pub closing : Session → Turn
closing s = cond (eqb (length s.line) 0) (turn s []) (line_ended s)

-- What blocks of the input do, one after the other.
abbrev pub so_far : Session → List (List ℕ) → Turn
so_far s [] = turn s []
so_far s (block ∷ blocks) = behind (taken s block).ended (so_far (taken s block).after blocks)

-- The lines of an input that comes in blocks.
abbrev pub in_blocks : Session → List (List ℕ) → List LineServed
in_blocks s blocks = (so_far s blocks).ended ++ (closing (so_far s blocks).after).ended
