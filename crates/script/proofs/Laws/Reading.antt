-- A script read in parts.
use Rattle.std.specs.Prelude.{ℕ, zero, suc, ◌≤◌, ◌≡◌, refl, Bool, true, false, cond, eqb, length, take}
use Prim.Native.Char.{code}
use Rattle.std.proofs.Common.{sym, ap, ◌∙◌, arith, length-take, take_all}
use Rattle.std.proofs.Math.Option.{Option}
use mathlib.Core.List.{List, [], ◌∷◌, ◌++◌, append_assoc, append-nil, drop_last, flatten}
use borrow.Table.Steps.{cases}
use Rattle.std.proofs.Math.Dec.{eqb-suc-zero}
use Rattle.protocol.specs.Call.{Call}
use Rattle.text.specs.Text.{split}
use Rattle.text.proofs.Laws.Lines.{Without, begun, begun_empty, begun_longer, some_piece}
use Rattle.lines.proofs.Theorems.{front_enough}
use Rattle.dispatch.specs.Served.{LineServed, serving, line_served}
use Rattle.script.specs.Script.{without_empty_last, lines_in, served_lines}
use Rattle.script.specs.Sessions.{Session, session, opening, Turn, turn, behind, line_ended, taken, closing}
use Rattle.script.specs.Sessions.{so_far}

behind_both : (xs ys : List LineServed) (t : Turn) → behind xs (behind ys t) ≡ behind (xs ++ ys) t
behind_both xs ys t = ap (turn t.after) (sym (append_assoc xs ys t.ended))

-- Bytes after bytes.
pub taken_append : (s : Session) (xs ys : List ℕ)
    → taken s (xs ++ ys) ≡ behind (taken s xs).ended (taken (taken s xs).after ys)
taken_append s [] ys = refl
taken_append s (b ∷ xs) ys =
    cases (eqb b (code "\n"))
    (λ (e : eqb b (code "\n") ≡ true). rw e
    (ap (behind (line_ended s).ended) (taken_append (line_ended s).after xs ys)
    ∙ behind_both (line_ended s).ended (taken (line_ended s).after xs).ended
    (taken (taken (line_ended s).after xs).after ys)))
    (λ (e : eqb b (code "\n") ≡ false). rw e (taken_append (session s.book (take 717 (s.line ++ (b ∷ [])))) xs ys))

take_front : (n : ℕ) (xs ys : List ℕ) → take n (take n xs ++ ys) ≡ take n (xs ++ ys)
take_front zero xs ys = refl
take_front (suc n) [] ys = refl
take_front (suc n) (x ∷ xs) ys = ap (λ (l : List ℕ). x ∷ l) (take_front n xs ys)

-- Bytes without a line feed only lengthen the line.
pub taken_part : (w line part : List ℕ) → length line ≤ 717 → Without (code "\n") part
    → taken (session w line) part ≡ turn (session w (take 717 (line ++ part))) []
taken_part w line [] few free =
    ap (λ (l : List ℕ). turn (session w l) []) (sym (ap (take 717) (append-nil line) ∙ take_all 717 line few))
taken_part w line (b ∷ part) few free =
    rw free.0
    (taken_part w (take 717 (line ++ (b ∷ []))) part (rw length-take (omega arith)) free.1
    ∙ ap (λ (l : List ℕ). turn (session w l) [])
    (take_front 717 (line ++ (b ∷ [])) part ∙ ap (take 717) (append_assoc line (b ∷ []) part)))

-- ---- The lines of a script

-- What stands behind 717 bytes of a line changes no reply.
front_served : (w line : List ℕ) → line_served w (take 717 line) ≡ line_served w line
unfolding line_served
front_served w line = ap (λ (call : Option Call). serving call w) (front_enough line)

pub line_kept_lem : (line : List ℕ) (pieces : List (List ℕ)) → 1 ≤ length pieces
    → without_empty_last (line ∷ pieces) ≡ line ∷ without_empty_last pieces
line_kept_lem line [] more = absurd (omega arith)
line_kept_lem [] (piece ∷ pieces) more = refl
line_kept_lem (b ∷ line) (piece ∷ pieces) more = refl

pub last_left : (line : List ℕ) (pieces : List (List ℕ)) → 1 ≤ length pieces
    → drop_last (line ∷ pieces) ≡ line ∷ drop_last pieces
last_left line [] more = absurd (omega arith)
last_left line (piece ∷ pieces) more = refl

-- The lines that bytes end, and a last line where they end.
abbrev through : (Session → List LineServed) → Session → List ℕ → List LineServed
through last s bytes = (taken s bytes).ended ++ last (taken s bytes).after

-- All lines but the last are served, and the last where `answered` keeps it: then `last` serves it.
module _ (last : Session → List LineServed) (answered : List (List ℕ) → List (List ℕ))
    (keeps : (line : List ℕ) (pieces : List (List ℕ)) → 1 ≤ length pieces
    → answered (line ∷ pieces) ≡ line ∷ answered pieces)
    (ends : (w line : List ℕ) → last (session w (take 717 line)) ≡ served_lines w (answered (line ∷ []))) where
  abbrev served_to : List ℕ → List (List ℕ) → List LineServed
  served_to w pieces = served_lines w (answered pieces)

  line_ended_lem : (bytes w line : List ℕ)
      → through last (session (line_served w line).book []) bytes
      ≡ served_to (line_served w line).book (begun [] (split (code "\n") bytes))
      → let s : Session = session w (take 717 line) in
      (line_ended s).ended ++ through last (line_ended s).after bytes
      ≡ served_to w (begun line ([] ∷ split (code "\n") bytes))
  line_ended_lem bytes w line others =
      let pieces : List (List ℕ) = split (code "\n") bytes in
      ap (λ (a : LineServed). a ∷ through last (session a.book []) bytes) (front_served w line)
      ∙ ap (λ (l : List LineServed). line_served w line ∷ l)
      (others ∙ ap (served_to (line_served w line).book) (begun_empty pieces))
      ∙ ap (served_lines w) (sym (keeps line pieces (some_piece (code "\n") bytes)))
      ∙ ap (λ (l : List ℕ). served_to w (l ∷ pieces)) (sym (append-nil line))

  -- The line was begun before, and the pieces of these bytes are the rest of it and the lines after it.
  through_lines : (bytes w line : List ℕ)
      → through last (session w (take 717 line)) bytes ≡ served_to w (begun line (split (code "\n") bytes))
  through_lines [] w line = ends w line ∙ ap (λ (l : List ℕ). served_to w (l ∷ [])) (sym (append-nil line))
  through_lines (b ∷ bytes) w line =
      let s : Session = session w (take 717 line) in
      cases (eqb b (code "\n"))
      (λ (e : eqb b (code "\n") ≡ true). rw e
      (append_assoc (line_ended s).ended (taken (line_ended s).after bytes).ended _
      ∙ line_ended_lem bytes w line (through_lines bytes (line_served w line).book [])))
      (λ (e : eqb b (code "\n") ≡ false). rw e
      (ap (λ (l : List ℕ). through last (session w l) bytes) (take_front 717 line (b ∷ []))
      ∙ through_lines bytes w (line ++ (b ∷ []))
      ∙ ap (served_to w) (begun_longer line b (split (code "\n") bytes))))

  -- The same where no line was begun.
  pub all_lines : (w input : List ℕ) → through last (opening w) input ≡ served_to w (split (code "\n") input)
  all_lines w input = through_lines input w [] ∙ ap (served_to w) (begun_empty (split (code "\n") input))

last_ended : (w line : List ℕ)
    → (closing (session w (take 717 line))).ended ≡ served_lines w (without_empty_last (line ∷ []))
last_ended w [] = refl
last_ended w (b ∷ line) =
    let s : Session = session w (take 717 (b ∷ line)) in
    ap (λ (t : Bool). (cond t (turn s []) (line_ended s)).ended) (eqb-suc-zero (length (take 716 line)))
    ∙ ap (λ (a : LineServed). a ∷ []) (front_served w (b ∷ line))

-- Where the input ends, all its lines are served.
pub closed_lines : (w input : List ℕ)
    → through (λ s. (closing s).ended) (opening w) input ≡ served_lines w (lines_in input)
closed_lines = all_lines (λ s. (closing s).ended) without_empty_last line_kept_lem last_ended

-- ---- Blocks

pub blocks_taken : (s : Session) (blocks : List (List ℕ)) → so_far s blocks ≡ taken s (flatten blocks)
unfolding flatten
blocks_taken s [] = refl
blocks_taken s (block ∷ blocks) =
    ap (behind (taken s block).ended) (blocks_taken (taken s block).after blocks)
    ∙ sym (taken_append s block (flatten blocks))
