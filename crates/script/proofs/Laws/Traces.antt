-- Lines that are all calls.
use Rattle.std.specs.Prelude.{ℕ, ◌≡◌, refl, List, [], ◌∷◌, map}
use Rattle.std.proofs.Common.{ap, ◌∙◌}
use Rattle.std.proofs.Math.Option.{Option, some}
use Rattle.protocol.specs.Call.{Call, desk}
use Rattle.protocol.proofs.Laws.Protocol.{clash}
use Rattle.history.specs.History.{Event, trace}
use Rattle.lines.specs.Lines.{call_in}
use Rattle.replies.specs.Printed.{printed}
use Rattle.dispatch.specs.Served.{LineServed, serving, line_served}
use Rattle.script.specs.Script.{served_lines, texts}

abbrev pub printed_at : Event → List ℕ
printed_at e = printed e.outcome.reply e.outcome.list

-- The replies to them are the desk's outcomes, printed.
pub replies_traced : (lines : List (List ℕ)) (calls : List Call) → map call_in lines ≡ map some calls
    → (w : List ℕ) → texts (served_lines w lines) ≡ map printed_at (trace desk calls w)
unfolding line_served
replies_traced [] [] e w = refl
replies_traced [] (call ∷ calls) e w = clash cc
replies_traced (line ∷ lines) [] e w = clash cc
replies_traced (line ∷ lines) (call ∷ calls) e w =
    let first : call_in line ≡ some call = cc in
    let others : map call_in lines ≡ map some calls = cc in
    ap (λ (c : Option Call). let a : LineServed = serving c w in a.text ∷ texts (served_lines a.book lines)) first
    ∙ ap (λ (l : List (List ℕ)). (serving (some call) w).text ∷ l)
    (replies_traced lines calls others (desk call w).book)
