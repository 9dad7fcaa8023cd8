-- What lines issue, put behind what others did.
use Rattle.std.specs.Prelude.{ℕ, ◌+◌, ◌≤◌, ◌≡◌, true, List, [], ◌∷◌, ◌++◌, length}
use Rattle.std.proofs.Common.{ap, ◌∙◌, append-nil, arith}
use Rattle.std.proofs.Math.Path.{subst⁻¹}
use Rattle.operations.specs.Operations.{All}
use Rattle.operations.proofs.Laws.Cases.{all_append}
use Rattle.text.specs.Fields.{Put}
use Rattle.text.proofs.Laws.Putting.{nothing, then, length_put}
use Rattle.journal.specs.Records.{Record, file, fits}
use Rattle.dispatch.specs.Served.{LineServed}
use Rattle.script.specs.declared.Ends.{Ends}
use Rattle.script.specs.Script.{records}
use Rattle.script.specs.Feeding.{LinePut, Issued}
use Rattle.script.proofs.Laws.Lines.{texts_append, records_append, file_append}

pub issued_nothing : (out : List ℕ) (at : ℕ) (journal : List ℕ) (behind : ℕ)
    → Issued [] out at out at journal behind journal behind
issued_nothing out at journal behind =
    record { put = nothing out at; kept = nothing journal behind; fit = tt }

-- A line, served.
pub issued_line : {a : LineServed} {book out printed journal recorded : List ℕ} {at behind : ℕ} {ends : Ends}
    → LinePut a book out at printed journal behind recorded ends
    → Issued (a ∷ []) out at printed ends.written journal behind recorded ends.recorded
issued_line {a} {journal = journal} {recorded = recorded} {behind = behind} {ends = ends} said =
    let all : a.records ++ [] ≡ a.records = append-nil a.records in
    record {
      put = said.put;
      kept =
          subst⁻¹ (λ (rs : List Record). Put journal behind (file rs) recorded ends.recorded) all said.kept;
      fit = subst⁻¹ (λ (rs : List Record). All (λ r. fits r ≡ true) rs) all said.fit;
    }

-- A text that was put and ends inside its buffer had room there, and leaves the buffer's length.
pub put_within : {out text after : List ℕ} {at end : ℕ} → Put out at text after end → end ≤ length out
    → at + length text ≤ length out
put_within put fits = omega (arith, put.behind)

pub put_length : {out text after : List ℕ} {at end : ℕ} → Put out at text after end → end ≤ length out
    → length after ≡ length out
put_length {out} {text} {after} {at} put fits =
    ap length put.buffer ∙ length_put out at text (put_within put fits)

module _ {xs ys : List LineServed} {out printed printed₁ journal recorded recorded₁ : List ℕ}
    {at end end₁ behind last last₁ : ℕ}
    (first : Issued xs out at printed end journal behind recorded last)
    (second : Issued ys printed end printed₁ end₁ recorded last recorded₁ last₁) where
  pub issued_then : end ≤ length out → last ≤ length journal
      → Issued (xs ++ ys) out at printed₁ end₁ journal behind recorded₁ last₁
  issued_then room left =
      record {
        put =
            subst⁻¹ (λ (t : List ℕ). Put out at t printed₁ end₁) (texts_append xs ys)
            (then first.put (put_within first.put room) second.put);
        kept =
            subst⁻¹ (λ (t : List ℕ). Put journal behind t recorded₁ last₁)
            (ap file (records_append xs ys) ∙ file_append (records xs) (records ys))
            (then first.kept (put_within first.kept left) second.kept);
        fit =
            subst⁻¹ (λ (rs : List Record). All (λ r. fits r ≡ true) rs) (records_append xs ys)
            (all_append (λ r. fits r ≡ true) (records xs) (records ys) first.fit second.fit);
      }
