-- What the program's calls print.
use Rattle.std.specs.Prelude.{ℕ, ◌≤◌, ◌≡◌, refl, true, length, take, drop}
use Rattle.std.proofs.Common.{sym, ap, ap₂, ◌∙◌, arith, take-append-drop}
use Rattle.std.proofs.Math.Path.{subst⁻¹}
use mathlib.Core.List.{List, ◌++◌, append_assoc, flatten}
use Rattle.std.proofs.Math.Nat.{sub-zero}
use Rattle.text.specs.Fields.{Put}
use Rattle.text.proofs.Laws.Putting.{front}
use Rattle.operations.specs.Operations.{All}
use Rattle.operations.proofs.Laws.Cases.{all_append}
use Rattle.journal.specs.Records.{Record, file, fits}
use Rattle.dispatch.specs.Served.{LineServed}
use Rattle.script.specs.Script.{texts, records, as_lines}
use Rattle.script.specs.Sessions.{Session, session, Turn, behind, taken}
use Rattle.script.specs.Feeding.{Issued, chunk, Took, begun, Fed, waits, reads, feeds}
use Rattle.script.proofs.Laws.Reading.{taken_append}
use Rattle.script.proofs.Laws.Lines.{texts_append, records_append, file_append}
use Rattle.script.specs.declared.Progress.{Progress}

-- What was put into a buffer stands at its front.
pub front_put : {out text after : List ℕ} {end : ℕ} → Put out 0 text after end → end ≤ length out
    → take end after ≡ text
front_put {out} {text} put fits = ap₂ take put.behind put.buffer ∙ front out 0 text (omega (arith, put.behind))

-- A call of `feed`, with more to come.
module _ {s : Session} {block book line out printed journal recorded : List ℕ} {kept : ℕ} {p : Progress}
    (took : Took s block (begun kept) book line out printed journal recorded p) where
  abbrev took_ended : List LineServed
  took_ended = (taken s (chunk block 0 p.at)).ended

  took_front : (more : List ℕ)
      → taken s (block ++ more)
      ≡ behind took_ended (taken (session book (take p.kept line)) (drop p.at block ++ more))
  took_front more =
      let rest : List ℕ = drop p.at block ++ more in
      let bytes : block ++ more ≡ chunk block 0 p.at ++ rest =
      ap (λ (l : List ℕ). l ++ more) (sym (take-append-drop p.at block))
      ∙ append_assoc (take p.at block) (drop p.at block) more
      ∙ ap (λ (n : ℕ). take n block ++ rest) (sym (sub-zero p.at)) in
      ap (taken s) bytes
      ∙ taken_append s (chunk block 0 p.at) rest
      ∙ ap (λ (x : Session). behind took_ended (taken x rest)) took.left

-- What the program printed and appended is what these lines issue, and their records fit.
pub record Through (served : List LineServed) (printed appended : List ℕ) : Type 0 where
  pub output : printed ≡ as_lines (texts served)
  pub journal : appended ≡ file (records served)
  pub fit : All (λ r. fits r ≡ true) (records served)

through_both : {xs ys : List LineServed} {printed appended printed₁ appended₁ : List ℕ} → Through xs printed appended
    → Through ys printed₁ appended₁ → Through (xs ++ ys) (printed ++ printed₁) (appended ++ appended₁)
through_both {xs} {ys} first second =
    record {
      output = ap₂ ◌++◌ first.output second.output ∙ sym (texts_append xs ys);
      journal =
          ap₂ ◌++◌ first.journal second.journal
          ∙ sym (ap file (records_append xs ys) ∙ file_append (records xs) (records ys));
      fit =
          subst⁻¹ (λ (rs : List Record). All (λ r. fits r ≡ true) rs) (records_append xs ys)
          (all_append (λ r. fits r ≡ true) (records xs) (records ys) first.fit second.fit);
    }

-- What was issued at the fronts of buffers is appended and printed.
issued_fronts : {served : List LineServed} {out after journal kept : List ℕ} {end last : ℕ}
    → Issued served out 0 after end journal 0 kept last → end ≤ length out → last ≤ length journal
    → Through served (take end after) (take last kept)
issued_fronts issued room space =
    record {
      output = front_put issued.put room;
      journal = front_put issued.kept space;
      fit = issued.fit;
    }

pub issued_behind : {xs served : List LineServed} {printed appended out after journal kept : List ℕ} {end last : ℕ}
    → Through xs printed appended → Issued served out 0 after end journal 0 kept last → end ≤ length out
    → last ≤ length journal → Through (xs ++ served) (printed ++ take end after) (appended ++ take last kept)
issued_behind through issued room space = through_both through (issued_fronts issued room space)

-- The calls of `feed` leave the session that the bytes leave, and issue what they issue.
pub record FedThrough (t : Turn) (printed appended : List ℕ) (left : Session) : Type 0 where
  pub after : t.after ≡ left
  pub through : Through t.ended printed appended

pub fed_taken : {s left : Session} {block printed appended : List ℕ} {blocks : List (List ℕ)}
    → Fed s block blocks printed appended left
    → FedThrough (taken s (block ++ flatten blocks)) printed appended left
unfolding flatten
fed_taken waits = record { after = refl; through = record { output = refl; journal = refl; fit = tt } }
fed_taken (reads others) = fed_taken others
fed_taken {left = left} {printed = all-printed} {appended = all-appended} {blocks = blocks} (feeds took others) =
    let rest = fed_taken others in
    subst⁻¹ (λ (t : Turn). FedThrough t all-printed all-appended left) (took_front took (flatten blocks))
    (record {
      after = rest.after;
      through = through_both (issued_fronts took.issued took.fits.0 took.fits.1) rest.through;
    })
