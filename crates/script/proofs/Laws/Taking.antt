-- A block taken line by line.
use Rattle.std.specs.Prelude.{ℕ, suc, ◌+◌, ◌-◌, ◌≤◌, ◌<◌, ◌≡◌, Bool, true, false, ◌↔◌, ltb, length, take, drop, min}
use Rattle.std.specs.Prelude.{get_or}
use Prim.Native.Char.{code}
use Rattle.std.proofs.Common.{sym, ap₂, ◌∙◌, subst, inl, inr, ⊎_elim, eq-zero-or-pos, arith, ltb-true, ltb-false}
use Rattle.std.proofs.Common.{length-drop, drop-drop, take_all, take-add, take-suc, length-take-le}
use Rattle.std.proofs.Common.{drop-cons}
use Rattle.std.proofs.Math.Path.{ap, subst⁻¹}
use Rattle.std.proofs.lemmas.Bool.{false≢true}
use mathlib.Core.List.{List, [], ◌∷◌, ◌++◌}
use borrow.Table.Steps.{cases}
use Rattle.std.proofs.Math.Seq.{take-append-add}
use Rattle.text.specs.Finding.{slice, index_of}
use Rattle.text.specs.Fields.{Put}
use Rattle.text.proofs.Laws.Putting.{front, length_put}
use Rattle.text.proofs.Laws.Splitting.{Separated, separated}
use Rattle.text.proofs.Laws.Lines.{Without, front_without}
use Rattle.journal.specs.Records.{file}
use Rattle.dispatch.specs.Served.{LineServed, line_served}
use Rattle.script.specs.declared.Ends.{Ends}
use Rattle.script.specs.Script.{texts, records, as_lines}
use Rattle.script.specs.Sessions.{Session, session, Turn, turn, behind, line_ended, taken}
use Rattle.script.specs.Feeding.{LinePut, Issued, chunk, Kept, Room, Took, begun, Stopped}
use Rattle.script.proofs.Laws.Issuing.{issued_nothing, issued_line, issued_then, put_length}
use Rattle.script.proofs.Laws.Reading.{taken_append, taken_part}
use Rattle.script.specs.declared.Progress.{Progress}

-- ---- Keeping a line

-- As much of a part is kept as there is room for.
pub kept_part : (line : List ℕ) (kept : ℕ) (part : List ℕ) → length line ≡ 717 → kept ≤ 717 → {after : List ℕ}
    {count end : ℕ} → count ≡ min (length part) (717 - kept) → Put line kept (take count part) after end
    → Kept (take kept line) part after end
kept_part line kept part size few {after} {count} counted put =
    let room : ℕ = 717 - kept in
    let some : length (take count part) ≡ count = length-take-le count part (omega arith) in
    let fits : kept + length (take count part) ≤ length line = omega arith in
    let head : length (take kept line) ≡ kept = length-take-le kept line (omega arith) in
    let whole : length (take kept line) + room ≡ 717 = omega arith in
    let same : take count part ≡ take room part =
    cases (ltb room (length part))
    (λ e. let less = ltb-true room (length part) e in
    let all : count ≡ room = omega arith in ap (λ (n : ℕ). take n part) all)
    (λ e. let more = ltb-false room (length part) e in
    take_all count part (omega arith) ∙ sym (take_all room part more)) in (
      (ap length put.buffer ∙ length_put line kept (take count part) fits ∙ size, omega (arith, put.behind)),
      ap₂ take put.behind put.buffer ∙ front line kept (take count part) fits
          ∙ ap (λ (l : List ℕ). take kept line ++ l) same
          ∙ sym (take-append-add (take kept line) part room)
          ∙ ap (λ (n : ℕ). take n (take kept line ++ part)) whole,
    )

-- ---- A line of a block

module _ (w line block : List ℕ) (at : ℕ) (few : length line ≤ 717) (within : at ≤ length block) (end : ℕ)
    (found : end ≡ at + index_of (code "\n") (slice at (length block) block)) where
  abbrev rest : List ℕ
  rest = drop at block

  place : end - at ≡ index_of (code "\n") rest
  place =
      let all : index_of (code "\n") (drop at (take (length block) block)) ≡ index_of (code "\n") rest =
      ap (λ (l : List ℕ). index_of (code "\n") (drop at l)) (take_all (length block) block (omega arith)) in
      omega (arith, found, all)

  abbrev longer : List ℕ
  longer = take 717 (line ++ chunk block at end)

  taken_chunk : taken (session w line) (chunk block at end) ≡ turn (session w longer) []
  taken_chunk =
      taken_part w line (chunk block at end) few
      (subst⁻¹ (λ (n : ℕ). Without (code "\n") (take n rest)) place (front_without (code "\n") rest))

  ends : end < length block → get_or rest (end - at) 0 ≡ code "\n"
  ends more =
      let there : end - at < length rest = omega (arith, length-drop at block, found) in
      subst (Separated (code "\n")) (drop-cons rest (end - at) 0 there)
      (subst⁻¹ (λ (n : ℕ). Separated (code "\n") (drop n rest)) place (separated (code "\n") rest))

  taken_line : end < length block → taken (session w line) (chunk block at (end + 1)) ≡ line_ended (session w longer)
  taken_line more =
      let there : end - at < length rest = omega (arith, length-drop at block, found) in
      let next : end + 1 - at ≡ suc (end - at) = omega (arith, found) in
      let bytes : chunk block at (end + 1) ≡ chunk block at end ++ (code "\n" ∷ []) =
      ap (λ (n : ℕ). take n rest) next ∙ take-suc rest (end - at) 0 there
      ∙ ap (λ (b : ℕ). chunk block at end ++ (b ∷ [])) (ends more) in
      ap (taken (session w line)) bytes
      ∙ taken_append (session w line) (chunk block at end) (code "\n" ∷ [])
      ∙ ap (λ (t : Turn). behind t.ended (taken t.after (code "\n" ∷ []))) taken_chunk

-- ---- What `take_line` leaves

module _ (w line block out journal : List ℕ) (from : Progress) (few : from.kept ≤ 717) (size : length line ≡ 717)
    (more : from.at < length block) (room : Room out journal from) (end : ℕ)
    (found : end ≡ from.at + index_of (code "\n") (slice from.at (length block) block)) where
  abbrev held_back : List ℕ
  held_back = take from.kept line

  abbrev s : Session
  s = session w held_back

  short : length held_back ≤ 717
  short = omega (arith, length-take-le from.kept line (omega arith))

  module _ (line₁ : List ℕ) (kept : ℕ) (held : Kept held_back (chunk block from.at end) line₁ kept) where
    pub took_rest : end ≡ length block
        → Took s block from w line₁ out out journal journal
        (record { at = end; kept = kept; written = from.written; recorded = from.recorded })
        × (from.at < end)
    took_rest whole =
        let to_end : taken s (chunk block from.at end) ≡ turn (session w (take kept line₁)) [] =
        taken_chunk w held_back block from.at short (omega arith) end found
        ∙ ap (λ (l : List ℕ). turn (session w l) []) (sym held.1) in (
          record {
            forward = omega arith;
            within = omega arith;
            few = held.0.1;
            left = ap (λ (t : Turn). t.after) to_end;
            issued =
                subst⁻¹ (λ (t : Turn).
                Issued t.ended out from.written out from.written journal from.recorded journal
                from.recorded)
                to_end (issued_nothing out from.written journal from.recorded);
            fits = (omega (arith, room.0), omega (arith, room.1));
          },
          omega arith,
        )

    pub took_line : end < length block → {book printed recorded : List ℕ} {ends : Ends}
        → LinePut (line_served w (take kept line₁)) book out from.written printed journal from.recorded recorded
        ends
        → Took s block from book line₁ out printed journal recorded
        (record { at = end + 1; kept = 0; written = ends.written; recorded = ends.recorded })
        × (from.at < end + 1)
    took_line inside {book} {printed} {recorded} {ends} said =
        let to-line : taken s (chunk block from.at (end + 1)) ≡ line_ended (session w (take kept line₁)) =
        taken_line w held_back block from.at short (omega arith) end found inside
        ∙ ap (λ (l : List ℕ). line_ended (session w l)) (sym held.1) in (
          record {
            forward = omega (arith, found);
            within = omega arith;
            few = omega arith;
            left = ap (λ (t : Turn). t.after) to-line ∙ ap (λ (b : List ℕ). session b []) (sym said.left);
            issued =
                subst⁻¹ (λ (t : Turn).
                Issued t.ended out from.written printed ends.written journal from.recorded recorded
                ends.recorded)
                to-line (issued_line said);
            fits = (omega (arith, said.few, room.0), omega (arith, said.short, room.1));
          },
          omega (arith, found),
        )

-- ---- What `feed` leaves

module _ {s : Session} {block : List ℕ} {from : Progress} {book line out printed journal recorded : List ℕ}
    {to : Progress} (first : Took s block from book line out printed journal recorded to)
    {book₁ line₁ printed₁ recorded₁ : List ℕ} {on : Progress}
    (second : Took (session book (take to.kept line)) block to book₁ line₁ printed printed₁ recorded recorded₁ on)
  where
    abbrev ended : List LineServed
    ended = (taken s (chunk block from.at to.at)).ended

    pub took_more : Took s block from book₁ line₁ out printed₁ journal recorded₁ on
    took_more =
        let whole : on.at - from.at ≡ (to.at - from.at) + (on.at - to.at) =
        omega (arith, first.forward, second.forward) in
        let bytes : chunk block from.at on.at ≡ chunk block from.at to.at ++ chunk block to.at on.at =
        let start : from.at + (to.at - from.at) ≡ to.at = omega (arith, first.forward) in
        ap (λ (n : ℕ). take n (drop from.at block)) whole
        ∙ take-add (to.at - from.at) (on.at - to.at) (drop from.at block)
        ∙ ap (λ (l : List ℕ). chunk block from.at to.at ++ take (on.at - to.at) l)
        (drop-drop (to.at - from.at) from.at block ∙ ap (λ (n : ℕ). drop n block) start) in
        let both : taken s (chunk block from.at on.at)
        ≡ behind ended (taken (session book (take to.kept line)) (chunk block to.at on.at)) =
        ap (taken s) bytes ∙ taken_append s (chunk block from.at to.at) (chunk block to.at on.at)
        ∙ ap (λ (x : Session). behind ended (taken x (chunk block to.at on.at))) first.left in
        record {
          forward = omega (arith, first.forward, second.forward);
          within = second.within;
          few = second.few;
          left = ap (λ (t : Turn). t.after) both ∙ second.left;
          issued =
              subst⁻¹ (λ (t : Turn).
              Issued t.ended out from.written printed₁ on.written journal from.recorded recorded₁
              on.recorded)
              both (issued_then first.issued second.issued first.fits.0 first.fits.1);
          fits = (
            omega (arith, second.fits.0, put_length first.issued.put first.fits.0),
            omega (arith, second.fits.1, put_length first.issued.kept first.fits.1),
          );
        }

pub stopped : (block out journal : List ℕ) (p : Progress) {goes : Bool}
    → (goes ≡ true)
    ↔ ((p.at < length block) × (p.written + 359 ≤ length out) × (p.recorded + 488 ≤ length journal))
    → goes ≡ false → p.at ≤ length block → Stopped block out journal p
stopped block out journal p told ends within =
    cases (ltb p.at (length block))
    (λ e. inr (λ room. false≢true (sym ends ∙ told.1 (ltb-true p.at (length block) e, room.0, room.1))))
    (λ e. inl (omega (arith, ltb-false p.at (length block) e)))

-- Where there are bytes to take, and room for a line's reply and record, some are taken.
pub took_some : {s : Session} {block book line out printed journal recorded : List ℕ} {kept : ℕ} {p : Progress}
    → Took s block (begun kept) book line out printed journal recorded p
    → Stopped block printed recorded p → 0 < length block → 359 ≤ length out → 488 ≤ length journal → 0 < p.at
took_some so (inl all) some room left = omega arith
took_some {s} {block} {p = p} so (inr full) some room left =
    ⊎_elim
    (λ (none : p.at ≡ 0). absurd (
    let nothing-taken : (taken s (chunk block 0 p.at)).ended ≡ [] =
    ap (λ (n : ℕ). (taken s (chunk block 0 n)).ended) none in
    let nothing-printed : length (as_lines (texts (taken s (chunk block 0 p.at)).ended)) ≡ 0 =
    ap (λ (l : List LineServed). length (as_lines (texts l))) nothing-taken in
    let nothing-kept : length (file (records (taken s (chunk block 0 p.at)).ended)) ≡ 0 =
    ap (λ (l : List LineServed). length (file (records l))) nothing-taken in
    full (
      omega (arith, nothing-printed, so.issued.put.behind, put_length so.issued.put so.fits.0),
      omega (arith, nothing-kept, so.issued.kept.behind, put_length so.issued.kept so.fits.1),
    )))
    (λ (l : 0 < p.at). l) (eq-zero-or-pos p.at)
