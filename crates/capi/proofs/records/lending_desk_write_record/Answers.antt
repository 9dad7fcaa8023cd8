-- `lending_desk_write_record`: the bytes, and zeros behind them.
use Rattle.std.proofs.Common.{ℕ, ◌-◌, ◌≡◌, Bool, true, List, ◌++◌, length, drop, replicate, ap, ap₂, sym, ◌∙◌}
use Rattle.std.proofs.Math.Option.{Option, some}
use Rattle.arrayvec.specs.ArrayVec.{ArrayVec}
use Rattle.journal_writer.specs.Written.{bytes_put}
use Rattle.std.proofs.lemmas.List.{drop-replicate}
use Rattle.capi.specs.Records.{handed}
use Rattle.capi.specs.declared.records.Written.{Written}
use Rattle.capi.proofs.records.lending_desk_write_record.Goals as goal

abbrev handing : ℕ → List ℕ → Written
handing count bytes = record { refusal = 0; count = count; bytes = bytes }

put_said : (put : Bool) (out : ArrayVec ℕ) (w : Option (List ℕ)) → put ≡ true → bytes_put put out ≡ w
    → some out.items ≡ w
put_said put out w is said = ap (λ (b : Bool). bytes_put b out) (sym is) ∙ said

handed_back : (bytes : List ℕ) (w : Option (List ℕ)) (count : ℕ) (front : List ℕ) → some bytes ≡ w
    → count ≡ length bytes → front ≡ bytes → handing count (front ++ drop count (replicate 488 0)) ≡ handed w
handed_back bytes w count front e size put =
    ap₂ handing size (ap₂ ◌++◌ put (drop-replicate count 488 0 ∙ ap (λ k. replicate (488 - k) 0) size)) ∙ ap handed e

pub returns : goal.returns
returns c =
    handed_back c.write_into.new.out.items _ _ _
    (put_said c.write_into.result c.write_into.new.out _ c.if-not-write_into.false c.write_into.ensures.bytes)
    c.len-count.ensures.value (c.copy_from_slice.ensures.after ∙ c.as_slice.ensures.value)
