use Rattle.std.proofs.Common.{rules, refl, arith}
use Rattle.std.proofs.lemmas.Iterator.{cases_from_all, YieldsList-from_range}
use mathlib.Core.Logic.Iff
use Rattle.entry_log.specs.Log.{EntryAdmitted}
use Rattle.entry_log.specs.Laws.Checks.{each_decided}
use Rattle.entry_log.specs.Laws.Fitting.{each_fits}
use Rattle.entry_log.proofs.fits.Goals as goal

pub returns : goal.returns
returns c =
    let book = c.args.book.now in
    let n = c.entry_count.result in
    Iff.trans
    (each_decided (EntryAdmitted book) n c.all.result
    (cases_from_all _ _ _ (EntryAdmitted book) (λ i. EntryAdmitted book i → ⊥) c.all.ensures.ran
    (YieldsList-from_range 0 n n refl (omega arith)) (λ x q k. search rules) (λ x q k. search rules)))
    (each_fits book n c.entry_count.ensures)
