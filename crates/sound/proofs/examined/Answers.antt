-- Each clause that fails refuses the book, and where all hold it is sound.
use Rattle.std.proofs.Common.{refl, sym, true≢false}
use Rattle.std.proofs.lemmas.Bool.{not-false}
use mathlib.Core.Logic.Iff
use Rattle.operations.proofs.Laws.Cases.{denied}
use Rattle.store.specs.Layout.{base, decode}
use Rattle.store.specs.Soundness.{Sound}
use Rattle.entry_log.specs.Laws.Packing.{bounded_packed}
use Rattle.sound.specs.Laws.{acyclic_said, dependent_said}
use Rattle.sound.proofs.examined.Goals as goal

pub returns-then-not-answered-clause-sound : goal.returns-then-not-answered-clause-sound
returns-then-not-answered-clause-sound c = (
  λ e. absurd (true≢false (sym e)),
  λ (s : Sound base c.args.book.now).
      let store = decode base c.args.book.now in
      let all = s.store.unsettled in
      let finished = c.statuses-summary.result.finished in
      let members = c.statuses-summary.ensures.1 in
      absurd (elim c.then-not-answered.branch [
        | goal.then-not-answered-via-then-not-answered v ↦
            denied c.answered.ensures v.if-not-answered.true (all.room, all.answered)
        | goal.then-not-answered-via-else-not-answered+then-not-conflicts v ↦
            denied v.conflicts.ensures.0 v.if-not-conflicts.true all.recoverable
        | goal.then-not-answered-via-else-not-answered+else-not-conflicts+then-not-acyclic v ↦
            denied (Iff.trans v.acyclic.ensures (acyclic_said store _ finished v.conflicts.ensures.2 members))
            v.if-not-acyclic.true all.acyclic
        | goal.then-not-answered-via-else-not-answered+else-not-conflicts+else-not-acyclic+then-not-dependent v ↦
            denied (Iff.trans v.dependent.ensures
            (dependent_said store _ finished v.conflicts.ensures.2 members all.live))
            v.if-not-dependent.true s.store.dependent
      ]),
)

pub returns-clause-sound : goal.returns-clause-sound
returns-clause-sound c =
    let store = decode base c.args.book.now in
    let finished = c.statuses-summary.result.finished in
    let members = c.statuses-summary.ensures.1 in
    let bounded = c.bounded.ensures.0 c.if-not-bounded.false in
    let fits = c.fits.ensures.0 c.if-not-fits.false in
    let answers = c.answered.ensures.0 c.if-not-answered.false in
    let ranks = c.statuses-summary.ensures.2.0 (not-false _ c.if-not-summary.false) in (
      λ e. record {
        packed = bounded_packed _ bounded.words bounded.objects bounded.log fits.as_stored;
        store = record {
          unsettled = record {
            rows = c.formed.ensures.0 c.if-not-formed.false;
            live = fits.live;
            fits = fits.fits;
            reduced = fits.reduced;
            recoverable = c.conflicts.ensures.0.0 c.if-not-conflicts.false;
            answered = answers.1;
            room = answers.0;
            once = ranks.0;
            gapless = ranks.1;
            acyclic = (acyclic_said store _ finished c.conflicts.ensures.2 members).0
                (c.acyclic.ensures.0 c.if-not-acyclic.false);
          };
          dependent = (dependent_said store _ finished c.conflicts.ensures.2 members fits.live).0
              (c.dependent.ensures.0 c.if-not-dependent.false);
        };
      },
      λ s. refl,
    )
