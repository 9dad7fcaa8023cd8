-- `recording::widened`: the bytes passed stand at the front.
use Rattle.std.proofs.Common.{◌∙◌, arith, take_all, length-set}
use Rattle.journal.proofs.Laws.Fronts.{front_first_taken}
use Rattle.recording.specs.Laws.Arrays.{byte_put}
use Rattle.recording.proofs.widened.Goals as goal

pub loop-i-preserved : goal.loop-i-preserved
loop-i-preserved g c =
    let loop = c.loop-i in
    record {
      long = length-set loop.numbers loop.i _ ∙ loop.invariant.long;
      front =
          rw c.from.ensures (byte_put c.args.bytes.now loop.numbers loop.i loop.invariant.front c.loop-i-test.true
          (omega arith));
    }

pub returns : goal.returns
returns g c =
    let loop = c.loop-i in
    front_first_taken loop.i c.args.bytes.now loop.numbers (omega arith)
    (loop.invariant.front ∙ take_all loop.i c.args.bytes.now (omega arith))
