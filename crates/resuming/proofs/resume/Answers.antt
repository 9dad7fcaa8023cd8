-- `resuming::resume`: the record at the place, and what the desk gives for its call.
use Rattle.std.proofs.Common.{ℕ, ◌<◌, List, get_or, Fits, w8, arith}
use Rattle.journal.specs.Coded.{record_of}
use Rattle.resuming.specs.Laws.Confirming.{stands}
use Rattle.resuming.proofs.resume.Goals as goal

small : (bytes : List ℕ) → ((i : ℕ) → Fits w8 (get_or bytes i 0)) → (i : ℕ) → get_or bytes i 0 < 256
small bytes fit i = omega (arith, fit i)

pub slice_bounds-confirms-count : goal.slice_bounds-confirms-count
slice_bounds-confirms-count c =
    let read = rw c.in-Some.is at c.in_ok-content.ensures in
    let so =
    stands c.args.bytes.now c.args.at (record_of c.in-Some.content) read.step read.within
    (small c.args.bytes.now c.type_inv.bytes) in
    omega (arith, so.onward)

pub slice_bounds-confirms-start : goal.slice_bounds-confirms-start
slice_bounds-confirms-start c =
    let read = rw c.in-Some.is at c.in_ok-content.ensures in
    let so =
    stands c.args.bytes.now c.args.at (record_of c.in-Some.content) read.step read.within
    (small c.args.bytes.now c.type_inv.bytes) in
    omega (arith, so.onward)

pub confirms-requires : goal.confirms-requires
confirms-requires c =
    let read = rw c.in-Some.is at c.in_ok-content.ensures in
    let so =
    stands c.args.bytes.now c.args.at (record_of c.in-Some.content) read.step read.within
    (small c.args.bytes.now c.type_inv.bytes) in
    (so.fit, so.are)

pub returns : goal.returns
returns c =
    let read = rw c.in-Some.is at c.in_ok-content.ensures in
    let so =
    stands c.args.bytes.now c.args.at (record_of c.in-Some.content) read.step read.within
    (small c.args.bytes.now c.type_inv.bytes) in (
      record {
        first = record_of c.in-Some.content;
        read = so.read;
        same = c.confirms.ensures.1.0 c.if-not-confirms.false;
        left = c.confirms.ensures.0;
      },
      so.onward,
      so.within,
    )
