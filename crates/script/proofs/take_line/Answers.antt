-- `script::take_line`: what is left of the block, or a line that ends in it.
use Rattle.std.proofs.Common.{arith}
use Rattle.script.proofs.Laws.Taking.{took_rest, took_line}
use Rattle.script.proofs.take_line.Goals as goal

pub returns-then-end-block : goal.returns-then-end-block
returns-then-end-block c =
    let a = c.args in
    took_rest a.book.now a.line.now a.block.now a.out.now a.journal.now a.from c.requires.0.1 c.requires.0.0
    c.requires.1 c.requires.2 _ c.find-end.ensures.0 _ _ c.keep-kept.ensures c.if-end-block.true

pub returns : goal.returns
returns c =
    let a = c.args in
    took_line a.book.now a.line.now a.block.now a.out.now a.journal.now a.from c.requires.0.1 c.requires.0.0
    c.requires.1 c.requires.2 _ c.find-end.ensures.0 _ _ c.keep-kept.ensures
    (omega (arith, c.find-end.ensures.1, c.if-end-block.false)) c.serve_line-ends.ensures
