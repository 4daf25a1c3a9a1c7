-- `copy::copy_block` meets its contract: each number is saved where it was loaded, and the four parts that follow each other are one. Assumes nothing.
use native.Mathlib.Omega.{arith}
use Rattle.readticket.proofs.Blocks.{pasted-next}
use Rattle.readticket.proofs.copy.copy_block.Goals as goal

pub returns : goal.returns
returns c =
    let p = c.requires in
    let more = pasted-next c.args.from.now c.args.to.now c.args.at in
    rw (c.save-4.ensures, c.load-d.ensures, c.save-3.ensures, c.load-c.ensures, c.save-2.ensures, c.load-b.ensures, c.save.ensures, c.load-a.ensures, more 8 8 (omega arith), more 16 8 (omega arith), more 24 8 (omega arith))
