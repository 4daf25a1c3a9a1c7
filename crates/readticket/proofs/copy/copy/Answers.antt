-- `copy::copy` meets its contract: each block begins where the bytes before it are copied, and the last one ends with the slice. Assumes nothing.
use mathlib.Core.Path.{◌≡◌, ap, ◌∙◌}
use native.Mathlib.Omega.{arith}
use Prim.Native.Nat.{◌+◌}
use lib.ListN.{length}
use Rattle.readticket.proofs.Blocks.{Begun, begun-none, begun_more, begun-last}
use Rattle.readticket.proofs.copy.copy.Goals.{After-copy_block, After-copy_block-2}
use Rattle.readticket.proofs.copy.copy.Goals as goal

-- after the first block of a turn
first : (c : After-copy_block) → Begun c.args.from.now c.copy_block.new.to (c.loop-i.i + 32)
first c =
    let l = c.loop-i in
    rw c.copy_block.ensures (begun_more l.i 32 (omega arith) l.invariant (omega arith))

-- after the last block but one
next-to-last : (c : After-copy_block-2) → Begun c.args.from.now c.copy_block-2.new.to (c.saturating_sub.result + 32)
next-to-last c =
    let l = c.loop-i in
    rw c.copy_block-2.ensures (begun_more c.saturating_sub.result 32 (omega arith) l.invariant (omega arith))

pub loop-i-init : goal.loop-i-init
loop-i-init c = begun-none _ _ c.requires.0

pub copy_block-requires-in-loop-i : goal.copy_block-requires-in-loop-i
copy_block-requires-in-loop-i c = let f = first (goal.at.copy_block-requires-in-loop-i c).After-copy_block in (omega arith, omega arith)

pub loop-i-preserved : goal.loop-i-preserved
loop-i-preserved c =
    let l = c.loop-i in
    let e : l.i + 32 + 32 ≡ l.i + 64 = omega arith in
    rw (c.copy_block-in-loop-i.ensures, ← e) (begun_more (l.i + 32) 32 (omega arith) (first (goal.at.loop-i-preserved c).After-copy_block) (omega arith))

pub copy_block-requires-3 : goal.copy_block-requires-3
copy_block-requires-3 c = let f = next-to-last (goal.at.copy_block-requires-3 c).After-copy_block-2 in (omega arith, omega arith)

pub returns : goal.returns
returns c =
    c.copy_block-3.ensures ∙ begun-last _ 32 (omega arith) (next-to-last (goal.at.returns c).After-copy_block-2) (λ b. (c.type_inv.from b).fits) (omega arith)

pub shape_of-to : goal.shape_of-to
shape_of-to c = ap length (returns c) ∙ c.requires.0
