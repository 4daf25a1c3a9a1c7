-- `crc::word` meets its contract. The loop's invariant: the number is that of the bytes passed. Assumes nothing.
use mathlib.Core.Path.{◌≡◌, refl}
use Prim.Native.Nat.{◌+◌, ◌*◌, ◌%◌, ◌^◌, ◌≤◌}
use native.Mathlib.Omega.{arith}
use borrow.Author.Rules.{rules}
use lib.ListN.{take, length-take}
use lib.Pow.{pow_mono}
use Rattle.crc.specs.Little.{little}
use Rattle.crc.proofs.Parts.{little_next, little-lt}
use Rattle.crc.proofs.word.Goals.{After-from}
use Rattle.crc.proofs.word.Given.{Over}
use Rattle.crc.proofs.word.Goals as goal

pub loop-k-init : goal.loop-k-init
unfolding little
loop-k-init g c = refl

added : (g : Over) (c : After-from g) → c.loop-k.x + c.from.result * 2 ^ (8 * c.loop-k.k) % 2 ^ 64 ≡ little (take (c.loop-k.k + 1) c.args.s.now)
added g c =
    let s = c.args.s.now in
    let l = c.loop-k in
    rw l.invariant
    (little_next g.row.N s l.k c.from.result (λ i. search rules) (omega arith) (omega arith) (omega (arith, length-take g.row.N s)) c.from.ensures)

pub overflow_add-x : goal.overflow_add-x
overflow_add-x g c =
    let k = c.loop-k.k in
    let s = c.args.s.now in
    let n : 8 * (k + 1) ≤ 64 = omega (arith, length-take g.row.N s) in
    omega (arith, added g c, little-lt (k + 1) s (λ i. search rules), pow_mono n)

pub loop-k-preserved : goal.loop-k-preserved
loop-k-preserved g c = added g c

pub returns : goal.returns
returns g c =
    let s = c.args.s.now in
    let e : c.loop-k.k ≡ g.row.N = omega (arith, length-take g.row.N s) in
    let h = rw e at c.loop-k.invariant in
    (h, rw h (little-lt g.row.N s (λ i. search rules)))
