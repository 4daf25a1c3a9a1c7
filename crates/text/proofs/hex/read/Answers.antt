-- `hex::read`: one more of the word's bytes.
use mathlib.Core.Path.{◌≡◌, sym, ap, ◌∙◌}
use mathlib.Core.List.{[]}
use Prim.Native.Nat.{◌/◌, ◌<◌}
use native.Mathlib.Omega.{arith}
use lib.ListN.{length, get_or, take, length-set, length-take}
use lib.Seq.{get_or-take}
use Rattle.text.specs.Hex.{bytes_in}
use Rattle.text.proofs.Pairs.{halved, looked, byte_at, one_more, whole}
use Rattle.text.proofs.hex.read.Goals as goal

pub loop-i-preserved : goal.loop-i-preserved
loop-i-preserved c =
    let k = c.loop-i in
    let w = c.args.word.now in
    let p = c.as_chunks.result.0.now in
    let t = c.as_chunks.ensures in
    let h = halved w in
    let n : length (take c.min-n.result p) ≡ c.min-n.result = simp length-take (omega arith) in
    let i : k.i < length w / 2 = omega (arith, t.front_len) in
    let d = looked w _ k.i _ i (get_or-take c.min-n.result p k.i [] (omega arith) ∙ ap (λ l. get_or l k.i []) t.front) c.pair.ensures in
    (simp length-set k.invariant.0, one_more (bytes_in w) _ _ k.i _ k.invariant.1 (omega arith) (omega arith) (rw (sym d) at c.unwrap_or.ensures ∙ sym (byte_at w k.i (omega arith))))

pub returns : goal.returns
returns c =
    let k = c.loop-i in
    let w = c.args.word.now in
    let t = c.as_chunks.ensures in
    let h = halved w in
    let n : length (take c.min-n.result c.as_chunks.result.0.now) ≡ c.min-n.result = simp length-take (omega arith) in
    whole (bytes_in w) _ _ k.i k.invariant.1 (omega (arith, t.front_len))
