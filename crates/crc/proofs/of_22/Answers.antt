-- `crc::of_22` meets its contract: eight bytes, eight, and six of which the last two are 0. Assumes nothing.
use mathlib.Core.Path.{◌∙◌, ap}
use Prim.Native.Nat.{◌+◌}
use native.Mathlib.Omega.{arith}
use borrow.Author.Rules.{rules}
use lib.ListN.{take}
use Rattle.std.proofs.lemmas.List.{take_rest}
use Rattle.crc.specs.Little.{little}
use Rattle.crc.proofs.Parts.{twenty-two}
use Rattle.crc.proofs.of_22.Goals as goal

pub returns : goal.returns
returns c =
    let s = c.args.s.now in
    let i = c.args.i in
    let v = c.word in
    let w = c.word-2 in
    let q = c.word-3 in
    twenty-two s i (λ k. search rules) c.requires.0
    v.result w.result q.result c.carried-a.result c.carried-b.result c.after.result (omega arith) (omega arith)
    (v.ensures.0 ∙ ap (λ l. little (take 8 l)) (take_rest s i)) (w.ensures.0 ∙ ap (λ l. little (take 8 l)) (take_rest s (i + 8)))
    (q.ensures.0 ∙ ap (λ l. little (take 4 l)) (take_rest s (i + 16))) c.requires.1 c.carried-a.ensures c.carried-b.ensures c.after.ensures.0
