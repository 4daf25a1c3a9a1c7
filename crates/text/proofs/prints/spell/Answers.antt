-- `spell`: one more byte's two digits; and all of them are text.
use mathlib.Core.Path.{◌≡◌, ◌∙◌, ap}
use Prim.Native.Nat.{ℕ, ◌*◌, ◌<◌}
use native.Mathlib.Omega.{arith}
use borrow.Author.Rules.{rules}
use lib.ListN.{length, get_or, take}
use Rattle.std.proofs.lemmas.List.{take_all}
use Rattle.std.proofs.lemmas.Str.{IsUtf8-from_ascii}
use Rattle.text.specs.Printed.{pairs_spelled}
use Rattle.text.proofs.Printed.{pairs_put, pairs_ascii}
use Rattle.text.proofs.prints.spell.Goals as goal

pub loop-i-preserved : goal.loop-i-preserved
loop-i-preserved c =
    let k = c.loop-i in
    pairs_put c.args.bytes.now k.space k.i _ _ c.loop-i-test.true (omega (arith, k.auto.space)) c.glyph.ensures c.glyph-in-loop-i.ensures k.invariant

pub unreachable-requires : goal.unreachable-requires
unreachable-requires c =
    let bs = c.args.bytes.now in
    let k = c.loop-i in
    let all : k.i ≡ length bs = omega arith in
    let fits : (i : ℕ) → get_or bs i 0 < 256 = λ i. search (rules, c.type_inv.bytes) in
    let digits : take (2 * length bs) k.space ≡ pairs_spelled bs = rw all at k.invariant ∙ ap pairs_spelled (take_all (length bs) bs (omega arith)) in
    c.in_default.ensures.cases.0 (rw digits (IsUtf8-from_ascii (pairs_spelled bs) (pairs_ascii bs fits)))
