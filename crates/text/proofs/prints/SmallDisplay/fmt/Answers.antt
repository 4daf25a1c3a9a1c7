-- `Small`: a blank and the number's digits follow what is written.
use mathlib.Core.List.{◌∷◌}
use Prim.Native.Nat.{◌^◌, ◌<◌}
use native.Mathlib.Numerals.{add-one}
use borrow.Author.Rules.{rules}
use lib.ListN.{get_or}
use Rattle.std.proofs.Output.{has_written_append, has_written_of_eq}
use Rattle.text.specs.Numbers.{spelled}
use Rattle.text.proofs.Printed.{spelled_decimal, each_more}
use Rattle.text.proofs.prints.SmallDisplay.fmt.Goals as goal

pub loop-b-preserved : goal.loop-b-preserved
loop-b-preserved g c p =
    let ns = c.args.self.now.0.now in
    let i = c.loop-b.b-index in
    let fits : get_or ns i 0 < 2 ^ 64 = search rules in
    has_written_of_eq _ _ _ _ _ (rw add-one (each_more ns i c.loop-b-test.true)) (has_written_append _ _ _ _ (32 ∷ spelled (get_or ns i 0)) _ (c.loop-b.invariant p) (rw (spelled_decimal (get_or ns i 0) fits) (search rules)))
