-- `Bench::zeros`: the zeros are put there only where the buffer has room for one byte more.
use mathlib.Core.Path.{◌≡◌}
use lib.ListN.{length}
use native.Mathlib.Omega.{arith}
use borrow.Author.Rules.{rules}
use Rattle.console.specs.Makes.{sizes_of}
use Rattle.console.proofs.Made.{zeros-not, zeros-made}
use Rattle.console.proofs.Bench.zeros.Goals as goal

pub returns-then-size-ge65536-clause-sizes : goal.returns-then-size-ge65536-clause-sizes
returns-then-size-ge65536-clause-sizes g c =
    let s = c.args.self.now in
    let n : length s.image.bytes ≡ 65536 = search rules in
    (zeros-not s.image.bytes (sizes_of s) c.args.size (omega arith)).0

pub returns-then-size-ge65536-clause-image : goal.returns-then-size-ge65536-clause-image
returns-then-size-ge65536-clause-image g c =
    let s = c.args.self.now in
    let n : length s.image.bytes ≡ 65536 = search rules in
    (zeros-not s.image.bytes (sizes_of s) c.args.size (omega arith)).1

pub returns-clause-sizes : goal.returns-clause-sizes
returns-clause-sizes g c =
    let s = c.args.self.now in
    let n : length s.image.bytes ≡ 65536 = search rules in
    (zeros-made s.image.bytes (sizes_of s) c.args.size _ (omega arith) (c.fill.ensures.after (λ y e. e))).0

pub returns-clause-image : goal.returns-clause-image
returns-clause-image g c =
    let s = c.args.self.now in
    let n : length s.image.bytes ≡ 65536 = search rules in
    (zeros-made s.image.bytes (sizes_of s) c.args.size _ (omega arith) (c.fill.ensures.after (λ y e. e))).1
