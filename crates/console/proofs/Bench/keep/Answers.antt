-- `Bench::keep`: as much is copied as the image has.
use mathlib.Core.Path.{◌≡◌}
use lib.ListN.{length}
use borrow.Author.Rules.{rules}
use Rattle.console.specs.Makes.{sizes_of}
use Rattle.console.proofs.Made.{keep_made}
use Rattle.console.proofs.Bench.keep.Goals as goal

pub returns-clause-kept : goal.returns-clause-kept
returns-clause-kept g c =
    let s = c.args.self.now in
    let e : length s.image.bytes ≡ length s.kept.bytes = search rules in
    keep_made s.image.bytes s.kept.bytes _ (sizes_of s) _ c.len-n.ensures.0 e c.lay.ensures
