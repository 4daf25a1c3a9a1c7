-- `Bench::place`: the word before the blank is the place, and what follows it the bytes.
use Rattle.console.specs.Makes.{sizes_of}
use Rattle.console.proofs.Made.{place_made}
use Rattle.console.proofs.Bench.place.Goals as goal

pub returns-clause-image : goal.returns-clause-image
returns-clause-image g c =
    let s = c.args.self.now in
    place_made c.args.rest.now s.image.bytes _ (sizes_of s) _ _ _ c.first-end.ensures.0 c.after-start.ensures.0 c.len-n.ensures.0 c.overwrite.ensures
