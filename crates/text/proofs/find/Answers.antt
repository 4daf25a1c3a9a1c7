-- `text::find`: the library's first place.
use mathlib.Core.Path.{◌≡◌}
use lib.Dec.{eqb}
use Rattle.std.specs.List.{position}
use Rattle.text.proofs.Found.{found}
use Rattle.text.proofs.find.Goals as goal

pub returns : goal.returns
returns c =
    let a = c.args in
    let e : c.place.result ≡ position (λ x. eqb x a.b) a.s.now = c.place.ensures in
    let f = found a.b a.s.now c.place.result e in
    rw c.unwrap_or.ensures (f.0, rw f.0 f.1)
