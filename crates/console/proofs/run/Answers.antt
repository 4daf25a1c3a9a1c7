-- `console::run`: the input's buffer begins with zeros, and nothing is kept.
use Rattle.console.specs.Makes.{sizes_of}
use Rattle.console.proofs.Obeyed.{ran}
use Rattle.console.proofs.run.Goals as goal

pub returns : goal.returns
returns g c =
    let a = c.args in
    let d = c.answers.new.self in
    ran a.all a.size a.image d.image.bytes _ _ _ d.kept.bytes (sizes_of d) c.room-input.ensures c.answers.ensures
