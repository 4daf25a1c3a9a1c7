-- `Bench::answer`: the line's command is obeyed, with its numbers and what follows its first word; a question mark changes nothing.
use mathlib.Core.Path.{refl}
use Rattle.console.specs.Makes.{sizes_of}
use Rattle.console.proofs.Obeyed.{of_line}
use Rattle.console.proofs.Bench.answer.Goals as goal

pub returns-then-is_none : goal.returns-then-is_none
returns-then-is_none g c =
    let s = c.args.self.now in
    let d = c.obey-done.new.self in
    let o = c.of_line-read.ensures.read in
    let r = of_line _ _ c.args.line.now _ s.image.bytes s.kept.bytes (sizes_of s) (sizes_of d) d.image.bytes d.kept.bytes s.buffer d.buffer _ c.after-start.result c.first-end.ensures.0 c.after-start.ensures.0 o.0 o.2 refl (c.obey-done.ensures.held, c.obey-done.ensures.lent) in
    record { held = r.0; lent = r.1 }

pub returns-else-is_none : goal.returns-else-is_none
returns-else-is_none g c =
    let s = c.args.self.now in
    let d = c.obey-done.new.self in
    let o = c.of_line-read.ensures.read in
    let r = of_line _ _ c.args.line.now _ s.image.bytes s.kept.bytes (sizes_of s) (sizes_of d) d.image.bytes d.kept.bytes s.buffer d.buffer _ c.after-start.result c.first-end.ensures.0 c.after-start.ensures.0 o.0 o.2 refl (c.obey-done.ensures.held, c.obey-done.ensures.lent) in
    record { held = r.0; lent = r.1 }
