-- `feed::more`: what is read lies after the bytes held.
use lib.ListN.{length}
use Prim.Native.Nat.{◌-◌}
use native.Mathlib.Omega.{arith}
use Rattle.text.proofs.Turns.{before-part, read-ends, read-adds}
use Rattle.text.proofs.feed.more.Goals as goal

pub returns-then-n-eq0 : goal.returns-then-n-eq0
returns-then-n-eq0 g c =
    let s = c.args in
    rw c.then_some.ensures (read-ends s.input.now s.held s.passing _ (before-part s.held (length s.input.now - s.held) s.input.now c.read-n.new.into c.requires) c.requires)

pub returns : goal.returns
returns g c =
    let s = c.args in
    read-adds s.input.now s.held s.passing _ (before-part s.held (length s.input.now - s.held) s.input.now c.read-n.new.into c.requires) c.read-n.result (omega arith) (omega arith)
