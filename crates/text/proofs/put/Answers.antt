-- `text::put`: a text that fits is copied into the buffer from its place on.
use Prim.Native.Nat.{◌+◌, ◌≤◌}
use native.Mathlib.Omega.{arith}
use lib.ListN.{length}
use Rattle.text.proofs.Room.{room, no_room, placed}
use Rattle.text.proofs.put.Goals as goal

pub returns-then-out-at : goal.returns-then-out-at
returns-then-out-at c = no_room _ _ _ (omega arith)

pub returns-then-out-at-2 : goal.returns-then-out-at-2
returns-then-out-at-2 c = no_room _ _ _ (omega arith)

pub returns : goal.returns
returns c =
    let a = c.args in
    let h : a.at + length a.text.now ≤ length a.out.now = omega arith in
    ((room a.out.now a.at a.text.now h).0, placed a.out.now a.text.now _ a.at h c.copy_from_slice.ensures.after)
