-- `feed::next`, by its cases: a line end, the rest of a line that is passed over, a full buffer, a read after the bytes held.
use mathlib.Core.Path.{◌≡◌}
use mathlib.Core.Bool.{false}
use mathlib.Core.List.{List}
use Prim.Native.Nat.{ℕ, ◌+◌, ◌-◌}
use native.Mathlib.Omega.{arith}
use lib.ListN.{take, drop}
use Rattle.text.specs.Bytes.{index_of, slice}
use Rattle.text.specs.Lines.{moved, Reading}
use Rattle.text.proofs.Turns.{turn-whole, turn-passed, turn-full, turn-read}
use Rattle.text.proofs.feed.next.Goals as goal

-- the first line end of a part
end_at : (b : List ℕ) (p e n : ℕ) → n ≡ index_of 10 (take (e - p) (drop p b)) → p + n ≡ p + index_of 10 (slice p e b)
unfolding slice
end_at b p e n h = rw h

pub returns-then-end-filled : goal.returns-then-end-filled
returns-then-end-filled g c =
    rw c.then_some.ensures (turn-whole c.args.input.now c.args.f c.min-filled.result c.min-at.result (c.min-at.result + c.find.result) c.min-filled.ensures c.min-at.ensures (end_at c.args.input.now c.min-at.result c.min-filled.result _ c.find.ensures.0) (omega arith))

pub returns-then-f : goal.returns-then-f
returns-then-f g c =
    turn-passed c.args.input.now c.args.f c.min-filled.result c.min-at.result (c.min-at.result + c.find.result) c.min-filled.ensures c.min-at.ensures (end_at c.args.input.now c.min-at.result c.min-filled.result _ c.find.ensures.0) (omega arith) c.more.new.input c.more.result c.if-f.true c.more.ensures

pub returns-then-held-input : goal.returns-then-held-input
returns-then-held-input g c =
    let n = c.min-filled.result - c.min-at.result in
    let d : c.shift-held.new.input ≡ moved c.min-at.result n c.args.input.now = c.shift-held.ensures.1 in
    rw d (turn-full c.args.input.now c.args.f c.min-filled.result c.min-at.result (c.min-at.result + c.find.result) c.min-filled.ensures c.min-at.ensures (end_at c.args.input.now c.min-at.result c.min-filled.result _ c.find.ensures.0) (omega arith) c.if-f.false (omega arith))

pub returns : goal.returns
returns g c =
    let n = c.min-filled.result - c.min-at.result in
    let d : c.shift-held.new.input ≡ moved c.min-at.result n c.args.input.now = c.shift-held.ensures.1 in
    let m : c.shift-held.result ≡ n = c.shift-held.ensures.0 in
    let q : Reading c.shift-held.new.input c.shift-held.result false c.more-2.new.input c.more-2.result = c.more-2.ensures in
    turn-read c.args.input.now c.args.f c.min-filled.result c.min-at.result (c.min-at.result + c.find.result) c.min-filled.ensures c.min-at.ensures (end_at c.args.input.now c.min-at.result c.min-filled.result _ c.find.ensures.0) (omega arith) c.if-f.false c.more-2.new.input c.more-2.result (λ x. omega arith) (rw (d, m) at q)
