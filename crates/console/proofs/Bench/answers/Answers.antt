-- `Bench::answers`: each turn answers the line that it gives, and is the last where the input has ended.
use native.Mathlib.Omega.{arith}
use Rattle.console.proofs.Obeyed.{begun, further, over, spent}
use Rattle.console.proofs.Bench.answers.Goals as goal

pub loop-turn-init : goal.loop-turn-init
loop-turn-init g c = begun _ _ _ c.none-f.ensures

pub loop-turn-preserved : goal.loop-turn-preserved
loop-turn-preserved g c =
    let l = c.loop-turn in
    let x = c.next-f in
    further _ _ l.input l.f _ l._turn l.invariant x.new.input x.result _ x.ensures c.given.ensures c.if-is_over.false

pub returns-then-is_over : goal.returns-then-is_over
returns-then-is_over g c =
    let l = c.loop-turn in
    let x = c.next-f in
    over _ _ l.input l.f _ l._turn l.invariant x.new.input x.result _ x.ensures c.given.ensures c.if-is_over.true

pub returns : goal.returns
returns g c = let l = c.loop-turn in spent _ _ _ l.f _ l._turn l.invariant (omega arith)
