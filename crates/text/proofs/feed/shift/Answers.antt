-- `feed::shift`: after each turn one byte more stands at the front.
use mathlib.Core.Path.{◌≡◌, refl}
use native.Mathlib.Omega.{arith}
use borrow.Author.Rules.{rules}
use Rattle.text.specs.Lines.{moved}
use Rattle.text.proofs.Turns.{moved_none, moved-one}
use Rattle.text.proofs.feed.shift.Goals as goal

pub loop-i-init : goal.loop-i-init
loop-i-init c = (refl, moved_none c.args.from c.args.input.now)

pub loop-i-preserved : goal.loop-i-preserved
loop-i-preserved c =
    let k = c.loop-i in
    let e : k.input ≡ moved c.args.from k.i c.args.input.now = k.invariant.1 in
    (search rules, rw e (moved-one c.args.from k.i c.args.input.now (omega arith)))
