-- `makes::overwrite`: the bytes are put there only where they lie within the image.
use mathlib.Core.Path.{ap}
use native.Mathlib.Omega.{arith}
use Rattle.console.specs.Makes.{place_of}
use Rattle.console.proofs.Made.{over-none, over-nowhere, over-long, over-far, over-made}
use Rattle.console.proofs.makes.overwrite.Goals as goal

pub returns-in_err-n : goal.returns-in_err-n
returns-in_err-n g c = over-none c.args.image.now c.args.word.now _ 0 0 c.in_err-n.ensures.counted (omega arith)

pub returns-in_err-from : goal.returns-in_err-from
returns-in_err-from g c = over-nowhere c.args.image.now c.args.word.now _ 0 0 (ap place_of c.in_err-from.ensures) (omega arith)

pub returns-then-image-n : goal.returns-then-image-n
returns-then-image-n g c = over-long c.args.image.now c.args.word.now _ 0 _ c.in_ok-n.ensures.counted c.if-image-n.true

pub returns-then-image-n-2 : goal.returns-then-image-n-2
returns-then-image-n-2 g c =
    over-far c.args.image.now c.args.word.now _ _ _ (ap place_of c.in_ok-from.ensures) c.in_ok-n.ensures.counted (omega arith) c.if-image-n-2.true

pub returns : goal.returns
returns g c =
    over-made c.args.image.now c.args.word.now _ _ _ _ (ap place_of c.in_ok-from.ensures) c.in_ok-n.ensures.counted (omega arith) (omega arith) c.read.ensures
