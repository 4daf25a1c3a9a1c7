-- `digits::decimal` meets its contract: no digit is marked exactly where all are decimal. Assumes nothing.
use Rattle.digits.proofs.Nibbles.{word}
use native.Mathlib.Omega.{arith}
use Rattle.digits.proofs.decimal.Goals as goal

pub returns : goal.returns
returns c = word 16 c.args.v (omega arith) (omega arith)
