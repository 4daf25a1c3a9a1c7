-- `shell::Shell::isrn` meets its contract: the digits of the four values side by side. Assumes nothing.
use native.Mathlib.Omega.{arith}
use Rattle.shell.proofs.Rules.{in_words}
use Rattle.shell.proofs.Shell.isrn.Goals as goal

pub returns : goal.returns
returns c = (omega arith, in_words c.args.self.now.values c.requires)
