-- `chains::psi` meets its contract: the digits of s - 1 are those that its leading zeros leave. Assumes nothing.
use native.Mathlib.Omega.{arith}
use mathlib.Core.Path.{refl}
use Prim.Native.Nat.{◌-◌}
use lib.Count.{leading_le}
use Rattle.chains.proofs.PsiLaws.{psi_small}
use Rattle.chains.specs.Psi.{Ψ}
use Rattle.chains.proofs.psi.Goals as goal

pub overflow_sub-result : goal.overflow_sub-result
overflow_sub-result c = omega (arith, leading_le 32 (c.args.s - 1))

pub returns : goal.returns
unfolding Ψ
returns c = (refl, psi_small c.args.s (omega arith) (omega arith))
