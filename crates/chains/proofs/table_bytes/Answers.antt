-- `chains::table_bytes` meets its contract: below four sectors a table has no element. Assumes nothing.
use mathlib.Core.Path.{◌≡◌}
use Prim.Native.Nat.{ℕ, ◌-◌, ◌<◌}
use native.Mathlib.Omega.{arith}
use native.Mathlib.Nat.{mul-zero}
use Rattle.chains.specs.Psi.{Ψ, table_bytes}
use Rattle.chains.proofs.table_bytes.Goals as goal

few : (s : ℕ) → s < 4 → 0 ≡ table_bytes s
unfolding table_bytes
few s h = let e : s - 3 ≡ 0 = omega arith in rw (e, mul-zero (Ψ s))

pub returns-then-s-lt4 : goal.returns-then-s-lt4
returns-then-s-lt4 c = few c.args.s c.if-s-lt4.true

pub returns : goal.returns
unfolding table_bytes
returns c = let d = rw c.psi.ensures.0 at c.div_ceil.ensures in omega arith
