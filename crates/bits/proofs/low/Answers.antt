-- `bits::low` meets its contract: the mask keeps the low digits. Assumes nothing.
use mathlib.Core.Path.{◌≡◌}
use Prim.Native.Nat.{ℕ, ◌<◌, ◌*◌, ◌%◌, ◌^◌}
use native.Mathlib.Nat.{one-mul, mod-eq_of_lt}
use native.Mathlib.Omega.{arith}
use lib.Pow.{pow_pos, pow-lt}
use lib.Bits.{and_mask}
use Rattle.bits.proofs.low.Goals as goal

one_shifted : (k : ℕ) → k < 64 → (1 * 2 ^ k) % 2 ^ 64 ≡ 2 ^ k
one_shifted k h = rw (one-mul (2 ^ k)) (mod-eq_of_lt (pow-lt h))

pub overflow_sub-result : goal.overflow_sub-result
overflow_sub-result c = omega (arith, one_shifted c.args.count c.requires, pow_pos c.args.count)

pub returns : goal.returns
returns c = rw (one_shifted c.args.count c.requires) (and_mask c.args.x c.args.count)
