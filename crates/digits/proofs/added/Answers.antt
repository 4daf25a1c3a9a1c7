-- `digits::added` meets its contract: a double above 9 has one ten, and 9 is taken off for it; no byte passes 255. Assumes nothing.
use mathlib.Core.Path.{◌≡◌}
use native.Mathlib.Omega.{arith}
use Prim.Native.Nat.{ℕ, ◌+◌, ◌*◌, ◌^◌, ◌≤◌, ◌<◌}
use Rattle.rules.specs.Claim.{Means}
use Rattle.digits.specs.Words.{digit_bytes, added}
use Rattle.digits.proofs.Bytewise.{each, bounded, above, added_is}
use Rattle.digits.proofs.added.Goals as goal

most : (x : ℕ) → x < 2 ^ 64 → Means (digit_bytes 8 x) → x ≤ 0x0909_0909_0909_0909
unfolding each
most x h m = bounded 8 x h m

sum : (x y : ℕ) → x < 2 ^ 64 → y < 2 ^ 64 → Means (digit_bytes 8 y) → added 8 x y + 9 * above 8 y ≡ x + 2 * y
sum x y hx hy m = added_is 8 x y hx hy m

pub overflow_add-above : goal.overflow_add-above
overflow_add-above c = omega (arith, most c.args.y (omega arith) c.requires.1)

pub overflow_mul-result : goal.overflow_mul-result
overflow_mul-result c = omega (arith, most c.args.y (omega arith) c.requires.1)

pub overflow_add-result : goal.overflow_add-result
overflow_add-result c = omega (arith, most c.args.x (omega arith) c.requires.0, most c.args.y (omega arith) c.requires.1)

pub overflow_mul-result-2 : goal.overflow_mul-result-2
unfolding each
overflow_mul-result-2 c =
    omega (arith, most c.args.x (omega arith) c.requires.0, most c.args.y (omega arith) c.requires.1, sum c.args.x c.args.y (omega arith) (omega arith) c.requires.1)

pub overflow_sub-result : goal.overflow_sub-result
unfolding each
overflow_sub-result c = omega (arith, sum c.args.x c.args.y (omega arith) (omega arith) c.requires.1)

pub returns : goal.returns
unfolding each
returns c = omega (arith, sum c.args.x c.args.y (omega arith) (omega arith) c.requires.1)
