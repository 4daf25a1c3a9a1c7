-- `image::sector_from` meets its contract: two bytes multiplied are below 65,536. Assumes nothing.
use mathlib.Core.Path.{refl}
use native.Mathlib.Omega.{arith}
use Prim.Native.Nat.{ℕ, ◌*◌, ◌≤◌}
use native.Mathlib.Nat.{mul-le-mul}
use borrow.Author.Rules.{rules}
use Rattle.image.proofs.sector_from.Goals as goal

small : (i b : ℕ) → i ≤ 255 → b ≤ 255 → i * b ≤ 255 * 255
small i b h k = mul-le-mul {n₂ = 255} {m₂ = 255} h k

pub overflow_mul-result : goal.overflow_mul-result
overflow_mul-result c = omega (arith, small c.args.i c.args.size (search rules) (search rules))

pub overflow_add-result : goal.overflow_add-result
overflow_add-result c = omega (arith, small c.args.i c.args.size (search rules) (search rules))

pub returns : goal.returns
returns c = (refl, omega (arith, small c.args.i c.args.size (search rules) (search rules)))
