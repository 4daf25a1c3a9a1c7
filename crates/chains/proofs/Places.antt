-- An element lies within its table, and its place is small: i - 1 elements stand before it, and its own bits after them. Assumes nothing.
use mathlib.Core.Path.{◌≡◌}
use Prim.Native.Nat.{ℕ, zero, suc, ◌+◌, ◌-◌, ◌*◌, ◌≤◌}
use native.Mathlib.Nat.{mul-suc, mul-le-mul, mul-le-mul_left}
use native.Mathlib.Numerals.{sub-one}
use native.Mathlib.Omega.{arith}

pub small : (p i : ℕ) → p ≤ 8 → i ≤ 255 → p * i ≤ 8 * 255
small p i h k = mul-le-mul {m₂ = 255} h k

pub ends : (p i : ℕ) → 1 ≤ i → p * i ≡ p * (i - 1) + p
ends p zero a = absurd (omega arith)
ends p (suc k) a = rw sub-one (mul-suc p k)

pub inside : (p i n : ℕ) → 1 ≤ i → i ≤ n → p * (i - 1) + p ≤ p * n
inside p i n a b = omega (arith, ends p i a, mul-le-mul_left p b)
