-- Ψ is the one number with S ≤ 2^Ψ < 2S (document 01; 004, 5.1.5.1). Assumes nothing.
use mathlib.Core.Path.{◌≡◌, refl}
use Prim.Native.Nat.{ℕ, suc, ◌-◌, ◌≤◌}
use native.Mathlib.Nat.{pow-suc}
use native.Mathlib.Omega.{arith}
use native.Mathlib.Decide.{dec_lt}
use lib.Count.{count_leading_zeros, leading_top}
use lib.Pow.{pow_mono}
use Rattle.chains.specs.Psi.{IsPsi, Ψ, table_bytes}

pub psi-is : (s : ℕ) → 2 ≤ s → s ≤ 255 → IsPsi s (Ψ s)
unfolding Ψ
psi-is s h b =
    let t = leading_top 32 (s - 1) (omega arith) (omega arith) in
    let e : 32 - count_leading_zeros 32 (s - 1) ≡ suc t.0 = omega (arith, t.1) in
    rw e (record { enough = omega (arith, t.3); least = rw (pow-suc 2 t.0) (omega (arith, t.2)) })

above : (s p q : ℕ) → IsPsi s p → IsPsi s q → q ≤ p
above s p q a b = elim (dec_lt p q) [
  | yes l ↦ absurd (omega (arith, pow_mono l, pow-suc 2 p))
  | no l ↦ omega arith
]

pub psi_one : (s p q : ℕ) → IsPsi s p → IsPsi s q → p ≡ q
psi_one s p q a b = omega (arith, above s p q a b, above s q p b a)

pub psi_small : (s : ℕ) → 2 ≤ s → s ≤ 255 → Ψ s ≤ 8
psi_small s h b =
    let t = psi-is s h b in
    elim (dec_lt 8 (Ψ s)) [ yes l ↦ absurd (omega (arith, pow_mono l, t.least)) | no l ↦ omega arith ]

-- the bytes of a chain table: 7 for S 16, 9 for S 17
example : (table_bytes 16 ≡ 7) × (table_bytes 17 ≡ 9)
unfolding table_bytes Ψ count_leading_zeros
example = (refl, refl)
