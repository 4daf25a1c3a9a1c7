-- The size of a chain table (document 01, "Sector chains"; 004, 5.1.5.1). Assumes nothing.
use Rattle.std.specs.Prelude.{ℕ, ◌+◌, ◌-◌, ◌*◌, ◌/◌, ◌^◌, ◌≤◌, ◌<◌}
use Rattle.std.specs.Int.Count.{count_leading_zeros}

-- p is the number with s ≤ 2^p < 2s
pub record IsPsi (s p : ℕ) : Type 0 where
  pub enough : s ≤ 2 ^ p
  pub least : 2 ^ p < 2 * s

unfoldable pub Ψ : ℕ → ℕ  -- Ψ by the digits of s - 1; that it is that number, and the only one, is proved in PsiLaws
Ψ s = 32 - count_leading_zeros 32 (s - 1)

unfoldable pub table_bytes : ℕ → ℕ  -- SCTL: the whole bytes of a table of s - 3 elements of Ψ bits
table_bytes s = (Ψ s * (s - 3) + 7) / 8
