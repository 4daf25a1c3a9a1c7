-- The rules 1 to 6 put every place of an image within it: S and B are bytes, and the directory in force is one of S sectors.
-- Assumes nothing.
use mathlib.Core.Path.{◌≡◌}
use mathlib.Core.List.{List}
use Prim.Native.Nat.{ℕ, ◌+◌, ◌-◌, ◌*◌, ◌/◌, ◌≤◌, ◌<◌}
use native.Mathlib.Nat.{suc-mul, mul-le-mul, mul-le-mul_right}
use native.Mathlib.Omega.{arith}
use lib.ListN.{length, drop}
use Rattle.bits.proofs.Laws.{field_lt}
use Rattle.fields.specs.Fields.{fields}
use Rattle.chains.specs.Psi.{Ψ, table_bytes}
use Rattle.chains.proofs.PsiLaws.{psi_small}
use Rattle.rules.specs.Claim.{Kept}
use Rattle.image.specs.Image.{copy, shell_values, dataset, B, S, SCTL, sector_at, directory_at, table_at}
use Rattle.image.specs.Rules.{head_rules, size_rules}
use Rattle.image.specs.Bounds.{Bounds}

module _ (c : List ℕ) (h : Kept (head_rules c)) (k : Kept (size_rules c)) where
  -- sector i lies within the image
  pub sector-in : (i : ℕ) → i < S c → sector_at c i + B c ≤ length c
  unfolding sector_at
  sector-in i l = omega (arith, k, suc-mul i (B c), mul-le-mul_right (B c) l)

  s_top : S c ≤ 255
  unfolding S shell_values fields
  s_top = omega (arith, field_lt (drop 4 c) 136 8)

  b_top : B c ≤ 255
  unfolding B shell_values fields
  b_top = omega (arith, field_lt (drop 4 c) 128 8)

  table_is : SCTL c ≡ (Ψ (S c) * (S c - 3) + 7) / 8
  unfolding table_bytes
  table_is = k.1.1.1.1.1.0

  directory_in : directory_at c + B c ≤ length c
  unfolding directory_at
  directory_in = sector-in (S c - 2 + copy c) (omega (arith, k.1.1.0, h.1.1.1.0))

  table_in : table_at c + SCTL c ≤ length c
  unfolding table_at
  table_in = omega (arith, directory_in, k.1.1.1.1.1.1.0)

  pub bounds : Bounds c
  unfolding dataset
  bounds = record {
    copy_top = h.1.1.1.0;
    s_least = k.1.1.0;
    s_top = s_top;
    b_least = k.1.1.1.0;
    b_top = b_top;
    e_least = k.1.1.1.1.0.0;
    e_top = omega (arith, k.1.1.1.1.0.1, k.1.1.0);
    dataset_least = k.1.0;
    dataset_top = k.1.1.1.1.1.1.1.0;
    shell_in = omega (arith, k.1.1.0, mul-le-mul_right {n = S c} (B c) k.1.1.0, k.1.1.1.1.1.1.1.1.0);
    psi_top = psi_small (S c) (omega (arith, k.1.1.0)) s_top;
    table_top = k.1.1.1.1.1.1.0;
    elements-in = omega (arith, table_is);
    elements_fill = omega (arith, table_is);
    directory_in = directory_in;
    table_in = table_in;
    length_top = omega (arith, mul-le-mul {n₂ = 255} {m₂ = 255} s_top b_top, k.1.1.1.1.1.1.1.1.0);
  }
