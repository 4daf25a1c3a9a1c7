-- An annex: what an acceptable image obeys, each rule by a name of its own, as the proofs use it. It is the same as `Obeys` (Exact). Assumes nothing.
use Rattle.std.specs.Prelude.{◌≡◌, List, ℕ, ◌+◌, ◌-◌, ◌*◌, ◌%◌, ◌≤◌, ◌<◌, length, drop}
use Rattle.bits.specs.Bits.{bit}
use Rattle.chains.specs.Products as products
use Rattle.chains.specs.Psi.{Ψ, table_bytes}
use Rattle.crc.specs.Crc.{crc}
use Rattle.digits.specs.Digits.{decimal, luhn}
use Rattle.rules.specs.Claim.{Means}
use Rattle.shell.specs.Shell.{ShellBitMap, IIN, OID, ISSN, CHD}
use Rattle.image.specs.Image.{stated, version, copy, shell_values, isrn, dataset, B, S, e#, SCTL, SECR, before_SECR, table_at, element}
use Rattle.image.specs.Obeys.{IsProduct}

-- every bit of l from bit a up to bit z is 0
abbrev pub Zeros : List ℕ → ℕ → ℕ → Type 0
Zeros l a z = (i : ℕ) → a ≤ i → i < z → bit l i ≡ 0

pub record Facts (c : List ℕ) : Type 0 where
  -- 1
  pub head : 4 ≤ length c
  pub length_stated : stated c ≡ length c
  -- 2, 3, 4
  pub version_one : version c ≡ 1
  pub copy_in_force : copy c ≤ 1
  pub shell_there : 36 ≤ length c
  -- 5: document 01 refuses every map but 0 (docs/DECISIONS.md, 1)
  pub bit_map_zero : ShellBitMap (shell_values c) ≡ 0
  pub dataset_least : 22 ≤ dataset c
  -- 6
  pub sectors_least : 4 ≤ S c
  pub size_least : 32 ≤ B c
  pub entries : (1 ≤ e# c) × (e# c ≤ S c - 3)
  pub table-bytes : SCTL c ≡ table_bytes (S c)
  pub directory_fits : 16 + 5 * e# c + SCTL c ≤ B c
  pub dataset_fits : dataset c ≤ B c
  pub whole : length c ≡ 4 + S c * B c
  -- 7
  pub checksum : SECR c ≡ crc (before_SECR c)
  -- 8: the digits, and the shell's padding from byte 20 up to the checksum
  pub iin : Means (decimal 6 (IIN (shell_values c)))
  pub oid : Means (decimal 4 (OID (shell_values c)))
  pub issn : Means (decimal 7 (ISSN (shell_values c)))
  pub chd : Means (decimal 1 (CHD (shell_values c)))
  pub shell_padding : Zeros (drop 4 c) 160 (8 * (dataset c - 2))
  -- 12: CHD is the check digit of the seventeen digits before it
  pub check_digit : luhn (isrn c) % 10 ≡ 0
  -- 9: the bits after the last element, to the end of the table
  pub table_padding : Zeros c (8 * table_at c + Ψ (S c) * (S c - 3)) (8 * (table_at c + SCTL c))
  -- 10: every product has a chain
  pub chained : products.Chained (IsProduct c) (element c) (S c)
  -- 11: no two products have a sector in common
  pub disjoint : products.Disjoint (IsProduct c) (element c) (S c)

-- entry j is a product of an acceptable image: none of 1 to 12 and 20 holds
pub record Present (c : List ℕ) (j : ℕ) : Type 0 where
  pub obeys : Facts c
  pub is-product : IsProduct c j
