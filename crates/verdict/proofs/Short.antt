-- A dataset of 24 bytes that keeps the rules 1 to 9 and 12, told by fewer looks: each is at what a rule says. Assumes nothing.
use mathlib.Core.Path.{◌≡◌, refl, sym, ◌∙◌}
use mathlib.Core.List.{List}
use Prim.Native.Nat.{ℕ, ◌+◌, ◌-◌, ◌*◌, ◌/◌, ◌%◌, ◌≤◌, ◌<◌}
use native.Mathlib.Nat.{add-mul, mul-le-mul, le_refl}
use native.Mathlib.Omega.{arith}
use lib.ListN.{length, get_or, drop}
use Rattle.bits.specs.Bits.{Bytes, field}
use Rattle.bits.proofs.Laws.{field-drop}
use Rattle.crc.specs.Crc.{crc}
use Rattle.crc.specs.Little.{little, part}
use Rattle.crc.proofs.Parts.{pair_law}
use Rattle.chains.specs.Psi.{Ψ, table_bytes}
use Rattle.fields.specs.Fields.{fields, value_at}
use Rattle.fields.specs.declared.Layout.TheVariants as layout
use Rattle.rules.specs.Claim.{Kept}
use Rattle.rules.specs.First.{first}
use Rattle.rules.proofs.First.{first-of-kept}
use Rattle.shell.specs.Shell.{ShellLength, ShellBitMap}
use Rattle.shell.specs.Encode.{isrn_rules}
use Rattle.image.specs.Image.{stated, version, copy, shell_values, dataset, B, S, e#, SCTL, shell_pad, SECR, before_SECR, directory_at, sector_at, table_at, table_pad}
use Rattle.image.specs.Rules.{head_rules, size_rules, content_rules, rules}
use Rattle.image.proofs.Stops.{at-content}
use Rattle.image.proofs.ZeroBytes.{two_bytes}

-- the number of entries stands in the shell
pub entry_count : (c : List ℕ) → e# c ≡ value_at layout.Shell 14 (drop 4 c)
unfolding e# shell_values fields
entry_count c = refl

-- the padding stands from byte 24 on, and a dataset is blocks of four bytes
pub pad_bytes : (c : List ℕ) → shell_pad c ≡ field c 192 (8 * (dataset c - 22))
unfolding shell_pad
pad_bytes c = field-drop c 4 160 (8 * (dataset c - 22))

pub whole_blocks : (c : List ℕ) → dataset c % 4 ≡ 0
unfolding dataset
whole_blocks c = omega arith

-- ---- the card

module _ (c : List ℕ) (bytes : Bytes c) (long : 36 ≤ length c) where
  -- two bytes that are 0
  pub no_bytes : (k : ℕ) → k + 2 ≤ length c → field c (8 * k) 16 ≡ 0 → little (part c k 2) ≡ 0
  no_bytes k h z =
      let t = two_bytes c k (λ i. bytes (k + i)) in
      sym (pair_law c k (get_or c k 0) (get_or c (k + 1) 0) h refl refl) ∙ omega arith

  module _ (blocks : ShellLength (shell_values c) ≡ 6) where
    short : dataset c ≡ 24
    unfolding dataset
    short = rw blocks refl

    pub pad-kept : field c (8 * 24) 16 ≡ 0 → shell_pad c ≡ 0
    unfolding shell_pad
    pad-kept z = rw (short, field-drop c 4 160 16) z

    pub secr-kept : field c (8 * 26) 16 ≡ crc (part c 4 22) → SECR c ≡ crc (before_SECR c)
    unfolding SECR before_SECR
    secr-kept e = rw (short, field-drop c 4 176 16) e

    module _
        (stated-is : stated c ≡ length c) (version-is : version c ≡ 1) (copy_top : copy c ≤ 1) (map : ShellBitMap (shell_values c) ≡ 0)
        (b_least : 32 ≤ B c) (e_least : 1 ≤ e# c) (e_top : e# c + 3 ≤ S c) (table_is : SCTL c ≡ (Ψ (S c) * (S c - 3) + 7) / 8)
        (table_top : 16 + 5 * e# c + SCTL c ≤ B c) (length-is : length c ≡ 4 + S c * B c)
        (pad : shell_pad c ≡ 0) (secr : SECR c ≡ crc (before_SECR c)) (number : Kept (isrn_rules (shell_values c))) where
      head-kept : 0 ≡ first (head_rules c)
      head-kept = sym (first-of-kept (head_rules c) (omega arith) (omega arith))

      sizes-kept : 0 ≡ first (size_rules c)
      unfolding table_bytes
      sizes-kept = sym (first-of-kept (size_rules c) (omega arith) (omega (arith, short)))

      pub all-kept : table_pad c ≡ 0 → 0 ≡ first (rules c)
      all-kept table =
          at-content c head-kept refl sizes-kept refl
          (sym (first-of-kept (content_rules c) (omega arith)
          (secr, (number.0, (number.1.0, (number.1.1.0, (number.1.1.1.0, (pad, (number.1.1.1.1.0, (table, tt))))))))))

-- the bits after the last element end with the table's last byte
pub pad-at : (c : List ℕ) {last width : ℕ} → Ψ (S c) * (S c - 3) ≤ 8 * SCTL c → 8 * SCTL c < Ψ (S c) * (S c - 3) + 8
    → last ≡ 4 + (S c - 2 + copy c) * B c + 1 + 5 * e# c + SCTL c → width ≡ 8 * SCTL c - Ψ (S c) * (S c - 3)
    → field c (8 * last + (8 - width)) width ≡ 0 → table_pad c ≡ 0
unfolding table_pad table_at directory_at sector_at
pad-at c {last} {width} l h el ew z =
    let e : 8 * last + (8 - width) ≡ 8 * (4 + (S c - 2 + copy c) * B c + 2 + 5 * e# c) + Ψ (S c) * (S c - 3) = omega arith in
    rw (← e, ← ew) z

-- the table's last byte lies in the directory in force, and that in the card
pub last-in : (n s b k e t : ℕ) → k ≤ 1 → e + 3 ≤ s → 16 + 5 * e + t ≤ b → n ≡ 4 + s * b → 4 + (s - 2 + k) * b + 1 + 5 * e + t < n
last-in n s b k e t hk he ht en =
    let l : s - 2 + k + 1 ≤ s = omega arith in
    let m : (s - 2 + k + 1) * b ≤ s * b = mul-le-mul l (le_refl b) in
    let a : (s - 2 + k + 1) * b ≡ (s - 2 + k) * b + 1 * b = add-mul (s - 2 + k) 1 b in
    omega arith
