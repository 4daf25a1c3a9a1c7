-- A wrong check digit is told before a wrong padding of the chain table: 12 whatever that padding is. Assumes nothing.
use mathlib.Core.Path.{◌≡◌}
use mathlib.Core.Bool.{false}
use mathlib.Core.List.{List}
use Prim.Native.Nat.{ℕ, ◌%◌}
use native.Mathlib.Omega.{arith}
use lib.Dec.{eqb}
use Rattle.std.proofs.lemmas.Bool.Decides.{nat_tests}
use Rattle.crc.specs.Crc.{crc}
use Rattle.digits.specs.Digits.{luhn}
use Rattle.rules.specs.First.{first}
use Rattle.shell.specs.Shell.{ISRN, digit_rules}
use Rattle.image.specs.Image.{shell_values, shell_pad, SECR, before_SECR}
use Rattle.image.specs.Rules.{content_rules}

pub check_digit-before-table : (c : List ℕ) → SECR c ≡ crc (before_SECR c) → first (digit_rules (shell_values c)) ≡ 0 → shell_pad c ≡ 0 → eqb (luhn (ISRN (shell_values c)) % 10) 0 ≡ false
    → first (content_rules c) ≡ 12
unfolding first
check_digit-before-table c s d p w = grind (arith, nat_tests, s, d, p, w)
